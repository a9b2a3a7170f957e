use Rattle.std.proofs.Common.{◌≡◌, ◌++◌, take, string_bytes}
use Rattle.h264_lines.specs.Trail.{element_lines}
use Rattle.h264_lines.proofs.trail.add_lines.Given as goal

abbrev pub invariant-loop-element : goal.invariant-loop-element
invariant-loop-element l = string_bytes l.lines ≡ string_bytes l.fn.lines ++ element_lines (take l.element-index l.elements)
