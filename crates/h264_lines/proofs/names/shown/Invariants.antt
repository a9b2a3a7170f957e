use Rattle.std.proofs.Common.{◌≡◌, flat_map, string_bytes}
use Rattle.h264_lines.specs.Names.{shown_character}
use Rattle.h264_lines.proofs.names.shown.Given as goal

abbrev pub invariant-loop-c : goal.invariant-loop-c
invariant-loop-c l = string_bytes l.out ≡ flat_map shown_character l.yielded
