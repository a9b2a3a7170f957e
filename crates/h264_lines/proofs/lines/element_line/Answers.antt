use Rattle.std.proofs.Common.{w64}
use Rattle.std.proofs.lemmas.Int.{to_z-of_z}
use Rattle.h264_lines.proofs.lines.element_line.Goals as goal

pub returns : goal.returns
returns c = rw (to_z-of_z w64 c.args.value c.ranges.value, c.clear.ensures.bytes, c.text-name.ensures) at c.in_ok-write.ensures.bytes
