use Rattle.std.proofs.Common.{w32}
use Rattle.std.proofs.lemmas.Int.{to_z-of_z}
use Rattle.h264_lines.proofs.lines.frame_line.Goals as goal

pub returns : goal.returns
returns c = rw (
  to_z-of_z w32 c.args.count c.ranges.count,
  c.clear.ensures.bytes,
  c.as_str-digits.ensures.value,
  c.in_ok-digits.ensures,
  c.digest.ensures,
  c.width-width.ensures.value,
  c.height-height.ensures.value,
) at c.in_ok-write.ensures.bytes
