use Rattle.h264_bits.proofs.Elements.{align-done, align-lost}
use Rattle.h264_bits.proofs.element.read_align.Goals as goal

pub returns-in-Some : goal.returns-in-Some
returns-in-Some g c = align-lost _ _ _ _ _ c.in-Some.ensures

pub returns : goal.returns
returns g c = align-done _ _ _ _ _ c.in_default.ensures c.to_byte.ensures
