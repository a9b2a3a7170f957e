use Rattle.h264_bits.proofs.Elements.{trailing-done, trailing-lost}
use Rattle.h264_bits.proofs.element.read_trailing.Goals as goal

pub returns-in-Ok : goal.returns-in-Ok
returns-in-Ok g c = trailing-done _ _ _ _ _ c.in-Ok.ensures.stand c.in-Ok.ensures.end

pub returns-in-Err : goal.returns-in-Err
returns-in-Err g c = trailing-lost _ _ _ _ _ _ c.stream_bit-bit.ensures c.in-Err.ensures.none c.in-Err.ensures.kept
