use Rattle.h264_bits.proofs.Elements.{bytes-done, bytes-lost}
use Rattle.h264_bits.proofs.element.read_bytes.Goals as goal

pub returns-in-Ok-clause-meets : goal.returns-in-Ok-clause-meets
returns-in-Ok-clause-meets g c = let e = c.in-Ok.ensures in bytes-done _ _ _ _ _ _ _ _ e.taken e.fits e.end

pub returns-in-Err-clause-meets : goal.returns-in-Err-clause-meets
returns-in-Err-clause-meets g c = let e = c.in-Err.ensures in bytes-lost _ _ _ _ _ _ _ _ c.last_bit.ensures e.none e.kept
