use Rattle.h264_bits.proofs.Readings.{more-before}
use Rattle.h264_bits.proofs.bits.Bits.more.Goals as goal

pub returns : goal.returns
returns c =
    let i = c.self.invariant in
    rw (← c.self.view_is, ← i.0) (more-before c.self.inside.bytes.now c.self.inside.at c.self.inside.last_one i.3 i.1)
