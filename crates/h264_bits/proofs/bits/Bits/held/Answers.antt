use Rattle.h264_bits.proofs.Peeks.{peek-below}
use Rattle.h264_bits.proofs.bits.Bits.held.Goals as goal

pub returns-clause-small : goal.returns-clause-small
returns-clause-small c = rw c.next_bits-bits.ensures.value (peek-below c.args.n c.args.self.now.body.bytes c.args.self.now.at)
