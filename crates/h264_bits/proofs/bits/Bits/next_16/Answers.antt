use Rattle.std.proofs.Common.{rules}
use Rattle.h264_bits.proofs.Peeks.{peek-below}
use Rattle.h264_bits.proofs.bits.Bits.next_16.Goals as goal

pub overflow_cast-result : goal.overflow_cast-result
overflow_cast-result c = let b = peek-below 16 c.args.self.now.body.bytes c.args.self.now.at in rw c.next_bits.ensures.value (search rules)
