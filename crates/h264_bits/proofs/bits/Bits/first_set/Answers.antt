use Rattle.std.proofs.Common.{arith, ◌<◌, ◌*◌, length}
use Rattle.h264_bits.proofs.bits.Bits.first_set.Goals as goal

pub stream_bit-requires : goal.stream_bit-requires
stream_bit-requires c = let inside : c.in_ok-set.set < 8 * length c.self.inside.bytes.now = c.in_ok-set.ensures.inside in
    rw (← c.self.invariant.0) (omega arith)
