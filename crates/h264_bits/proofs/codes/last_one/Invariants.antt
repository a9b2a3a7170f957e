use Rattle.h264_bits.proofs.Clear.{AreZeros}
use Rattle.h264_bits.proofs.codes.last_one.Given as goal

-- the bytes that were passed are 0
abbrev pub invariant-loop-k : goal.invariant-loop-k
invariant-loop-k l = AreZeros l.bytes l.k
