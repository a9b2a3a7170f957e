use Rattle.std.proofs.Common.{◌≡◌, vec_len}
use Rattle.h264_write.specs.Packed.{packed}
use Rattle.h264_write.proofs.pack.pack.Given as goal

abbrev pub invariant-loop-i : goal.invariant-loop-i
invariant-loop-i l = record { items : l.bytes.items ≡ packed l.i l.bits; count : vec_len l.bytes ≡ l.i }
