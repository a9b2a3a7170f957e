use Rattle.std.proofs.Common.{◌≡◌, ◌+◌, ◌-◌, arith}
use Rattle.std.proofs.lemmas.Nat.{shr-shr}
use Rattle.h264_bits.proofs.window.first_of.Goals as goal

pub returns : goal.returns
returns c = let e : 64 - c.args.n ≡ 1 + (63 - c.args.n) = omega arith in rw e (shr-shr c.args.k.number 1 (63 - c.args.n))
