use Rattle.std.proofs.Common.{◌≡◌, ◌==◌, false, arith}
use Rattle.std.proofs.lemmas.Bool.Decides.{nat_tests}
use Rattle.h264_bits.proofs.bits.Bits.te.Goals as goal

pub returns-then-range-ne1-clause-none : goal.returns-then-range-ne1-clause-none
returns-then-range-ne1-clause-none c =
    let n = c.if-range-ne1.true in
    let t : (c.args.range == 1) ≡ false = grind (arith, nat_tests) in
    rw t c.ue.ensures.none

pub returns-in-Err-clause-none : goal.returns-in-Err-clause-none
returns-in-Err-clause-none c = let t : c.args.range ≡ 1 = (let n = c.if-range-ne1.false in omega arith) in rw t c.in-Err.ensures.none
