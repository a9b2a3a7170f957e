use Rattle.std.proofs.Common.{◌≡◌, ◌==◌, ◌-◌, ◌/◌, ◌<◌, ◌^◌, ◌≤ℤ◌, neg_ℤ, pos, false, length, rules, arith, ◌∙◌, refl}
use Rattle.std.proofs.lemmas.Int.{ints}
use Rattle.std.proofs.lemmas.Bool.Decides.{nat_tests}
use Rattle.std.proofs.Math.Nat.{div-le_self}
use Rattle.std.specs.Int.{w64}
use mir.Val.{SFits}
use Rattle.h264_poc.proofs.Sums.{added-fits, multiplied-fits}
use Rattle.h264_poc.proofs.cycle.expected.Goals as goal

pub returns-clause-is : goal.returns-clause-is
returns-clause-is c =
    let some : (c.args.abs == 0) ≡ false = (let h = c.if-abs-eq0.false in grind (arith, nat_tests)) in
    let below : (c.args.abs - 1) / length c.args.offsets.now < 2 ^ 63 =
    (let le = div-le_self (c.args.abs - 1) (length c.args.offsets.now) in let h = c.requires.fits in omega arith) in
    let fits : SFits w64 c.sum_of.result = search rules in
    let a : neg_ℤ (pos (2 ^ 49)) ≤ℤ c.in-Some.cycles = (let h = c.if-cycles.false in grind (arith, ints)) in
    let b : c.in-Some.cycles ≤ℤ pos (2 ^ 49) = (let h = c.if-cycles-gt-FAR.false in grind (arith, ints)) in
    let l = c.sum_of-begun.ensures.above in
    let u = c.sum_of-begun.ensures.below in
    let product = c.in-Some.ensures.1 ∙ multiplied-fits ((c.args.abs - 1) / length c.args.offsets.now) c.sum_of.result below fits in
    added-fits c.in-Some.cycles c.sum_of-begun.result a b (omega (arith, ints)) (omega (arith, ints)) ∙
    rw (product, c.sum_of.ensures.is, c.sum_of-begun.ensures.is, some) refl

pub returns-clause-above : goal.returns-clause-above
returns-clause-above c =
    let a : neg_ℤ (pos (2 ^ 48)) ≤ℤ c.in-Some.cycles = (let h = c.if-cycles.false in grind (arith, ints)) in
    let b : c.in-Some.cycles ≤ℤ pos (2 ^ 48) = (let h = c.if-cycles-gt-FAR.false in grind (arith, ints)) in
    let l = c.sum_of-begun.ensures.above in
    let u = c.sum_of-begun.ensures.below in
    omega (arith, ints)

pub returns-clause-below : goal.returns-clause-below
returns-clause-below c =
    let a : neg_ℤ (pos (2 ^ 48)) ≤ℤ c.in-Some.cycles = (let h = c.if-cycles.false in grind (arith, ints)) in
    let b : c.in-Some.cycles ≤ℤ pos (2 ^ 48) = (let h = c.if-cycles-gt-FAR.false in grind (arith, ints)) in
    let l = c.sum_of-begun.ensures.above in
    let u = c.sum_of-begun.ensures.below in
    omega (arith, ints)
