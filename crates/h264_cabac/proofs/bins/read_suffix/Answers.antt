use Rattle.std.proofs.Common.{◌∙◌, ◌≡◌, ◌≤◌, ◌+◌, ◌-◌, ◌^◌, ap, arith, sym, rules}
use Rattle.std.proofs.lemmas.Result.{err_from_is_err_and}
use Rattle.h264_bits.proofs.Peeks.{pow-few}
use Rattle.h264_cabac.specs.Bins.{decoded}
use Rattle.h264_cabac.specs.Elements.{golomb_from}
use Rattle.h264_cabac.proofs.Runs.{golomb-one, golomb-zero, golomb-short, golomb-none, golomb-end, one-moved, power-more}
use Rattle.h264_cabac.proofs.bins.read_suffix.Goals as goal

pub returns-in_err-bypass-clause-value : goal.returns-in_err-bypass-clause-value
returns-in_err-bypass-clause-value c =
    let p = err_from_is_err_and c.from_residual.result c.from_residual.ensures.1 in
    let t = c.loop-ones-test.true in
    let l = c.loop-ones in
    rw p.1 (l.invariant.0 ∙ golomb-none (17 - l.ones) (16 - l.ones) (c.args.first + l.ones) l.sum _ (omega arith) c.in_err-bypass.ensures.step)

pub returns-in_err-number-clause-value : goal.returns-in_err-number-clause-value
returns-in_err-number-clause-value c =
    let p = err_from_is_err_and c.from_residual-in_err-number.result c.from_residual-in_err-number.ensures.1 in
    let t = c.loop-ones-test.true in
    let l = c.loop-ones in
    rw p.1 (l.invariant.0 ∙ golomb-short (17 - l.ones) (16 - l.ones) (c.args.first + l.ones) l.sum _ _ _ (omega arith) c.if-not-branch.true
    c.in_ok-bypass.ensures.step c.in_err-number.ensures.value)

pub overflow_add-result : goal.overflow_add-result
overflow_add-result c =
    let t = c.loop-ones-test.true in
    let i = c.loop-ones.invariant.1 in
    let few = c.requires.c_max in
    let n = c.in_ok-number.ensures.small in
    let p : 2 ^ (c.args.first + c.loop-ones.ones) ≤ 2 ^ 19 = (pow-few (c.args.first + c.loop-ones.ones) 19 (let f = c.requires.first in omega arith)).1 in
    search rules

pub returns-then-not-branch-clause-value : goal.returns-then-not-branch-clause-value
returns-then-not-branch-clause-value c =
    let t = c.loop-ones-test.true in
    let l = c.loop-ones in
    l.invariant.0 ∙ golomb-zero (17 - l.ones) (16 - l.ones) (c.args.first + l.ones) l.sum _ _ _ _ _ (omega arith) c.if-not-branch.true
    c.in_ok-bypass.ensures.step c.in_ok-number.ensures.value

pub returns-then-not-branch-clause-small : goal.returns-then-not-branch-clause-small
returns-then-not-branch-clause-small c =
    let t = c.loop-ones-test.true in
    let i = c.loop-ones.invariant.1 in
    let few = c.requires.c_max in
    let n = c.in_ok-number.ensures.small in
    let p : 2 ^ (c.args.first + c.loop-ones.ones) ≤ 2 ^ 19 = (pow-few (c.args.first + c.loop-ones.ones) 19 (let f = c.requires.first in omega arith)).1 in
    omega arith

pub overflow_add-sum : goal.overflow_add-sum
overflow_add-sum c =
    let t = c.loop-ones-test.true in
    let i = c.loop-ones.invariant.1 in
    let few = c.requires.c_max in
    let near : c.args.first + c.loop-ones.ones ≤ 19 = (let f = c.requires.first in omega arith) in
    let p : 2 ^ (c.args.first + c.loop-ones.ones) ≤ 2 ^ 19 = (pow-few (c.args.first + c.loop-ones.ones) 19 near).1 in
    rw (one-moved (c.args.first + c.loop-ones.ones) near) (search rules)

pub loop-ones-preserved : goal.loop-ones-preserved
loop-ones-preserved c =
    let t = c.loop-ones-test.true in
    let l = c.loop-ones in
    let i = c.loop-ones.invariant.1 in
    let near : c.args.first + c.loop-ones.ones ≤ 19 = (let f = c.requires.first in omega arith) in
    let place : c.args.first + (c.loop-ones.ones + 1) ≡ c.args.first + c.loop-ones.ones + 1 = omega arith in
    let power = power-more (c.args.first + c.loop-ones.ones) (c.args.first + (c.loop-ones.ones + 1)) (omega arith) in
    rw (one-moved (c.args.first + c.loop-ones.ones) near) (
      l.invariant.0 ∙ (golomb-one (17 - l.ones) (17 - (l.ones + 1)) (c.args.first + l.ones) l.sum _ _ _ (omega arith) c.if-not-branch.false
          c.in_ok-bypass.ensures.step ∙
          ap (λ k. decoded (golomb_from (17 - (l.ones + 1)) k (l.sum + 2 ^ (c.args.first + l.ones))) c.bypass.new.self) (sym place)),
      omega arith,
    )

pub returns-clause-value : goal.returns-clause-value
returns-clause-value c =
    let t = c.loop-ones-test.false in
    let l = c.loop-ones in
    l.invariant.0 ∙ golomb-end (17 - l.ones) (c.args.first + l.ones) l.sum _ (omega arith)
