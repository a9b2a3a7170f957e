use Rattle.std.proofs.Common.{◌∙◌, ◌-◌, ◌+◌, ap, arith}
use Rattle.std.specs.Prelude.{slice_index}
use Rattle.std.proofs.lemmas.Result.{err_from_is_err_and}
use Rattle.h264_cabac.proofs.Runs.{unary-one, unary-zero, unary-none, unary-end}
use Rattle.h264_cabac.proofs.bins.read_unary.Goals as goal

pub returns-in_err-regular-clause-value : goal.returns-in_err-regular-clause-value
returns-in_err-regular-clause-value c =
    let p = err_from_is_err_and c.from_residual.result c.from_residual.ensures.1 in
    let t = c.loop-k-test.true in
    rw p.1 (c.loop-k.invariant ∙ unary-none c.args.indices (53 - c.loop-k.k) (53 - c.loop-k.k - 1) c.loop-k.k _ _ (omega arith)
    (ap (slice_index c.args.indices) c.min.ensures)
    c.in_err-regular.ensures.step)

pub returns-then-not-branch-clause-value : goal.returns-then-not-branch-clause-value
returns-then-not-branch-clause-value c =
    let t = c.loop-k-test.true in
    c.loop-k.invariant ∙ unary-zero c.args.indices (53 - c.loop-k.k) (53 - c.loop-k.k - 1) c.loop-k.k _ _ _ _ (omega arith)
    (ap (slice_index c.args.indices) c.min.ensures)
    c.if-not-branch.true c.in_ok-regular.ensures.step

pub loop-k-preserved : goal.loop-k-preserved
loop-k-preserved c =
    let t = c.loop-k-test.true in
    c.loop-k.invariant ∙ unary-one c.args.indices (53 - c.loop-k.k) (53 - (c.loop-k.k + 1)) c.loop-k.k _ _ _ _ (omega arith)
    (ap (slice_index c.args.indices) c.min.ensures) c.if-not-branch.false c.in_ok-regular.ensures.step

pub returns-clause-value : goal.returns-clause-value
returns-clause-value c =
    let t = c.loop-k-test.false in
    c.loop-k.invariant ∙ unary-end c.args.indices (53 - c.loop-k.k) c.loop-k.k _ (omega arith)
