use Rattle.std.proofs.Common.{arith, ◌∙◌, ◌++◌, ◌+◌, ◌-◌, ◌<◌, ap, sym, subst, length, []}
use Rattle.std.proofs.lemmas.Result.{err_from_is_err_and}
use Rattle.h264_units.specs.Stream.{started}
use Rattle.h264_units.specs.Scanned.{Plans}
use Rattle.h264_units.specs.declared.scan.Phase.TheVariants.{Inside}
use Rattle.h264_units.proofs.Plans.{refused-along, stray-refused, begun, plans-begun}
use Rattle.h264_units.proofs.plan.plan_between.Goals as goal
use Rattle.h264_units.proofs.plan.plan_between.Goals.{then-piece-zeros-ne1-via-then-piece-zeros-ne1}
use Rattle.h264_units.proofs.plan.plan_between.Goals.{then-piece-zeros-ne1-via-else-piece-zeros-ne1+then-lead-lt2}

pub returns-then-piece-zeros-ne1-clause-err : goal.returns-then-piece-zeros-ne1-clause-err
returns-then-piece-zeros-ne1-clause-err c =
    let more : c.zero_run-zeros.result < length c.args.piece.now = omega arith in
    stray-refused c.args.at c.args.lead c.args.piece.now c.zero_run-zeros.result c.zero_run-zeros.ensures.within c.zero_run-zeros.ensures.zeros more
    (c.zero_run-zeros.ensures.other more)
    (λ one. elim c.then-piece-zeros-ne1.branch [
      | then-piece-zeros-ne1-via-then-piece-zeros-ne1 w ↦ absurd (w.if-piece-zeros-ne1.true one)
      | then-piece-zeros-ne1-via-else-piece-zeros-ne1+then-lead-lt2 w ↦ w.if-lead-lt2.true
    ])
    c.requires

pub returns-in_err-plan-clause-err : goal.returns-in_err-plan-clause-err
returns-in_err-plan-clause-err c =
    let p = err_from_is_err_and c.from_residual.result c.from_residual.ensures.1 in
    let more : c.zero_run-zeros.result < length c.args.piece.now = omega arith in
    let e = begun c.args.at c.args.lead c.args.piece.now c.zero_run-zeros.result c.zero_run-zeros.ensures.within c.zero_run-zeros.ensures.zeros more
    (omega arith) c.if-lead-lt2.false in
    rw (p.1, p.2) (refused-along c.args.at _ _ _ (ap (λ l. started (c.args.lead + c.zero_run-zeros.result - 2) [] ++ l) c.following.ensures ∙ sym e)
    c.in_err-plan.ensures.err)

pub returns-clause-ok : goal.returns-clause-ok
returns-clause-ok c =
    let more : c.zero_run-zeros.result < length c.args.piece.now = omega arith in
    plans-begun c.args.at c.args.lead c.args.piece.now c.zero_run-zeros.result c.zero_run-zeros.ensures.within c.zero_run-zeros.ensures.zeros more
    (omega arith) c.if-lead-lt2.false _
    (subst (λ l. Plans (Inside 0) (c.args.lead + c.zero_run-zeros.result - 2) [] l c.in_ok-plan.plan) c.following.ensures c.in_ok-plan.ensures.ok)
