use Rattle.std.proofs.Common.{arith, ap, subst, ◌++◌}
use Rattle.std.proofs.lemmas.Result.{err_from_is_err_and}
use Rattle.h264_units.specs.Scanned.{rest_of, Plans}
use Rattle.h264_units.proofs.Plans.{refused-along, front-refused, plans-front, cut-refused, opened, not-opened}
use Rattle.h264_units.proofs.plan.plan_piece.Goals as goal

pub returns-in_err-plan-clause-err : goal.returns-in_err-plan-clause-err
returns-in_err-plan-clause-err c =
    let p = err_from_is_err_and c.from_residual.result c.from_residual.ensures.1 in
    rw (p.1, p.2) (front-refused c.args.at c.args.lead c.args.body.now c.args.phase c.args.piece.now _ c.if-piece-room.false
    (omega (arith, c.length.ensures, c.requires.kept.1)) _
    (refused-along c.args.at _ _ _ (ap (λ l. rest_of c.args.phase c.args.lead c.args.body.now ++ l) c.front.ensures) c.in_err-plan.ensures.err))

pub returns-then-is_open-clause-err : goal.returns-then-is_open-clause-err
returns-then-is_open-clause-err c =
    cut-refused c.args.at c.args.lead c.args.body.now c.args.phase c.args.piece.now _ c.if-piece-room.false
    (omega (arith, c.length.ensures, c.requires.kept.1)) c.in_ok-plan.plan
    (subst (λ l. Plans c.args.phase c.args.lead c.args.body.now l c.in_ok-plan.plan) c.front.ensures c.in_ok-plan.ensures.ok)
    (opened c.in_ok-plan.plan.phase c.if-is_open.ensures)

pub returns-clause-ok : goal.returns-clause-ok
returns-clause-ok c =
    plans-front c.args.at c.args.lead c.args.body.now c.args.phase c.args.piece.now _ c.if-piece-room.false
    (omega (arith, c.length.ensures, c.requires.kept.1)) c.in_ok-plan.plan
    (subst (λ l. Plans c.args.phase c.args.lead c.args.body.now l c.in_ok-plan.plan) c.front.ensures c.in_ok-plan.ensures.ok)
    (not-opened c.in_ok-plan.plan.phase c.if-is_open.ensures)
