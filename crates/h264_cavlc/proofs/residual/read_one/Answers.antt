use Rattle.std.proofs.Common.{rules, arith, ◌≡◌, ◌-◌, [], refl}
use Rattle.std.proofs.lemmas.Result.{err_from_is_err_and}
use Rattle.std.proofs.lemmas.Int.{to_z-of_z}
use Rattle.std.specs.Int.{w16}
use mir.Val.{SFits}
use Rattle.h264_base.specs.Meets.{Is}
use Rattle.h264_base.proofs.Steps.{bind, bind_as, stop, done}
use Rattle.h264_cavlc.specs.Block.{coefficients}
use Rattle.h264_cavlc.specs.Zeros.{runs_before}
use Rattle.h264_base.proofs.Gives.{gives-met}
use Rattle.h264_cavlc.proofs.Counts.{HasCount, gives-count}
use Rattle.h264_cavlc.proofs.Ends.{met-within}
use Rattle.h264_cavlc.proofs.Single.{only-placed}
use Rattle.h264_cavlc.proofs.residual.read_one.Goals as goal

pub returns-in_err-level-clause-meets : goal.returns-in_err-level-clause-meets
unfolding coefficients
returns-in_err-level-clause-meets g c = let p = err_from_is_err_and c.from_residual.result c.from_residual.ensures.1 in
    rw (p.1, p.2) (stop _ c.in_err-level.ensures)

pub returns-in_err-zeros-clause-meets : goal.returns-in_err-zeros-clause-meets
unfolding coefficients
returns-in_err-zeros-clause-meets g c = let p = err_from_is_err_and c.from_residual-in_err-zeros.result c.from_residual-in_err-zeros.ensures.1 in
    rw (p.1, p.2) (bind_as _ c.in_ok-level.ensures (λ v e. stop _ c.in_err-zeros.ensures.meets))

pub returns-clause-meets : goal.returns-clause-meets
unfolding coefficients runs_before
returns-clause-meets g c =
    let fits : SFits w16 c.in_ok-level.level = search rules in
    let same = to_z-of_z w16 c.in_ok-level.level fits in
    let one = c.requires.one in
    let room = c.in_ok-zeros.ensures.fits in
    let none : c.args.token.total - 1 ≡ 0 = omega arith in
    let placed = only-placed g.row.N c.in_ok-zeros.zeros c.from.result c.in_ok-level.level (omega arith) c.from.ensures in
    bind_as _ c.in_ok-level.ensures (λ v e. bind _ c.in_ok-zeros.ensures.meets
    (rw none (bind {view = λ (u : Unit {0}). []} _ (done _ _ (Is (λ (u : Unit {0}). [])) [] _ _ tt refl)
    (done _ _ _ _ _ _ _ (rw (e, same, placed) refl)))))

pub returns-clause-nonzero : goal.returns-clause-nonzero
returns-clause-nonzero g c = gives-met HasCount (gives-count g.row.N c.args.token c.requires.fits c.requires.within) (returns-clause-meets g c)

pub returns-clause-inside : goal.returns-clause-inside
returns-clause-inside g c h = met-within h (returns-clause-meets g c)
