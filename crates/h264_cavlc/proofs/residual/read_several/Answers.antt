use Rattle.std.proofs.Common.{refl}
use Rattle.std.proofs.lemmas.Result.{err_from_is_err_and}
use Rattle.h264_base.proofs.Steps.{bind, bind_as, stop, done}
use Rattle.h264_cavlc.specs.Block.{coefficients}
use Rattle.h264_base.proofs.Gives.{gives-met}
use Rattle.h264_cavlc.proofs.Counts.{HasCount, gives-count}
use Rattle.h264_cavlc.proofs.Ends.{met-within}
use Rattle.h264_cavlc.proofs.residual.read_several.Goals as goal

pub returns-in_err-read_levels-clause-meets : goal.returns-in_err-read_levels-clause-meets
unfolding coefficients
returns-in_err-read_levels-clause-meets g c = let p = err_from_is_err_and c.from_residual.result c.from_residual.ensures.1 in
    rw (p.1, p.2) (stop _ c.in_err-read_levels.ensures)

pub returns-in_err-zeros-clause-meets : goal.returns-in_err-zeros-clause-meets
unfolding coefficients
returns-in_err-zeros-clause-meets g c = let p = err_from_is_err_and c.from_residual-in_err-zeros.result c.from_residual-in_err-zeros.ensures.1 in
    rw (p.1, p.2) (bind_as _ c.in_ok-read_levels.ensures (λ v e. stop _ c.in_err-zeros.ensures.meets))

pub returns-in_err-read_places-clause-meets : goal.returns-in_err-read_places-clause-meets
unfolding coefficients
returns-in_err-read_places-clause-meets g c = let p =
    err_from_is_err_and c.from_residual-in_err-read_places.result c.from_residual-in_err-read_places.ensures.1 in
    rw (p.1, p.2) (bind_as _ c.in_ok-read_levels.ensures (λ v e. bind _ c.in_ok-zeros.ensures.meets (stop _ c.in_err-read_places.ensures)))

pub returns-clause-meets : goal.returns-clause-meets
unfolding coefficients
returns-clause-meets g c = bind_as _ c.in_ok-read_levels.ensures
    (λ v e. bind _ c.in_ok-zeros.ensures.meets (bind_as _ c.in_ok-read_places.ensures (λ w f. done _ _ _ _ _ _ _ (rw (e, f) refl))))

pub returns-clause-nonzero : goal.returns-clause-nonzero
returns-clause-nonzero g c = gives-met HasCount (gives-count g.row.N c.args.token c.requires.fits c.requires.within) (returns-clause-meets g c)

pub returns-clause-inside : goal.returns-clause-inside
returns-clause-inside g c h = met-within h (returns-clause-meets g c)
