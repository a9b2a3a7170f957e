use Rattle.std.proofs.Common.{refl}
use Rattle.std.proofs.lemmas.Result.{err_from_is_err_and}
use Rattle.h264_base.proofs.Steps.{bind, stop, done, checked}
use Rattle.h264_header.specs.Header.{named_sets}
use Rattle.h264_header.proofs.read.read_named_sets.Goals as goal

pub returns-in_err-id-clause-meets : goal.returns-in_err-id-clause-meets
unfolding named_sets
returns-in_err-id-clause-meets g c = let p = err_from_is_err_and c.from_residual.result c.from_residual.ensures.1 in
    rw (p.1, p.2) (stop _ c.in_err-id.ensures.meets)

pub returns-in_err-check-clause-meets : goal.returns-in_err-check-clause-meets
unfolding named_sets
returns-in_err-check-clause-meets g c = let p = err_from_is_err_and c.from_residual-in_err-check.result c.from_residual-in_err-check.ensures.1 in
    rw (p.1, p.2) (bind _ c.in_ok-id.ensures.meets (stop _ (checked _ _ _ _ c.in_err-check.ensures)))

pub returns-in-Some-clause-meets : goal.returns-in-Some-clause-meets
unfolding named_sets
returns-in-Some-clause-meets g c = bind _ c.in_ok-id.ensures.meets
    (bind _ (checked _ _ _ _ c.in_ok-check.ensures)
    (rw c.in-Some.ensures.some (bind _ (checked _ _ _ _ (record { checks = refl })) (done _ _ _ _ _ _ _ (rw c.layout_of.ensures refl)))))

pub returns-in-None-clause-meets : goal.returns-in-None-clause-meets
unfolding named_sets
returns-in-None-clause-meets g c = bind _ c.in_ok-id.ensures.meets
    (bind _ (checked _ _ _ _ c.in_ok-check.ensures) (rw c.in-None.ensures.none (stop _ (checked _ _ _ _ (record { checks = (refl, refl) })))))
