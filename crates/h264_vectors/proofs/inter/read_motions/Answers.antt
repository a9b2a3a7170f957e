use Rattle.std.proofs.lemmas.Result.{err_from_is_err_and}
use Rattle.h264_base.proofs.Steps.{bind, stop, checked}
use Rattle.h264_vectors.specs.Inter.{motions}
use Rattle.h264_vectors.proofs.inter.read_motions.Goals as goal

pub returns-in_err-check-clause-meets : goal.returns-in_err-check-clause-meets
unfolding motions
returns-in_err-check-clause-meets g c width picture k = let p = err_from_is_err_and c.from_residual.result c.from_residual.ensures.1 in
    rw (p.1, p.2) (stop _ (checked _ _ _ _ (rw (c.has_inferred-has_reference.ensures, c.is_inferred-inferred.ensures.meets) at c.in_err-check.ensures)))

pub returns-clause-meets : goal.returns-clause-meets
unfolding motions
returns-clause-meets g c width picture k =
    bind _ (checked _ _ _ _ (rw (c.has_inferred-has_reference.ensures, c.is_inferred-inferred.ensures.meets) at c.in_ok-check.ensures))
    (c.read_motions_by.ensures.meets width picture k)
