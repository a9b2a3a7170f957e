use Rattle.std.proofs.Common.{refl}
use Rattle.std.proofs.lemmas.Result.{err_from_is_err_and}
use Rattle.h264_base.proofs.Steps.{bind, stop, done, checked}
use Rattle.h264_vectors.specs.Inter.{read_ref_idx}
use Rattle.h264_vectors.proofs.inter.read_ref_idx.Goals as goal

pub returns-in_err-index-clause-meets : goal.returns-in_err-index-clause-meets
unfolding read_ref_idx
returns-in_err-index-clause-meets g c = let p = err_from_is_err_and c.from_residual.result c.from_residual.ensures.1 in
    rw (p.1, p.2) (stop _ (c.in_err-index.ensures.meets))

pub returns-in_err-check-clause-meets : goal.returns-in_err-check-clause-meets
unfolding read_ref_idx
returns-in_err-check-clause-meets g c = let p = err_from_is_err_and c.from_residual-in_err-check.result c.from_residual-in_err-check.ensures.1 in
    rw (p.1, p.2) (bind _ (c.in_ok-index.ensures.meets) (stop _ (checked _ _ _ _ (c.in_err-check.ensures))))

pub returns-in_err-check-2-clause-meets : goal.returns-in_err-check-2-clause-meets
unfolding read_ref_idx
returns-in_err-check-2-clause-meets g c = let p = err_from_is_err_and c.from_residual-in_err-check-2.result c.from_residual-in_err-check-2.ensures.1 in
    rw (p.1, p.2) (bind _ (c.in_ok-index.ensures.meets)
    (bind _ (checked _ _ _ _ (c.in_ok-check.ensures)) (stop _ (checked _ _ _ _ (rw c.has_picture.ensures at c.in_err-check-2.ensures)))))

pub returns-clause-meets : goal.returns-clause-meets
unfolding read_ref_idx
returns-clause-meets g c = bind _ (c.in_ok-index.ensures.meets)
    (bind _ (checked _ _ _ _ (c.in_ok-check.ensures))
    (bind _ (checked _ _ _ _ (rw c.has_picture.ensures at c.in_ok-check-2.ensures)) (done _ _ _ _ _ _ _ refl)))
