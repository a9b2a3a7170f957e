use Rattle.std.proofs.lemmas.Result.{err_from_is_err_and, on_ok_weaker}
use Rattle.h264_base.proofs.Steps.{bind_as, stop}
use Rattle.h264_vectors.specs.Inter.{part_motions}
use Rattle.h264_vectors.proofs.Parts.{last}
use Rattle.h264_vectors.proofs.inter.read_four.Goals as goal
use Rattle.h264_vectors.proofs.Partitions.{stay-then}

pub returns-in_err-first-clause-meets : goal.returns-in_err-first-clause-meets
unfolding part_motions
returns-in_err-first-clause-meets g c width picture places d k a = let p = err_from_is_err_and c.from_residual.result c.from_residual.ensures.1 in
    rw (p.1, p.2) (stop _ (rw c.part-a.ensures at (c.in_err-first.ensures.meets width picture places d k a)))

pub returns-in_err-second-clause-meets : goal.returns-in_err-second-clause-meets
unfolding part_motions
returns-in_err-second-clause-meets g c width picture places d k a = let p =
    err_from_is_err_and c.from_residual-in_err-second.result c.from_residual-in_err-second.ensures.1 in
    rw (p.1, p.2) (bind_as _ (rw c.part-a.ensures at (c.in_ok-first.ensures.meets width picture places d k a))
    (λ v0 e0. stop _ (rw c.part-b.ensures at (c.in_err-second.ensures.meets width picture _ v0 k e0))))

pub returns-in_err-third-clause-meets : goal.returns-in_err-third-clause-meets
unfolding part_motions
returns-in_err-third-clause-meets g c width picture places d k a = let p =
    err_from_is_err_and c.from_residual-in_err-third.result c.from_residual-in_err-third.ensures.1 in
    rw (p.1, p.2) (bind_as _ (rw c.part-a.ensures at (c.in_ok-first.ensures.meets width picture places d k a))
    (λ v0 e0. bind_as _ (rw c.part-b.ensures at (c.in_ok-second.ensures.meets width picture _ v0 k e0))
    (λ v1 e1. stop _ (rw c.part-c.ensures at (c.in_err-third.ensures.meets width picture _ v1 k e1)))))

pub returns-clause-meets : goal.returns-clause-meets
unfolding part_motions
returns-clause-meets g c width picture places d k a =
    bind_as _ (rw c.part-a.ensures at (c.in_ok-first.ensures.meets width picture places d k a))
    (λ v0 e0. bind_as _ (rw c.part-b.ensures at (c.in_ok-second.ensures.meets width picture _ v0 k e0))
    (λ v1 e1. bind_as _ (rw c.part-c.ensures at (c.in_ok-third.ensures.meets width picture _ v1 k e1))
    (λ v2 e2. last _ (rw c.part-d.ensures at (c.read_part-4.ensures.meets width picture _ v2 k e2)))))

pub returns-clause-alike : goal.returns-clause-alike
returns-clause-alike g c = on_ok_weaker c.read_part-4.result
    (λ last. stay-then _ _ _ _ _ (rw c.part-a.ensures at c.in_ok-first.ensures.alike)
    (stay-then _ _ _ _ _ (rw c.part-b.ensures at c.in_ok-second.ensures.alike)
    (stay-then _ _ _ _ _ (rw c.part-c.ensures at c.in_ok-third.ensures.alike) (rw c.part-d.ensures at last)))) c.read_part-4.ensures.alike
