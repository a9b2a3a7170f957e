use Rattle.std.proofs.lemmas.Result.{err_from_is_err_and, on_ok_weaker}
use Rattle.h264_base.proofs.Steps.{bind_as, stop}
use Rattle.h264_vectors.specs.Inter.{part_motions}
use Rattle.h264_vectors.proofs.Parts.{four-parts, last}
use Rattle.h264_vectors.proofs.inter.read_sub_macroblock.Goals as goal
use Rattle.h264_vectors.proofs.Partitions.{stay-then}

pub returns-then-sub_mb_type-eq0-clause-meets : goal.returns-then-sub_mb_type-eq0-clause-meets
unfolding part_motions
returns-then-sub_mb_type-eq0-clause-meets g c width picture places d k a =
    rw c.if-sub_mb_type-eq0.true (last _ (rw c.part-whole.ensures at (c.read_part.ensures.meets width picture places d k a)))

pub returns-in_err-upper_fits-clause-meets : goal.returns-in_err-upper_fits-clause-meets
unfolding part_motions
returns-in_err-upper_fits-clause-meets g c width picture places d k a = let p = err_from_is_err_and c.from_residual.result c.from_residual.ensures.1 in
    rw (p.1, p.2, c.if-sub_mb_type-eq1.true) (stop _ (rw c.part-upper.ensures at (c.in_err-upper_fits.ensures.meets width picture places d k a)))

pub returns-then-sub_mb_type-eq1-clause-meets : goal.returns-then-sub_mb_type-eq1-clause-meets
unfolding part_motions
returns-then-sub_mb_type-eq1-clause-meets g c width picture places d k a =
    rw c.if-sub_mb_type-eq1.true (bind_as _ (rw c.part-upper.ensures at (c.in_ok-upper_fits.ensures.meets width picture places d k a))
    (λ v e. last _ (rw c.part-lower.ensures at (c.read_part-then-sub_mb_type-eq1-2.ensures.meets width picture _ v k e))))

pub returns-in_err-left_fits-clause-meets : goal.returns-in_err-left_fits-clause-meets
unfolding part_motions
returns-in_err-left_fits-clause-meets g c width picture places d k a = let p =
    err_from_is_err_and c.from_residual-in_err-left_fits.result c.from_residual-in_err-left_fits.ensures.1 in
    rw (p.1, p.2, c.if-sub_mb_type-eq2.true) (stop _ (rw c.part-left.ensures at (c.in_err-left_fits.ensures.meets width picture places d k a)))

pub returns-then-sub_mb_type-eq2-clause-meets : goal.returns-then-sub_mb_type-eq2-clause-meets
unfolding part_motions
returns-then-sub_mb_type-eq2-clause-meets g c width picture places d k a =
    rw c.if-sub_mb_type-eq2.true (bind_as _ (rw c.part-left.ensures at (c.in_ok-left_fits.ensures.meets width picture places d k a))
    (λ v e. last _ (rw c.part-right.ensures at (c.read_part-then-sub_mb_type-eq2-2.ensures.meets width picture _ v k e))))

pub returns-clause-meets : goal.returns-clause-meets
returns-clause-meets g c width picture places d k a =
    rw (four-parts c.args.sub.x c.args.sub.y c.args.sub.sub_mb_type c.if-sub_mb_type-eq0.false c.if-sub_mb_type-eq1.false c.if-sub_mb_type-eq2.false)
    (c.read_four.ensures.meets width picture places d k a)

pub returns-then-sub_mb_type-eq0-clause-alike : goal.returns-then-sub_mb_type-eq0-clause-alike
returns-then-sub_mb_type-eq0-clause-alike g c = rw c.if-sub_mb_type-eq0.true (rw c.part-whole.ensures at c.read_part.ensures.alike)

pub returns-then-sub_mb_type-eq1-clause-alike : goal.returns-then-sub_mb_type-eq1-clause-alike
returns-then-sub_mb_type-eq1-clause-alike g c =
    rw c.if-sub_mb_type-eq1.true (on_ok_weaker c.read_part-then-sub_mb_type-eq1-2.result
    (λ last. stay-then _ _ _ _ _ (rw c.part-upper.ensures at c.in_ok-upper_fits.ensures.alike) (rw c.part-lower.ensures at last))
    c.read_part-then-sub_mb_type-eq1-2.ensures.alike)

pub returns-then-sub_mb_type-eq2-clause-alike : goal.returns-then-sub_mb_type-eq2-clause-alike
returns-then-sub_mb_type-eq2-clause-alike g c =
    rw c.if-sub_mb_type-eq2.true (on_ok_weaker c.read_part-then-sub_mb_type-eq2-2.result
    (λ last. stay-then _ _ _ _ _ (rw c.part-left.ensures at c.in_ok-left_fits.ensures.alike) (rw c.part-right.ensures at last))
    c.read_part-then-sub_mb_type-eq2-2.ensures.alike)

pub returns-clause-alike : goal.returns-clause-alike
returns-clause-alike g c = rw (four-parts c.args.sub.x c.args.sub.y c.args.sub.sub_mb_type c.if-sub_mb_type-eq0.false c.if-sub_mb_type-eq1.false
    c.if-sub_mb_type-eq2.false) c.read_four.ensures.alike
