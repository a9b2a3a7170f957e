use Rattle.std.proofs.lemmas.Result.{err_from_is_err_and}
use Rattle.h264_base.proofs.Steps.{bind, stop}
use Rattle.h264_vectors.specs.Inter.{split_parts}
use Rattle.h264_vectors.proofs.inter.read_split.Goals as goal

pub returns-in_err-t0-clause-meets : goal.returns-in_err-t0-clause-meets
unfolding split_parts
returns-in_err-t0-clause-meets g c width picture k = let p = err_from_is_err_and c.from_residual.result c.from_residual.ensures.1 in
    rw (p.1, p.2) (stop _ (c.in_err-t0.ensures.meets))

pub returns-in_err-t1-clause-meets : goal.returns-in_err-t1-clause-meets
unfolding split_parts
returns-in_err-t1-clause-meets g c width picture k = let p = err_from_is_err_and c.from_residual-in_err-t1.result c.from_residual-in_err-t1.ensures.1 in
    rw (p.1, p.2) (bind _ (c.in_ok-t0.ensures.meets) (stop _ (c.in_err-t1.ensures.meets)))

pub returns-in_err-t2-clause-meets : goal.returns-in_err-t2-clause-meets
unfolding split_parts
returns-in_err-t2-clause-meets g c width picture k = let p = err_from_is_err_and c.from_residual-in_err-t2.result c.from_residual-in_err-t2.ensures.1 in
    rw (p.1, p.2) (bind _ (c.in_ok-t0.ensures.meets) (bind _ (c.in_ok-t1.ensures.meets) (stop _ (c.in_err-t2.ensures.meets))))

pub returns-in_err-t3-clause-meets : goal.returns-in_err-t3-clause-meets
unfolding split_parts
returns-in_err-t3-clause-meets g c width picture k = let p = err_from_is_err_and c.from_residual-in_err-t3.result c.from_residual-in_err-t3.ensures.1 in
    rw (p.1, p.2) (bind _ (c.in_ok-t0.ensures.meets)
    (bind _ (c.in_ok-t1.ensures.meets) (bind _ (c.in_ok-t2.ensures.meets) (stop _ (c.in_err-t3.ensures.meets)))))

pub returns-in_err-i0-clause-meets : goal.returns-in_err-i0-clause-meets
unfolding split_parts
returns-in_err-i0-clause-meets g c width picture k = let p = err_from_is_err_and c.from_residual-in_err-i0.result c.from_residual-in_err-i0.ensures.1 in
    rw (p.1, p.2) (bind _ (c.in_ok-t0.ensures.meets)
    (bind _ (c.in_ok-t1.ensures.meets) (bind _ (c.in_ok-t2.ensures.meets) (bind _ (c.in_ok-t3.ensures.meets) (stop _ (c.in_err-i0.ensures.meets))))))

pub returns-in_err-i1-clause-meets : goal.returns-in_err-i1-clause-meets
unfolding split_parts
returns-in_err-i1-clause-meets g c width picture k = let p = err_from_is_err_and c.from_residual-in_err-i1.result c.from_residual-in_err-i1.ensures.1 in
    rw (p.1, p.2) (bind _ (c.in_ok-t0.ensures.meets)
    (bind _ (c.in_ok-t1.ensures.meets) (bind _ (c.in_ok-t2.ensures.meets)
    (bind _ (c.in_ok-t3.ensures.meets) (bind _ (c.in_ok-i0.ensures.meets) (stop _ (c.in_err-i1.ensures.meets)))))))

pub returns-in_err-i2-clause-meets : goal.returns-in_err-i2-clause-meets
unfolding split_parts
returns-in_err-i2-clause-meets g c width picture k = let p = err_from_is_err_and c.from_residual-in_err-i2.result c.from_residual-in_err-i2.ensures.1 in
    rw (p.1, p.2) (bind _ (c.in_ok-t0.ensures.meets)
    (bind _ (c.in_ok-t1.ensures.meets) (bind _ (c.in_ok-t2.ensures.meets)
    (bind _ (c.in_ok-t3.ensures.meets) (bind _ (c.in_ok-i0.ensures.meets) (bind _ (c.in_ok-i1.ensures.meets) (stop _ (c.in_err-i2.ensures.meets))))))))

pub returns-in_err-i3-clause-meets : goal.returns-in_err-i3-clause-meets
unfolding split_parts
returns-in_err-i3-clause-meets g c width picture k = let p = err_from_is_err_and c.from_residual-in_err-i3.result c.from_residual-in_err-i3.ensures.1 in
    rw (p.1, p.2) (bind _ (c.in_ok-t0.ensures.meets)
    (bind _ (c.in_ok-t1.ensures.meets) (bind _ (c.in_ok-t2.ensures.meets)
    (bind _ (c.in_ok-t3.ensures.meets) (bind _ (c.in_ok-i0.ensures.meets)
    (bind _ (c.in_ok-i1.ensures.meets) (bind _ (c.in_ok-i2.ensures.meets) (stop _ (c.in_err-i3.ensures.meets)))))))))

pub returns-clause-meets : goal.returns-clause-meets
unfolding split_parts
returns-clause-meets g c width picture k =
    bind _ (c.in_ok-t0.ensures.meets) (bind _ (c.in_ok-t1.ensures.meets)
    (bind _ (c.in_ok-t2.ensures.meets) (bind _ (c.in_ok-t3.ensures.meets)
    (bind _ (c.in_ok-i0.ensures.meets) (bind _ (c.in_ok-i1.ensures.meets)
    (bind _ (c.in_ok-i2.ensures.meets) (bind _ (c.in_ok-i3.ensures.meets) (c.read_sub_macroblocks.ensures.meets width picture k))))))))
