use Rattle.std.proofs.Common.{refl}
use Rattle.std.proofs.lemmas.Result.{err_from_is_err_and}
use Rattle.h264_base.proofs.Steps.{bind, stop, done}
use Rattle.h264_header.specs.PredWeightTable.{index_weights, with_chroma}
use Rattle.h264_header.proofs.weights.read_index_weights.Goals as goal

pub returns-in_err-luma_given : goal.returns-in_err-luma_given
unfolding index_weights with_chroma
returns-in_err-luma_given g c = let p = err_from_is_err_and c.from_residual.result c.from_residual.ensures.1 in
    rw (p.1, p.2) (stop _ c.in_err-luma_given.ensures)

pub returns-in_err-luma : goal.returns-in_err-luma
unfolding index_weights with_chroma
returns-in_err-luma g c = let p = err_from_is_err_and c.from_residual-in_err-luma.result c.from_residual-in_err-luma.ensures.1 in
    rw (p.1, p.2) (bind _ c.in_ok-luma_given.ensures (stop _ c.in_err-luma.ensures))

pub returns-in_err-chroma_given : goal.returns-in_err-chroma_given
unfolding index_weights with_chroma
returns-in_err-chroma_given g c = let p = err_from_is_err_and c.from_residual-in_err-chroma_given.result c.from_residual-in_err-chroma_given.ensures.1 in
    rw (p.1, p.2) (bind _ c.in_ok-luma_given.ensures (bind _ c.in_ok-luma.ensures (stop _ c.in_err-chroma_given.ensures)))

pub returns-then-not-chroma_given : goal.returns-then-not-chroma_given
unfolding index_weights with_chroma
returns-then-not-chroma_given g c = bind _ c.in_ok-luma_given.ensures
    (bind _ c.in_ok-luma.ensures (bind _ c.in_ok-chroma_given.ensures
    (rw (c.if-not-chroma_given.true, c.inferred_weight-chroma.ensures) (done _ _ _ _ _ _ _ refl))))

pub returns-in_err-cb : goal.returns-in_err-cb
unfolding index_weights with_chroma
returns-in_err-cb g c = let p = err_from_is_err_and c.from_residual-in_err-cb.result c.from_residual-in_err-cb.ensures.1 in
    rw (p.1, p.2) (bind _ c.in_ok-luma_given.ensures
    (bind _ c.in_ok-luma.ensures (bind _ c.in_ok-chroma_given.ensures (rw c.if-not-chroma_given.false (stop _ c.in_err-cb.ensures)))))

pub returns-in_err-cr : goal.returns-in_err-cr
unfolding index_weights with_chroma
returns-in_err-cr g c = let p = err_from_is_err_and c.from_residual-in_err-cr.result c.from_residual-in_err-cr.ensures.1 in
    rw (p.1, p.2) (bind _ c.in_ok-luma_given.ensures
    (bind _ c.in_ok-luma.ensures (bind _ c.in_ok-chroma_given.ensures
    (rw c.if-not-chroma_given.false (bind _ c.in_ok-cb.ensures (stop _ c.in_err-cr.ensures))))))

pub returns : goal.returns
unfolding index_weights with_chroma
returns g c = bind _ c.in_ok-luma_given.ensures
    (bind _ c.in_ok-luma.ensures (bind _ c.in_ok-chroma_given.ensures
    (rw c.if-not-chroma_given.false (bind _ c.in_ok-cb.ensures (bind _ c.in_ok-cr.ensures (done _ _ _ _ _ _ _ refl))))))
