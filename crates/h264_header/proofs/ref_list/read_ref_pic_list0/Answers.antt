use Rattle.std.proofs.Common.{refl}
use Rattle.std.proofs.lemmas.Result.{err_from_is_err_and}
use Rattle.h264_base.proofs.Steps.{bind, stop, done}
use Rattle.h264_header.specs.RefList.{ref_pic_list0}
use Rattle.h264_header.proofs.ref_list.read_ref_pic_list0.Goals as goal

pub returns-in_err-minus1 : goal.returns-in_err-minus1
unfolding ref_pic_list0
returns-in_err-minus1 g c = let p = err_from_is_err_and c.from_residual.result c.from_residual.ensures.1 in rw (p.1, p.2) (stop _ c.in_err-minus1.ensures.meets)

pub returns-in_err-modified : goal.returns-in_err-modified
unfolding ref_pic_list0
returns-in_err-modified g c = let p = err_from_is_err_and c.from_residual-in_err-modified.result c.from_residual-in_err-modified.ensures.1 in
    rw (p.1, p.2) (bind _ c.in_ok-minus1.ensures.meets (stop _ c.in_err-modified.ensures))

pub returns-in_err-read_modifications : goal.returns-in_err-read_modifications
unfolding ref_pic_list0
returns-in_err-read_modifications g c = let p =
    err_from_is_err_and c.from_residual-in_err-read_modifications.result c.from_residual-in_err-read_modifications.ensures.1 in
    rw (p.1, p.2) (bind _ c.in_ok-minus1.ensures.meets
    (bind _ c.in_ok-modified.ensures (stop _ (rw c.greatest_of-greatest.ensures at c.in_err-read_modifications.ensures))))

pub returns-in_err-read_weights : goal.returns-in_err-read_weights
unfolding ref_pic_list0
returns-in_err-read_weights g c = let p = err_from_is_err_and c.from_residual-in_err-read_weights.result c.from_residual-in_err-read_weights.ensures.1 in
    rw (p.1, p.2) (bind _ c.in_ok-minus1.ensures.meets
    (bind _ c.in_ok-modified.ensures (bind _ (rw c.greatest_of-greatest.ensures at c.in_ok-read_modifications.ensures)
    (stop _ c.in_err-read_weights.ensures))))

pub returns : goal.returns
unfolding ref_pic_list0
returns g c = bind _ c.in_ok-minus1.ensures.meets
    (bind _ c.in_ok-modified.ensures (bind _ (rw c.greatest_of-greatest.ensures at c.in_ok-read_modifications.ensures)
    (bind _ c.in_ok-read_weights.ensures (done _ _ _ _ _ _ _ refl))))
