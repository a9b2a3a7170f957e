use Rattle.std.proofs.Common.{refl, rules}
use Rattle.std.proofs.lemmas.Result.{err_from_is_err_and}
use Rattle.std.proofs.lemmas.Int.{to_z-of_z}
use Rattle.std.specs.Int.{w32}
use mir.Val.{SFits}
use Rattle.h264_base.proofs.Steps.{bind, stop, done}
use Rattle.h264_header.specs.Header.{lsb_count, delta_count, pic_order_cnt}
use Rattle.h264_header.proofs.read.read_pic_order_cnt.Goals as goal

pub returns-in_err-lsb-in-Lsb : goal.returns-in_err-lsb-in-Lsb
unfolding pic_order_cnt lsb_count
returns-in_err-lsb-in-Lsb g c = let p = err_from_is_err_and c.from_residual.result c.from_residual.ensures.1 in
    rw (p.1, p.2, c.in-Lsb.is) (stop _ c.in_err-lsb-in-Lsb.ensures.meets)

pub returns-in_err-bottom-in-Lsb : goal.returns-in_err-bottom-in-Lsb
unfolding pic_order_cnt lsb_count
returns-in_err-bottom-in-Lsb g c = let p = err_from_is_err_and c.from_residual-in_err-bottom-in-Lsb.result c.from_residual-in_err-bottom-in-Lsb.ensures.1 in
    rw (p.1, p.2, c.in-Lsb.is) (bind _ c.in_ok-lsb-in-Lsb.ensures.meets (stop _ c.in_err-bottom-in-Lsb.ensures))

pub returns-in_ok-bottom-in-Lsb : goal.returns-in_ok-bottom-in-Lsb
unfolding pic_order_cnt lsb_count
returns-in_ok-bottom-in-Lsb g c = let fits0 : SFits w32 c.in_ok-bottom-in-Lsb.bottom = search rules in
    rw c.in-Lsb.is (bind _ c.in_ok-lsb-in-Lsb.ensures.meets (bind _ c.in_ok-bottom-in-Lsb.ensures (done _ _ _ _ _ _ _ (simp to_z-of_z refl))))

pub returns-in_err-top-in-Deltas : goal.returns-in_err-top-in-Deltas
unfolding pic_order_cnt delta_count
returns-in_err-top-in-Deltas g c = let p = err_from_is_err_and c.from_residual-in_err-top-in-Deltas.result c.from_residual-in_err-top-in-Deltas.ensures.1 in
    rw (p.1, p.2, c.in-Deltas.is) (stop _ c.in_err-top-in-Deltas.ensures)

pub returns-in_err-bottom-in-Deltas : goal.returns-in_err-bottom-in-Deltas
unfolding pic_order_cnt delta_count
returns-in_err-bottom-in-Deltas g c = let p =
    err_from_is_err_and c.from_residual-in_err-bottom-in-Deltas.result c.from_residual-in_err-bottom-in-Deltas.ensures.1 in
    rw (p.1, p.2, c.in-Deltas.is) (bind _ c.in_ok-top-in-Deltas.ensures (stop _ c.in_err-bottom-in-Deltas.ensures))

pub returns-in_ok-bottom-in-Deltas : goal.returns-in_ok-bottom-in-Deltas
unfolding pic_order_cnt delta_count
returns-in_ok-bottom-in-Deltas g c = let fits0 : SFits w32 c.in_ok-top-in-Deltas.top = search rules in
    let fits1 : SFits w32 c.in_ok-bottom-in-Deltas.bottom = search rules in
    rw c.in-Deltas.is (bind _ c.in_ok-top-in-Deltas.ensures (bind _ c.in_ok-bottom-in-Deltas.ensures (done _ _ _ _ _ _ _ (simp to_z-of_z refl))))

pub returns-in-ZeroDeltas : goal.returns-in-ZeroDeltas
unfolding pic_order_cnt
returns-in-ZeroDeltas g c = rw c.in-ZeroDeltas.is (done _ _ _ _ _ _ _ refl)

pub returns-in-DecodingOrder : goal.returns-in-DecodingOrder
unfolding pic_order_cnt
returns-in-DecodingOrder g c = rw c.in-DecodingOrder.is (done _ _ _ _ _ _ _ refl)
