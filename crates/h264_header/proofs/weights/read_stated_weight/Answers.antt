use Rattle.std.proofs.Common.{rules, refl}
use Rattle.std.proofs.lemmas.Result.{err_from_is_err_and}
use Rattle.std.proofs.lemmas.Int.{to_z-of_z}
use Rattle.std.specs.Int.{w16, w32}
use mir.Val.{SFits}
use Rattle.h264_base.proofs.Steps.{bind, stop, done}
use Rattle.h264_header.specs.PredWeightTable.{stated_weight}
use Rattle.h264_header.proofs.weights.read_stated_weight.Goals as goal

pub returns-in_err-weight : goal.returns-in_err-weight
unfolding stated_weight
returns-in_err-weight g c = let p = err_from_is_err_and c.from_residual.result c.from_residual.ensures.1 in rw (p.1, p.2) (stop _ c.in_err-weight.ensures.meets)

pub returns-in_err-offset : goal.returns-in_err-offset
unfolding stated_weight
returns-in_err-offset g c = let p = err_from_is_err_and c.from_residual-in_err-offset.result c.from_residual-in_err-offset.ensures.1 in
    rw (p.1, p.2) (bind _ c.in_ok-weight.ensures.meets (stop _ c.in_err-offset.ensures.meets))

pub returns : goal.returns
unfolding stated_weight
returns g c =
    let wide0 : SFits w32 c.in_ok-weight.weight = search rules in
    let wide1 : SFits w32 c.in_ok-offset.offset = search rules in
    let low0 = c.in_ok-weight.ensures.low in
    let high0 = c.in_ok-weight.ensures.high in
    let low1 = c.in_ok-offset.ensures.low in
    let high1 = c.in_ok-offset.ensures.high in
    let fits0 : SFits w16 c.in_ok-weight.weight = search rules in
    let fits1 : SFits w16 c.in_ok-offset.offset = search rules in
    bind _ c.in_ok-weight.ensures.meets (bind _ c.in_ok-offset.ensures.meets (done _ _ _ _ _ _ _ (simp to_z-of_z refl)))
