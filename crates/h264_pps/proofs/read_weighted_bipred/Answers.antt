use Rattle.std.proofs.Common.{refl}
use Rattle.std.proofs.lemmas.Result.{err_from_is_err_and}
use Rattle.h264_base.proofs.Steps.{bind, stop, done, checked}
use Rattle.h264_pps.specs.Pps.{weighted_bipred}
use Rattle.h264_pps.proofs.read_weighted_bipred.Goals as goal

pub returns-in_err-idc : goal.returns-in_err-idc
unfolding weighted_bipred
returns-in_err-idc g c = let p = err_from_is_err_and c.from_residual.result c.from_residual.ensures.1 in rw (p.1, p.2) (stop _ c.in_err-idc.ensures.meets)

pub returns-in_err-check : goal.returns-in_err-check
unfolding weighted_bipred
returns-in_err-check g c = let p = err_from_is_err_and c.from_residual-in_err-check.result c.from_residual-in_err-check.ensures.1 in
    let judged = rw c.is_weighting_judged-judged.ensures at c.in_err-check.ensures in
    rw (p.1, p.2) (bind _ c.in_ok-idc.ensures.meets (stop _ (checked _ _ _ _ judged)))

pub returns-in_err-check-2 : goal.returns-in_err-check-2
unfolding weighted_bipred
returns-in_err-check-2 g c = let p = err_from_is_err_and c.from_residual-in_err-check-2.result c.from_residual-in_err-check-2.ensures.1 in
    let judged = rw c.is_weighting_judged-judged.ensures at c.in_ok-check.ensures in
    rw (p.1, p.2) (bind _ c.in_ok-idc.ensures.meets (bind _ (checked _ _ _ _ judged) (stop _ (checked _ _ _ _ c.in_err-check-2.ensures))))

pub returns : goal.returns
unfolding weighted_bipred
returns g c = let judged = rw c.is_weighting_judged-judged.ensures at c.in_ok-check.ensures in
    bind _ c.in_ok-idc.ensures.meets (bind _ (checked _ _ _ _ judged) (bind _ (checked _ _ _ _ c.in_ok-check-2.ensures) (done _ _ _ _ _ _ _ refl)))
