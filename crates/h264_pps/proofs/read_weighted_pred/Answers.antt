use Rattle.std.proofs.Common.{refl}
use Rattle.std.proofs.lemmas.Result.{err_from_is_err_and}
use Rattle.h264_base.proofs.Steps.{bind, stop, done, checked}
use Rattle.h264_pps.specs.Pps.{weighted_pred}
use Rattle.h264_pps.proofs.read_weighted_pred.Goals as goal

pub returns-in_err-flag : goal.returns-in_err-flag
unfolding weighted_pred
returns-in_err-flag g c = let p = err_from_is_err_and c.from_residual.result c.from_residual.ensures.1 in rw (p.1, p.2) (stop _ c.in_err-flag.ensures.meets)

pub returns-in_err-check : goal.returns-in_err-check
unfolding weighted_pred
returns-in_err-check g c = let p = err_from_is_err_and c.from_residual-in_err-check.result c.from_residual-in_err-check.ensures.1 in
    let judged = rw c.is_weighting_judged-judged.ensures at c.in_err-check.ensures in
    rw (p.1, p.2) (bind _ c.in_ok-flag.ensures.meets (stop _ (checked _ _ _ _ judged)))

pub returns : goal.returns
unfolding weighted_pred
returns g c = let judged = rw c.is_weighting_judged-judged.ensures at c.in_ok-check.ensures in
    bind _ c.in_ok-flag.ensures.meets (bind _ (checked _ _ _ _ judged) (done _ _ _ _ _ _ _ refl))
