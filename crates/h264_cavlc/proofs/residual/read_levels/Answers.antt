use Rattle.std.proofs.lemmas.Result.{err_from_is_err_and}
use Rattle.h264_base.proofs.Steps.{bind_as, stop, done}
use Rattle.h264_cavlc.specs.Block.{all_levels}
use Rattle.h264_cavlc.proofs.residual.read_levels.Goals as goal

pub returns-in_err-read_trailing_ones : goal.returns-in_err-read_trailing_ones
unfolding all_levels
returns-in_err-read_trailing_ones g c = let p = err_from_is_err_and c.from_residual.result c.from_residual.ensures.1 in
    let m = simp c.from.ensures at c.in_err-read_trailing_ones.ensures in rw (p.1, p.2) (stop _ m)

pub returns-in_err-read_more_levels : goal.returns-in_err-read_more_levels
unfolding all_levels
returns-in_err-read_more_levels g c = let p =
    err_from_is_err_and c.from_residual-in_err-read_more_levels.result c.from_residual-in_err-read_more_levels.ensures.1 in
    let m = simp c.from.ensures at c.in_ok-read_trailing_ones.ensures in rw (p.1, p.2) (bind_as _ m (λ v e. rw e (stop _ c.in_err-read_more_levels.ensures)))

pub returns : goal.returns
unfolding all_levels
returns g c = let m = simp c.from.ensures at c.in_ok-read_trailing_ones.ensures in
    bind_as _ m (λ v e. rw e (bind_as _ c.in_ok-read_more_levels.ensures (λ w f. done _ _ _ _ _ _ _ f)))
