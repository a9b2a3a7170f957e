use Rattle.std.proofs.Common.{rules, refl}
use Rattle.std.proofs.lemmas.Result.{err_from_is_err_and}
use Rattle.std.proofs.lemmas.Int.{to_z-of_z}
use Rattle.std.specs.Int.{w16}
use mir.Val.{SFits}
use Rattle.h264_base.proofs.Steps.{bind, stop, done}
use Rattle.h264_cavlc.specs.Level.{level}
use Rattle.h264_cavlc.proofs.level.read_any_level.Goals as goal

pub returns-in_err-found : goal.returns-in_err-found
unfolding level
returns-in_err-found g c = let p = err_from_is_err_and c.from_residual.result c.from_residual.ensures.1 in rw (p.1, p.2) (stop _ c.in_err-found.ensures.meets)

pub returns-in_err-suffix : goal.returns-in_err-suffix
unfolding level
returns-in_err-suffix g c = let p = err_from_is_err_and c.from_residual-in_err-suffix.result c.from_residual-in_err-suffix.ensures.1 in
    let m = rw (c.suffix_size-size.ensures.size, c.from-prefix.ensures) at c.in_err-suffix.ensures.meets in
    rw (p.1, p.2) (bind _ c.in_ok-found.ensures.meets (stop _ m))

pub returns : goal.returns
unfolding level
returns g c =
    let fits : SFits w16 c.level_value.result = search rules in
    let m = rw (c.suffix_size-size.ensures.size, c.from-prefix.ensures) at c.in_ok-suffix.ensures.meets in
    bind _ c.in_ok-found.ensures.meets (bind _ m
    (done _ _ _ _ _ _ _ (rw (to_z-of_z w16 c.level_value.result fits, c.level_value.ensures, c.level_code-code.ensures.code, c.from-prefix.ensures)
    refl)))
