use Rattle.std.proofs.Common.{rules, refl}
use Rattle.std.proofs.lemmas.Int.{to_z-of_z}
use Rattle.std.proofs.lemmas.Result.{err_from_is_err_and}
use Rattle.std.specs.Int.{w32}
use mir.Val.{SFits}
use Rattle.h264_base.proofs.Steps.{bind, stop, done}
use Rattle.h264_bits.specs.Forms.{signed}
use Rattle.h264_bits.proofs.forms.se_value.Goals as goal

pub returns-in_err-signed : goal.returns-in_err-signed
unfolding signed
returns-in_err-signed g c = let p = err_from_is_err_and c.from_residual.result c.from_residual.ensures.1 in rw (p.1, p.2) (stop _ c.in_err-signed.ensures.meets)

pub returns : goal.returns
unfolding signed
returns g c = let fits : SFits w32 c.in_ok-signed.signed.value = search rules in bind _ c.in_ok-signed.ensures.meets (done _ _ _ _ _ _ _ (simp to_z-of_z refl))
