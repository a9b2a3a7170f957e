use Rattle.std.proofs.Common.{refl}
use Rattle.std.proofs.lemmas.Result.{err_from_is_err_and}
use Rattle.h264_base.proofs.Steps.{bind, stop, done}
use Rattle.h264_bits.specs.Forms.{flag}
use Rattle.h264_bits.proofs.forms.flag_value.Goals as goal

pub returns-in_err-found : goal.returns-in_err-found
unfolding flag
returns-in_err-found g c = let p = err_from_is_err_and c.from_residual.result c.from_residual.ensures.1 in rw (p.1, p.2) (stop _ c.in_err-found.ensures.meets)

pub returns : goal.returns
unfolding flag
returns g c = bind _ c.in_ok-found.ensures.meets (done _ _ _ _ _ _ _ refl)
