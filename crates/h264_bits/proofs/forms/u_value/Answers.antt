use Rattle.std.proofs.Common.{refl}
use Rattle.std.proofs.lemmas.Result.{err_from_is_err_and}
use Rattle.h264_base.proofs.Steps.{bind, stop, done}
use Rattle.h264_bits.specs.Forms.{bits as bits_form}
use Rattle.h264_bits.proofs.forms.u_value.Goals as goal

pub returns-in_err-number-clause-meets : goal.returns-in_err-number-clause-meets
unfolding bits_form
returns-in_err-number-clause-meets g c = let p = err_from_is_err_and c.from_residual.result c.from_residual.ensures.1 in
    rw (p.1, p.2) (stop _ c.in_err-number.ensures.meets)

pub returns-clause-meets : goal.returns-clause-meets
unfolding bits_form
returns-clause-meets g c = bind _ c.in_ok-number.ensures.meets (done _ _ _ _ _ _ _ refl)
