use Rattle.std.proofs.Common.{refl}
use Rattle.std.proofs.lemmas.Result.{err_from_is_err_and}
use Rattle.h264_base.proofs.Steps.{bind, stop, done}
use Rattle.h264_bits.specs.Forms.{unsigned}
use Rattle.h264_bits.proofs.forms.ue_value.Goals as goal

pub returns-in_err-code_num : goal.returns-in_err-code_num
unfolding unsigned
returns-in_err-code_num g c = let p = err_from_is_err_and c.from_residual.result c.from_residual.ensures.1 in
    rw (p.1, p.2) (stop _ c.in_err-code_num.ensures.meets)

pub returns : goal.returns
unfolding unsigned
returns g c = bind _ c.in_ok-code_num.ensures.meets (done _ _ _ _ _ _ _ refl)
