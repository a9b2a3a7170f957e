use Rattle.std.proofs.Common.{refl}
use Rattle.std.proofs.lemmas.Result.{err_from_is_err_and}
use Rattle.h264_base.proofs.Steps.{bind, stop, done, checked}
use Rattle.h264_bits.specs.Forms.{unsigned_to}
use Rattle.h264_bits.proofs.forms.ue_up_to.Goals as goal

pub returns-in_err-code-clause-meets : goal.returns-in_err-code-clause-meets
unfolding unsigned_to
returns-in_err-code-clause-meets g c = let p = err_from_is_err_and c.from_residual.result c.from_residual.ensures.1 in
    rw (p.1, p.2) (stop _ c.in_err-code.ensures.meets)

pub returns-in_err-check-clause-meets : goal.returns-in_err-check-clause-meets
unfolding unsigned_to
returns-in_err-check-clause-meets g c = let p = err_from_is_err_and c.from_residual-in_err-check.result c.from_residual-in_err-check.ensures.1 in
    rw (p.1, p.2) (bind _ c.in_ok-code.ensures.meets (stop _ (checked _ _ _ _ c.in_err-check.ensures)))

pub returns-clause-meets : goal.returns-clause-meets
unfolding unsigned_to
returns-clause-meets g c = bind _ c.in_ok-code.ensures.meets (bind _ (checked _ _ _ _ c.in_ok-check.ensures) (done _ _ _ _ _ _ _ refl))
