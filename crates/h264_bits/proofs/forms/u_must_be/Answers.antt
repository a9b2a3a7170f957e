use Rattle.std.proofs.lemmas.Result.{err_from_is_err_and}
use Rattle.h264_base.proofs.Steps.{bind, stop, checked}
use Rattle.h264_bits.specs.Forms.{bits_must_be}
use Rattle.h264_bits.proofs.forms.u_must_be.Goals as goal

pub returns-in_err-found : goal.returns-in_err-found
unfolding bits_must_be
returns-in_err-found g c = let p = err_from_is_err_and c.from_residual.result c.from_residual.ensures.1 in rw (p.1, p.2) (stop _ c.in_err-found.ensures.meets)

pub returns : goal.returns
unfolding bits_must_be
returns g c = bind _ c.in_ok-found.ensures.meets (checked _ _ _ _ c.check.ensures)
