use Rattle.std.proofs.Common.{◌∙◌, refl, rules}
use Rattle.std.specs.Int.{w32}
use Rattle.std.proofs.lemmas.Int.{to_z-of_z}
use Rattle.std.proofs.lemmas.Result.{err_from_is_err_and}
use mir.Val.{SFits}
use Rattle.h264_cabac.proofs.Runs.{delta-none, delta-some}
use Rattle.h264_cabac.proofs.elements.read_mb_qp_delta.Goals as goal

pub returns-in_err-k : goal.returns-in_err-k
returns-in_err-k c =
    let p = err_from_is_err_and c.from_residual.result c.from_residual.ensures.1 in
    rw p.1 (delta-none c.args.increment _ c.in_err-k.ensures.value)

pub returns : goal.returns
returns c =
    let fits : SFits w32 c.signed.result = search rules in
    delta-some c.args.increment _ _ _ c.in_ok-k.ensures.value ∙ rw (to_z-of_z w32 c.signed.result fits, c.signed.ensures) refl
