use Rattle.std.proofs.Common.{◌≡◌, ◌*◌, ◌/◌, ◌^◌, slice_index, ap, ◌∙◌}
use Rattle.h264_scale.specs.Residual.{v0}
use Rattle.h264_scale.specs.Fours.{factor_at}
use Rattle.h264_scale.proofs.Products.{dc_answers}
use Rattle.h264_scale.proofs.dc.dc16.Goals as goal

pub returns-clause-range : goal.returns-clause-range
returns-clause-range c =
    let a = c.args in
    let factor : c.factor.result ≡ factor_at a.qp 0 0 = c.factor.ensures.value ∙ ap (λ k. slice_index v0 k * 2 ^ (a.qp / 6)) c.from.ensures in
    (dc_answers c.transformed.result c.coefficients.result c.factor.result a.qp a.levels.now c.coefficients.ensures.value factor c.transformed.ensures).0

pub returns-clause-scaled : goal.returns-clause-scaled
returns-clause-scaled c =
    let a = c.args in
    let factor : c.factor.result ≡ factor_at a.qp 0 0 = c.factor.ensures.value ∙ ap (λ k. slice_index v0 k * 2 ^ (a.qp / 6)) c.from.ensures in
    (dc_answers c.transformed.result c.coefficients.result c.factor.result a.qp a.levels.now c.coefficients.ensures.value factor c.transformed.ensures).1
