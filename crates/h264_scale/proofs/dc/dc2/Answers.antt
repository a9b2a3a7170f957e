use Rattle.std.proofs.Common.{◌≡◌, ◌*◌, ◌/◌, ◌^◌, slice_index, ap, ◌∙◌}
use Rattle.h264_scale.specs.Residual.{v0}
use Rattle.h264_scale.specs.Fours.{factor_at}
use Rattle.h264_scale.proofs.Corners.{dc2_answers}
use Rattle.h264_scale.proofs.dc.dc2.Goals as goal

pub returns-clause-range : goal.returns-clause-range
returns-clause-range c =
    let a = c.args in
    let factor : c.factor.result ≡ factor_at a.qp 0 0 = c.factor.ensures.value ∙ ap (λ k. slice_index v0 k * 2 ^ (a.qp / 6)) c.from.ensures in
    (dc2_answers c.transformed2.result c.chroma_coefficients.result c.factor.result a.qp a.levels.now c.chroma_coefficients.ensures.value factor
    c.transformed2.ensures).0

pub returns-clause-scaled : goal.returns-clause-scaled
returns-clause-scaled c =
    let a = c.args in
    let factor : c.factor.result ≡ factor_at a.qp 0 0 = c.factor.ensures.value ∙ ap (λ k. slice_index v0 k * 2 ^ (a.qp / 6)) c.from.ensures in
    (dc2_answers c.transformed2.result c.chroma_coefficients.result c.factor.result a.qp a.levels.now c.chroma_coefficients.ensures.value factor
    c.transformed2.ensures).1
