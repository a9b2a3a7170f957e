use Rattle.std.proofs.Common.{◌∙◌, rules, FitsSigned, w16}
use Rattle.h264_scale.proofs.Sizes.{told}
use Rattle.h264_scale.proofs.Vectors.{short_of, kept}
use Rattle.h264_scale.proofs.range.fits4_of_dc.Goals as goal

pub returns : goal.returns
returns c qp =
    let fits : FitsSigned w16 c.args.dc = search rules in
    c.is_ok.ensures.value ∙ told _ _ (rw (kept c.args.dc (short_of c.args.dc fits)) at c.residual4_of_dc.ensures.range qp)
