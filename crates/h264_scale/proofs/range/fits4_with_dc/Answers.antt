use Rattle.std.proofs.Common.{◌∙◌, sym, rules, FitsSigned, w16}
use Rattle.h264_scale.proofs.Sizes.{told, few_fit_with_dc}
use Rattle.h264_scale.proofs.Vectors.{short_of, kept}
use Rattle.h264_scale.proofs.range.fits4_with_dc.Goals as goal

pub returns-then-from-total_size-le-SMALL : goal.returns-then-from-total_size-le-SMALL
returns-then-from-total_size-le-SMALL c =
    let fits : FitsSigned w16 c.args.dc = search rules in
    let size = rw (kept c.args.dc (short_of c.args.dc fits)) at c.unsigned_abs.ensures.value in
    sym (few_fit_with_dc c.args.qp c.greatest_factor.result c.greatest_factor.ensures.most c.args.dc c.args.levels.now
    (rw (c.total_size.ensures.value, c.from.ensures, size) at c.if-from-total_size-le-SMALL.true))

pub returns : goal.returns
returns c =
    let fits : FitsSigned w16 c.args.dc = search rules in
    c.is_ok.ensures.value ∙ told _ _ (rw (kept c.args.dc (short_of c.args.dc fits)) at c.residual4_with_dc.ensures.range)
