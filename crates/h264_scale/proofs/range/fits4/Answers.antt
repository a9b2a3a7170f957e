use Rattle.std.proofs.Common.{◌∙◌, sym}
use Rattle.h264_scale.proofs.Sizes.{told, few_fit}
use Rattle.h264_scale.proofs.range.fits4.Goals as goal

pub returns-then-total_size-greatest_factor-le-SMALL : goal.returns-then-total_size-greatest_factor-le-SMALL
returns-then-total_size-greatest_factor-le-SMALL c =
    sym (few_fit c.args.qp c.greatest_factor.result c.greatest_factor.ensures.most c.args.levels.now
    (rw c.total_size.ensures.value at c.if-total_size-greatest_factor-le-SMALL.true))

pub returns : goal.returns
returns c = c.is_ok.ensures.value ∙ told _ _ c.residual4.ensures.range
