use Rattle.h264_cabac.proofs.Decisions.{reduced-not, reduced-by, not-below}
use Rattle.h264_cabac.proofs.register.reduced.Goals as goal

pub returns-then-is_below-clause-step : goal.returns-then-is_below-clause-step
returns-then-is_below-clause-step c bytes =
    reduced-not bytes c.args.r c.with_range.result c.args.range (c.is_below.ensures.0 c.if-is_below.true) (c.with_range.ensures.same bytes)

pub returns-clause-step : goal.returns-clause-step
returns-clause-step c bytes =
    reduced-by bytes c.args.r c.without.result c.args.range (not-below _ _ _ c.is_below.ensures.1 c.if-is_below.false) (c.without.ensures.same bytes)
