use Rattle.std.proofs.Common.{sym, ap, ◌∙◌}
use Rattle.h264_cabac.specs.Engine.{terminate}
use Rattle.h264_cabac.proofs.Decisions.{going-on, ending, gives-none, gives-some, not-below}
use Rattle.h264_cabac.proofs.engine.Engine.terminate.Goals as goal

pub returns-then-not-is_below-clause-step : goal.returns-then-not-is_below-clause-step
returns-then-not-is_below-clause-step c =
    rw (← c.self.view_is) (ending c.self.inside.bytes.now c.self.inside.register (not-below _ _ _ c.is_below.ensures.1 c.if-not-is_below.true))

pub returns-in_default-clause-step : goal.returns-in_default-clause-step
returns-in_default-clause-step c =
    let g = going-on c.self.inside.bytes.now c.self.inside.register c.renormalized.result (c.is_below.ensures.0 c.if-not-is_below.false)
    (record { front = c.with_range.result; same = c.with_range.ensures.same c.self.inside.bytes.now; gives = c.renormalized.ensures.same }) in
    ap terminate (sym c.self.view_is) ∙ gives-none _ _ _ g c.in_default.is

pub returns-clause-step : goal.returns-clause-step
returns-clause-step c =
    let g = going-on c.self.inside.bytes.now c.self.inside.register c.renormalized.result (c.is_below.ensures.0 c.if-not-is_below.false)
    (record { front = c.with_range.result; same = c.with_range.ensures.same c.self.inside.bytes.now; gives = c.renormalized.ensures.same }) in
    ap terminate (sym c.self.view_is) ∙ gives-some _ _ _ _ g c.in-Some.is
