use Rattle.std.proofs.Common.{sym, ap, ◌∙◌}
use Rattle.h264_cabac.specs.Engine.{decision}
use Rattle.h264_cabac.specs.Given.{state_of}
use Rattle.h264_cabac.proofs.Decisions.{most-probable, least-probable, gives-none, gives-some, not-below}
use Rattle.h264_cabac.proofs.engine.Engine.decision.Goals as goal

pub returns-in_default-clause-step : goal.returns-in_default-clause-step
returns-in_default-clause-step c =
    let g = most-probable (state_of c.args.context.now) c.self.inside.bytes.now c.self.inside.register c.range_lps-lps.result c.renormalized.result
    c.range_lps-lps.ensures.value (c.is_below.ensures.0 c.if-is_below.true)
    (record { front = c.with_range.result; same = c.with_range.ensures.same c.self.inside.bytes.now; gives = c.renormalized.ensures.same }) in
    ap (decision (state_of c.args.context.now)) (sym c.self.view_is) ∙ gives-none _ _ _ g c.in_default.is

pub returns-in-Some-clause-step : goal.returns-in-Some-clause-step
returns-in-Some-clause-step c =
    let g = most-probable (state_of c.args.context.now) c.self.inside.bytes.now c.self.inside.register c.range_lps-lps.result c.renormalized.result
    c.range_lps-lps.ensures.value (c.is_below.ensures.0 c.if-is_below.true)
    (record { front = c.with_range.result; same = c.with_range.ensures.same c.self.inside.bytes.now; gives = c.renormalized.ensures.same }) in
    ap (decision (state_of c.args.context.now)) (sym c.self.view_is) ∙ (gives-some _ _ _ _ g c.in-Some.is ∙ rw c.after_most_probable.ensures)

pub returns-in_default-renormalized-clause-step : goal.returns-in_default-renormalized-clause-step
returns-in_default-renormalized-clause-step c =
    let g = least-probable (state_of c.args.context.now) c.self.inside.bytes.now c.self.inside.register c.range_lps-lps.result
    c.renormalized-else-is_below.result c.range_lps-lps.ensures.value (not-below _ _ _ c.is_below.ensures.1 c.if-is_below.false)
    (record { front = c.without.result; same = c.without.ensures.same c.self.inside.bytes.now; gives = c.renormalized-else-is_below.ensures.same }) in
    ap (decision (state_of c.args.context.now)) (sym c.self.view_is) ∙ gives-none _ _ _ g c.in_default-renormalized.is

pub returns-in-Some-renormalized-clause-step : goal.returns-in-Some-renormalized-clause-step
returns-in-Some-renormalized-clause-step c =
    let g = least-probable (state_of c.args.context.now) c.self.inside.bytes.now c.self.inside.register c.range_lps-lps.result
    c.renormalized-else-is_below.result c.range_lps-lps.ensures.value (not-below _ _ _ c.is_below.ensures.1 c.if-is_below.false)
    (record { front = c.without.result; same = c.without.ensures.same c.self.inside.bytes.now; gives = c.renormalized-else-is_below.ensures.same }) in
    ap (decision (state_of c.args.context.now)) (sym c.self.view_is) ∙ (gives-some _ _ _ _ g c.in-Some-renormalized.is ∙ rw c.after_least_probable.ensures)
