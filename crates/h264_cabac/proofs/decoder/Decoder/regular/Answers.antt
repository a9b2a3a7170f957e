use Rattle.std.proofs.Common.{arith, ap, sym, ◌∙◌}
use Rattle.std.proofs.lemmas.Option.{slice_get-get_or}
use Rattle.h264_cabac.specs.Bins.{regular_step}
use Rattle.h264_cabac.proofs.Given.{regular-given, regular-lost}
use Rattle.h264_cabac.proofs.decoder.Decoder.regular.Goals as goal

pub returns-in-Ok-clause-step : goal.returns-in-Ok-clause-step
returns-in-Ok-clause-step c =
    let i = c.self.invariant in
    let r = c.requires in
    ap (regular_step c.args.index) (sym c.self.view_is) ∙
    regular-given _ _ c.self.inside.contexts c.args.index _ _ _
    (slice_get-get_or c.self.inside.contexts c.args.index c.index-self-index.result (omega arith)) c.in-Ok.ensures.step

pub returns-in-Err-clause-step : goal.returns-in-Err-clause-step
returns-in-Err-clause-step c =
    let i = c.self.invariant in
    let r = c.requires in
    ap (regular_step c.args.index) (sym c.self.view_is) ∙
    regular-lost _ c.self.inside.contexts c.args.index _
    (slice_get-get_or c.self.inside.contexts c.args.index c.index-self-index.result (omega arith)) c.in-Err.ensures.step
