use Rattle.std.proofs.Common.{sym, ◌∙◌}
use Rattle.h264_write.proofs.Escapes.{step-with, step-without}
use Rattle.h264_write.proofs.escape.append.Goals as goal

pub returns-then-needs_prevention-clause-step : goal.returns-then-needs_prevention-clause-step
returns-then-needs_prevention-clause-step c rest =
    step-with c.args.body.now.items c.push.new.self.items c.push-then-needs_prevention.new.self.items c.args.zeros c.zeros_after.result c.args.byte rest
    (sym c.needs_prevention.ensures ∙ c.if-needs_prevention.true) c.in_ok-push.ensures.items c.in_ok-push-2.ensures.items c.zeros_after.ensures

pub returns-clause-step : goal.returns-clause-step
returns-clause-step c rest = step-without c.args.body.now.items c.push-2.new.self.items c.args.zeros c.zeros_after-2.result c.args.byte rest
    (sym c.needs_prevention.ensures ∙ c.if-needs_prevention.false) c.in_ok-push-3.ensures.items c.zeros_after-2.ensures
