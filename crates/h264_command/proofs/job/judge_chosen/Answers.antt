use Rattle.std.proofs.Common.{◌∙◌}
use Rattle.h264_verify.proofs.laws.AccountTaken.{accounts}
use Rattle.h264_lines.specs.Chosen.{pending_call}
use Rattle.h264_verify.specs.Account.{calls_in}
use Rattle.h264_verify.specs.Modes.{purpose_for}
use Rattle.h264_verify.proofs.samples.FamiliesByPurpose.{with-family}
use Rattle.h264_command.proofs.Texts.{left-some}
use Rattle.h264_command.proofs.Answered.{answered, chosen-calls, fresh-of, took-calls}
use Rattle.h264_command.proofs.job.judge_chosen.Goals as goal

pub returns-clause-answer : goal.returns-clause-answer
returns-clause-answer g c = answered c.args.job.now.task c.args.job.now.options.target _ _ _ c.mode_of-mode.ensures c.run-answer.ensures.verdict
    c.run-answer.ensures.some.0 c.run-answer.ensures.some.4

pub returns-clause-took : goal.returns-clause-took
returns-clause-took g c none =
    (chosen-calls _ _ _ _ _ _ _ _ _ _ _ (took-calls {s' = c.run-answer.new.sink} c.args.job.now.task c.args.job.now.options.target _ _ _ c.mode_of-mode.ensures
    c.run-answer.ensures.verdict c.run-answer.ensures.some.0 c.run-answer.ensures.some.4
    (c.new-narrowed.ensures.choice ∙ c.requires.choice, c.new-narrowed.ensures.took none, fresh-of c.new-narrowed.ensures.survey c.args.watch.fresh))).0

pub returns-clause-some : goal.returns-clause-some
returns-clause-some g c none =
    let n = c.run-answer.new.sink in
    let a = accounts {s' = n} (with-family (purpose_for c.mode_of-mode.result) c.run-answer.ensures.some.4)
    (c.new-narrowed.ensures.choice ∙ c.requires.choice, c.new-narrowed.ensures.took none, fresh-of c.new-narrowed.ensures.survey c.args.watch.fresh) in
    left-some g.S.Elements.took n.choice n.broke_off n.reading (pending_call n.pending) n.sink (calls_in a.0) a.1.1

pub returns-clause-surveyed : goal.returns-clause-surveyed
returns-clause-surveyed g c none =
    (chosen-calls _ _ _ _ _ _ _ _ _ _ _ (took-calls {s' = c.run-answer.new.sink} c.args.job.now.task c.args.job.now.options.target _ _ _ c.mode_of-mode.ensures
    c.run-answer.ensures.verdict c.run-answer.ensures.some.0 c.run-answer.ensures.some.4
    (c.new-narrowed.ensures.choice ∙ c.requires.choice, c.new-narrowed.ensures.took none, fresh-of c.new-narrowed.ensures.survey c.args.watch.fresh))).1
