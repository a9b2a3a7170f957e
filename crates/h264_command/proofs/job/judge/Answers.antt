use Rattle.std.proofs.Common.{refl}
use Rattle.h264_verify.proofs.laws.AccountTaken.{accounts}
use Rattle.h264_pages.proofs.Surveying.{none-surveyed}
use Rattle.h264_verify.specs.Account.{calls_in}
use Rattle.h264_verify.specs.Modes.{purpose_for}
use Rattle.h264_verify.proofs.samples.FamiliesByPurpose.{with-family}
use Rattle.h264_command.proofs.Answered.{answered, survey-of, surveyed-calls}
use Rattle.h264_command.proofs.job.judge.Goals as goal

pub returns-clause-answer : goal.returns-clause-answer
returns-clause-answer g c = answered c.args.job.now.task c.args.job.now.options.target _ _ _ c.mode_of-mode.ensures c.run-answer.ensures.verdict
    c.run-answer.ensures.some.0 c.run-answer.ensures.some.4

pub returns-clause-took : goal.returns-clause-took
returns-clause-took g c none =
    rw c.tell_end.ensures.sink (surveyed-calls g.S.Elements.took {s' = c.run-answer.new.sink} c.args.job.now.task c.args.job.now.options.target _ _ _
    c.mode_of-mode.ensures c.run-answer.ensures.verdict c.run-answer.ensures.some.0 c.run-answer.ensures.some.4 none c.args.watch.fresh).0

pub returns-clause-some : goal.returns-clause-some
returns-clause-some g c none =
    let a = accounts {s' = c.run-answer.new.sink} (with-family (purpose_for c.mode_of-mode.result) c.run-answer.ensures.some.4)
    (none, none-surveyed c.args.watch.fresh) in
    rw c.tell_end.ensures.sink (calls_in a.0, a.1.0)

pub returns-clause-surveyed : goal.returns-clause-surveyed
returns-clause-surveyed g c none =
    survey-of c.args.job.now _ refl c.tell_end.ensures.survey
    (surveyed-calls g.S.Elements.took {s' = c.run-answer.new.sink} c.args.job.now.task c.args.job.now.options.target _ _ _
    c.mode_of-mode.ensures c.run-answer.ensures.verdict c.run-answer.ensures.some.0 c.run-answer.ensures.some.4 none c.args.watch.fresh).1
