use Rattle.h264_command.proofs.Answered.{answered}
use Rattle.h264_command.proofs.job.judge_plainly.Goals as goal

pub returns-clause-answer : goal.returns-clause-answer
returns-clause-answer g c = answered c.args.job.now.task c.args.job.now.options.target _ _ _ c.mode_of-mode.ensures c.run-answer.ensures.verdict
    c.run-answer.ensures.some.0 c.run-answer.ensures.some.4
