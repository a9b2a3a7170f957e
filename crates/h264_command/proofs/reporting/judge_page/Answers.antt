use Rattle.std.proofs.Common.{refl}
use Rattle.h264_command.proofs.reporting.judge_page.Goals as goal

pub returns-then-job-clause-further : goal.returns-then-job-clause-further
returns-then-job-clause-further g c = rw c.if-job.true (c.judge_further-judged.result.further, refl, c.judge_further-judged.ensures.further)
