use Rattle.std.proofs.Common.{refl, ◌∙◌}
use Rattle.h264_command.proofs.job.check_strictly.Goals as goal

pub returns-clause-further : goal.returns-clause-further
returns-clause-further g c = (c.judge_further-judged.result.further, refl, c.judge_further-judged.ensures.further)

pub returns-clause-surveyed : goal.returns-clause-surveyed
returns-clause-surveyed g c e = c.judge_further-judged.ensures.surveyed (c.asks_for_survey.ensures ∙ e)
