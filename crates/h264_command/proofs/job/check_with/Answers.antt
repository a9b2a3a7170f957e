use Rattle.h264_command.proofs.job.check_with.Goals as goal

pub returns-clause-surveyed : goal.returns-clause-surveyed
returns-clause-surveyed g c e = c.in_ok-judged.ensures.surveyed e c.requires.none
