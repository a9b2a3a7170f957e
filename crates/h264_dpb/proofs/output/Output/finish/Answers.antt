use Rattle.h264_dpb.proofs.output.Output.finish.Goals as goal

pub returns-clause-writes : goal.returns-clause-writes
returns-clause-writes g c = c.flush.ensures.writes

pub returns-clause-keeps : goal.returns-clause-keeps
returns-clause-keeps g c = c.flush.ensures.keeps
