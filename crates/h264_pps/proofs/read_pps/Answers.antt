use Rattle.h264_base.proofs.OneAnswer.{answers}
use Rattle.h264_pps.proofs.read_pps.Goals as goal

pub returns-clause-answers : goal.returns-clause-answers
returns-clause-answers g c = answers c.pps_steps.ensures.meets

pub returns-clause-meets : goal.returns-clause-meets
returns-clause-meets g c = c.pps_steps.ensures.meets
