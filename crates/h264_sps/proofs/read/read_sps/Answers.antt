use Rattle.h264_base.proofs.OneAnswer.{answers}
use Rattle.h264_sps.proofs.Accepted.{read-accepted}
use Rattle.h264_sps.proofs.read.read_sps.Goals as goal

pub returns-clause-answers : goal.returns-clause-answers
returns-clause-answers g c = answers c.sps_steps.ensures.meets

pub returns-clause-meets : goal.returns-clause-meets
returns-clause-meets g c = c.sps_steps.ensures.meets

pub returns-clause-accepted : goal.returns-clause-accepted
returns-clause-accepted g c = read-accepted c.args.target _ c.sps_steps.ensures.meets
