use Rattle.h264_base.proofs.OneAnswer.{answers}
use Rattle.h264_cavlc.proofs.residual.block_into.Goals as goal

pub returns-clause-answers : goal.returns-clause-answers
returns-clause-answers g c = answers c.read_block.ensures.meets
