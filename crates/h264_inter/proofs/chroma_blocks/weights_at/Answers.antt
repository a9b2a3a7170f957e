use Rattle.h264_inter.proofs.Weights.{weights_sum}
use Rattle.h264_inter.proofs.chroma_blocks.weights_at.Goals as goal

pub returns-clause-whole : goal.returns-clause-whole
returns-clause-whole c = weights_sum c.args.x c.args.y c.requires.0 c.requires.1
