use Rattle.h264_near.specs.Intra.{macroblock_samples}
use Rattle.h264_near.proofs.near.Near.macroblock_samples.Goals as goal

pub returns : goal.returns
unfolding macroblock_samples
returns c width picture k = c.samples.ensures width picture k
