use Rattle.h264_inter.proofs.Weighing.{plain-weighted}
use Rattle.h264_inter.proofs.laws.plain_weights.Goals as goal

pub returns : goal.returns
returns c = plain-weighted
