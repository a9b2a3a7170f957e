use Rattle.h264_deblock.proofs.Macroblocks.{filter_fresh}
use Rattle.h264_deblock.proofs.laws.filter_is_after.Goals as goal

pub returns : goal.returns
returns c = filter_fresh
