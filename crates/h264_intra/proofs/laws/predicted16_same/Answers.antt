use Rattle.h264_intra.proofs.Depends.{predicted16_same}
use Rattle.h264_intra.proofs.laws.predicted16_same.Goals as goal

pub returns : goal.returns
returns c = predicted16_same
