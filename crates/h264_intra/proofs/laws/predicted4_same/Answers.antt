use Rattle.h264_intra.proofs.Depends.{predicted4_same}
use Rattle.h264_intra.proofs.laws.predicted4_same.Goals as goal

pub returns : goal.returns
returns c = predicted4_same
