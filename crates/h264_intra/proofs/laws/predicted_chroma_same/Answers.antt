use Rattle.h264_intra.proofs.Depends.{predicted_chroma_same}
use Rattle.h264_intra.proofs.laws.predicted_chroma_same.Goals as goal

pub returns : goal.returns
returns c = predicted_chroma_same
