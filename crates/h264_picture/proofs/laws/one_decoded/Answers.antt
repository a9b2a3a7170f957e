use Rattle.h264_picture.proofs.Unique.{one_decoded}
use Rattle.h264_picture.proofs.laws.one_decoded.Goals as goal

pub returns : goal.returns
returns c = one_decoded
