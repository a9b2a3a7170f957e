use Rattle.h264_picture.proofs.Unique.{some_decoded}
use Rattle.h264_picture.proofs.laws.some_decoded.Goals as goal

pub returns : goal.returns
returns c = some_decoded
