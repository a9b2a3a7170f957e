use Rattle.h264_recon.proofs.Existence.{some_picture}
use Rattle.h264_recon.proofs.laws.some_picture.Goals as goal

pub returns : goal.returns
returns c = some_picture
