use Rattle.h264_recon.proofs.Possible.{given-allowed}
use Rattle.h264_recon.proofs.laws.given_is_allowed.Goals as goal

pub returns : goal.returns
returns c = given-allowed
