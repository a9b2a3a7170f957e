use Rattle.h264_sps.proofs.Content.{decides-sps}
use Rattle.h264_sps.proofs.laws.equal_sets.Goals as goal

pub returns : goal.returns
returns c = decides-sps
