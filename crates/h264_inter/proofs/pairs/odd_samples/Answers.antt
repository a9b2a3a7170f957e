use Rattle.h264_inter.proofs.SignedLanes.{odd_byte}
use Rattle.h264_inter.proofs.pairs.odd_samples.Goals as goal

pub returns : goal.returns
returns c k p = odd_byte c.args.v k c.fits-v.0 p
