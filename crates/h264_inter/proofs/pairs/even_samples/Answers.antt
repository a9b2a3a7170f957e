use Rattle.h264_inter.proofs.SignedLanes.{even_byte}
use Rattle.h264_inter.proofs.pairs.even_samples.Goals as goal

pub returns : goal.returns
returns c k p = even_byte c.args.v k c.fits-v.0 p
