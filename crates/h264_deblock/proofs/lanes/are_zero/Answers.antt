use Rattle.std.proofs.Common.{arith, w8}
use Rattle.std.proofs.lemmas.Bool.Decides.{nat_tests}
use Rattle.h264_plane.proofs.Lanes.{zero_lane}
use Rattle.h264_deblock.proofs.lanes.are_zero.Goals as goal

pub returns : goal.returns
returns c h = zero_lane w8 16 c.args.a c.fits-a.0 (omega arith) (grind (arith, nat_tests, h))
