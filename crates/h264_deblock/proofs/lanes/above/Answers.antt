use Rattle.std.proofs.Common.{w8}
use Rattle.h264_plane.proofs.Lanes.{above_lane}
use Rattle.h264_deblock.proofs.lanes.above.Goals as goal

pub returns : goal.returns
returns c n p = above_lane w8 16 c.args.a c.args.b n c.fits-a c.fits-b p
