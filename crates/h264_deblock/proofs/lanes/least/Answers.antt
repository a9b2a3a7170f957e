use Rattle.std.proofs.Common.{w8}
use Rattle.h264_plane.proofs.Lanes.{least_lane}
use Rattle.h264_deblock.proofs.lanes.least.Goals as goal

pub returns : goal.returns
returns c n p = least_lane w8 16 c.args.a c.args.b n c.fits-a.0 c.fits-b.0 p
