use Rattle.std.proofs.Common.{w8}
use Rattle.h264_plane.proofs.Lanes.{greatest_lane}
use Rattle.h264_deblock.proofs.lanes.greatest.Goals as goal

pub returns : goal.returns
returns c n p = greatest_lane w8 16 c.args.a c.args.b n c.fits-a.0 c.fits-b.0 p
