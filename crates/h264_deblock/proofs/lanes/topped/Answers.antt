use Rattle.std.proofs.Common.{w8}
use Rattle.h264_plane.proofs.Lanes.{topped_lane}
use Rattle.h264_deblock.proofs.lanes.topped.Goals as goal

pub returns : goal.returns
returns c n p = topped_lane w8 16 c.args.a c.args.b n c.fits-a c.fits-b.0 p
