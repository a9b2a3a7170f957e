use Rattle.std.proofs.Common.{map-id, w8}
use Rattle.h264_plane.proofs.Lanes.{lane_fits}
use Rattle.h264_plane.proofs.vectors.widened.Goals as goal

pub returns-clause-small : goal.returns-clause-small
returns-clause-small c k p = rw (map-id c.args.a) (lane_fits w8 16 c.args.a k c.fits-a p)
