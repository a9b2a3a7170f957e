use Rattle.std.proofs.Common.{refl, w16}
use Rattle.h264_plane.proofs.Lanes.{shifted}
use Rattle.h264_deblock.proofs.lanes.halves.Goals as goal

pub returns : goal.returns
returns c n p = shifted w16 16 c.args.a 1 1 2 n c.fits-a.0 p refl
