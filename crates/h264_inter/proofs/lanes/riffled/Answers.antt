use Rattle.h264_plane.proofs.Lanes.{in_turn, place_in_turn, swizzled}
use Rattle.h264_inter.proofs.lanes.riffled.Goals as goal

pub returns : goal.returns
returns c k p = swizzled 16 c.args.v in_turn k _ c.fits-v.0 tt p (place_in_turn k p)
