use Rattle.std.proofs.Common.{◌≡◌, ◌-◌, min, max, arith, get_or, ◌∙◌, w8}
use Rattle.h264_plane.proofs.Lanes.{lane_fits}
use Rattle.h264_deblock.proofs.Masks.{choice}
use Rattle.h264_deblock.proofs.lanes.chosen.Goals as goal

pub returns : goal.returns
returns c n p =
    let m = get_or c.filled-on.result n 0 in
    let sum : get_or c.greatest.result n 0 ≡ max (min (get_or c.args.a n 0) m) (min (get_or c.args.b n 0) (255 - m)) =
    omega (arith, c.greatest.ensures n p, c.least.ensures n p, c.least-2.ensures n p, c.above-off.ensures n p, c.all.ensures n p) in
    sum ∙ choice (get_or c.args.on n 0) (get_or c.args.a n 0) (get_or c.args.b n 0) m (lane_fits w8 16 c.args.a n c.fits-a p)
    (lane_fits w8 16 c.args.b n c.fits-b p) (c.filled-on.ensures n p)
