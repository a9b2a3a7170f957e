use Rattle.std.proofs.Common.{◌≡◌, true, false, inl, inr, refl, arith, get_or, w8}
use Rattle.h264_plane.proofs.Lanes.{lane_fits}
use Rattle.h264_deblock.proofs.filtered.asking.Goals as goal

pub returns : goal.returns
returns c n i true e h =
    let b = lane_fits w8 16 c.args.numbers n c.fits-numbers i in
    inr (let off : get_or c.args.numbers n 0 ≡ 255 = omega (arith, b, e, h, c.least.ensures n i, c.above.ensures n i, c.all.ensures n i) in off)
returns c n i false e h = inl refl
