use Rattle.std.proofs.Common.{◌≡◌, ◌<◌, ◌+◌, ◌-◌, ◌/◌, ◌%◌, pos, min, ap, ◌∙◌, arith, get_or, w8}
use Rattle.h264_deblock.proofs.Signed.{rise_is}
use Rattle.h264_plane.proofs.Lanes.{lane_fits}
use Rattle.h264_deblock.proofs.line.rise.Goals as goal

pub returns : goal.returns
returns c n i l e =
    let b1 : l.p1 < 256 = rw e.p1 (lane_fits w8 16 c.args.p1 n c.fits-p1 i) in
    let b2 : l.p0 < 256 = rw e.p0 (lane_fits w8 16 c.args.p0 n c.fits-p0 i) in
    let b3 : l.q0 < 256 = rw e.q0 (lane_fits w8 16 c.args.q0 n c.fits-q0 i) in
    let b4 : l.q1 < 256 = rw e.q1 (lane_fits w8 16 c.args.q1 n c.fits-q1 i) in
    let sum : get_or c.topped.result n 0 ≡ min ((((l.p1 + (255 - l.q1) + 1) / 2 + 3 + 1) / 2 + (l.p0 + l.q0) % 2 + 1) / 2 + (l.q0 + (255 - l.p0) + 1) / 2) 255 =
    omega (
      arith,
      b1,
      b2,
      b3,
      b4,
      e.p1,
      e.p0,
      e.q0,
      e.q1,
      c.topped.ensures n i,
      c.average-3.ensures n i,
      c.above-2.ensures n i,
      c.all-3.ensures n i,
      c.average-2.ensures n i,
      c.parity.ensures n i,
      c.average-outside.ensures n i,
      c.all-2.ensures n i,
      c.average.ensures n i,
      c.above.ensures n i,
      c.all.ensures n i,
    ) in
    ap pos sum ∙ rise_is l b1 b2 b3 b4
