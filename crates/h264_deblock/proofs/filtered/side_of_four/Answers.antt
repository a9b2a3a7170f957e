use Rattle.std.proofs.Common.{◌≡◌, ◌+◌, ◌*◌, ◌/◌, arith, get_or}
use Rattle.h264_deblock.specs.Rows.{line_of}
use Rattle.h264_deblock.proofs.ByLane.{side_lane}
use Rattle.h264_deblock.proofs.filtered.side_of_four.Goals as goal

pub returns : goal.returns
returns c n i o s eo es =
    let l = line_of c.args.r.now n in
    side_lane o s l (get_or c.args.on n 0) (get_or c.args.smooth n 0) _ _ _ _ _ _ _ _ eo es
    (let weak : get_or c.weak.result n 0 ≡ (2 * l.p1 + l.p0 + l.q1 + 2) / 4 = c.weak.ensures n i in weak)
    (let first : get_or c.eighth.result n 0 ≡ (l.p2 + 2 * l.p1 + 2 * l.p0 + 2 * l.q0 + l.q1 + 4) / 8 =
    omega (arith, c.eighth.ensures n i, c.three-inner.ensures.sum n i) in first)
    (let second : get_or c.fourth.result n 0 ≡ (l.p2 + l.p1 + l.p0 + l.q0 + 2) / 4 = omega (arith, c.fourth.ensures n i, c.three-inner.ensures.sum n i) in
    second)
    (let third : get_or c.outer_eighth.result n 0 ≡ (2 * l.p3 + 3 * l.p2 + l.p1 + l.p0 + l.q0 + 4) / 8 =
    omega (arith, c.outer_eighth.ensures n i, c.three-inner.ensures.sum n i) in third)
    (c.chosen-x0.ensures n i) (c.chosen.ensures n i) (c.chosen-2.ensures n i) (c.chosen-3.ensures n i)
