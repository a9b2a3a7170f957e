use Rattle.std.proofs.Common.{◌≡◌, ◌+◌, ◌*◌, get_or, ◌∙◌, arith}
use Rattle.h264_inter.proofs.Moved.{below_is}
use Rattle.h264_inter.proofs.luma_blocks.h8.Goals as goal

pub returns-clause-each : goal.returns-clause-each
returns-clause-each c p x d y six k q =
    let w = c.args.w in
    let r = c.requires.sums in
    let up : get_or c.raised-outer.result k 0 ≡ get_or w.e k 0 + get_or w.i k 0 + 16 =
    omega (arith, r.e k q, r.i k q, c.plus.ensures k q, c.raised-outer.ensures k q) in
    let down : get_or c.times-inner.result k 0 ≡ 6 * (get_or w.f k 0 + get_or w.g k 0 + get_or w.h k 0) =
    omega (arith, r.f k q, r.g k q, r.h k q, c.plus-2.ensures k q, c.plus-3.ensures k q, c.times-inner.ensures k q) in
    c.difference_and.ensures k q ∙ rw (up, down) (below_is p x d y k w six q)
