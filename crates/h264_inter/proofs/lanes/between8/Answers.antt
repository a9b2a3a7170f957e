use Rattle.std.proofs.Common.{◌≡◌, ◌+◌, ◌*◌, get_or, replicate, ap, ◌∙◌, arith, pos, ◌+ℤ◌, ◌-ℤ◌}
use Rattle.std.proofs.lemmas.Simd.{get_or-replicate}
use Rattle.std.specs.Int.{int_shr}
use Rattle.h264_plane.specs.Clip.{clip1}
use Rattle.h264_inter.proofs.SixTaps.{between_lane}
use Rattle.h264_inter.proofs.lanes.between8.Goals as goal

pub returns-clause-each : goal.returns-clause-each
returns-clause-each c k p =
    let a = c.args in
    let r = c.requires in
    let up : get_or c.plus-4.result k 0 ≡ get_or a.e k 0 + get_or a.j k 0 + 16 + 20 * (get_or a.g k 0 + get_or a.h k 0) =
    omega (
      arith,
      r.e k p,
      r.j k p,
      r.g k p,
      r.h k p,
      c.plus.ensures k p,
      c.raised-outer.ensures k p,
      c.plus-2.ensures k p,
      c.times-inner.ensures k p,
      c.plus-4.ensures k p,
    ) in
    let down : get_or c.times-between.result k 0 ≡ 5 * (get_or a.f k 0 + get_or a.i k 0) =
    omega (arith, r.f k p, r.i k p, c.plus-3.ensures k p, c.times-between.ensures k p) in
    let none : get_or (replicate 8 0) k 0 ≡ 0 = get_or-replicate 8 k 0 0 p in
    c.difference_and.ensures k p
    ∙ ap (λ n. clip1 (int_shr (pos (get_or c.plus-4.result k 0) -ℤ pos (get_or c.times-between.result k 0)) 5 +ℤ pos n)) none
    ∙ rw (up, down) (between_lane (get_or a.e k 0) (get_or a.f k 0) (get_or a.g k 0) (get_or a.h k 0) (get_or a.i k 0) (get_or a.j k 0))
