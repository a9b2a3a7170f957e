use Rattle.std.proofs.Common.{◌≡◌, ◌-◌, ◌+ℤ◌, ◌*ℤ◌, ◌-ℤ◌, pos, ap, ◌∙◌, arith, to_z, of_z, w32}
use Rattle.std.proofs.lemmas.Int.{ints}
use Rattle.std.specs.Int.{int_shr}
use Rattle.h264_plane.specs.Clip.{clip1}
use Rattle.h264_intra.proofs.Bounds.{shifted_is}
use Rattle.h264_intra.proofs.slope.Plane.sample.Goals as goal

pub overflow_add-self-2 : goal.overflow_add-self-2
overflow_add-self-2 g c = omega (arith, ints)

pub overflow_add-self-3 : goal.overflow_add-self-3
overflow_add-self-3 g c = omega (arith, ints)

pub returns : goal.returns
returns g c =
    let s = c.args.self in
    let a = c.requires.bounds in
    let middle = pos (g.row.HALF - 1) in
    let b_kept : to_z w32 (of_z w32 s.b) ≡ s.b = omega (arith, ints) in
    let c_kept : to_z w32 (of_z w32 s.c) ≡ s.c = omega (arith, ints) in
    let across : c.rise.result ≡ s.b *ℤ (pos c.args.x -ℤ middle) = c.rise.ensures.value ∙ ap (λ z. z *ℤ (pos c.args.x -ℤ middle)) b_kept in
    let down : c.rise-2.result ≡ s.c *ℤ (pos c.args.y -ℤ middle) = c.rise-2.ensures.value ∙ ap (λ z. z *ℤ (pos c.args.y -ℤ middle)) c_kept in
    c.clip1.ensures ∙ ap clip1 (shifted_is s.a c.rise.result c.rise-2.result a.base c.rise.ensures.bound c.rise-2.ensures.bound
    ∙ ap (λ r. int_shr (s.a +ℤ r +ℤ c.rise-2.result +ℤ pos 16) 5) across
    ∙ ap (λ r. int_shr (s.a +ℤ s.b *ℤ (pos c.args.x -ℤ middle) +ℤ r +ℤ pos 16) 5) down)
