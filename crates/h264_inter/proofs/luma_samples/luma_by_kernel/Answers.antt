use Rattle.std.proofs.Common.{◌≡◌, refl, arith, ◌∙◌, ap, rules, w16}
use Rattle.std.proofs.lemmas.Int.{ints, to_z-of_z}
use Rattle.h264_inter.specs.Reference.{whole, parts}
use Rattle.h264_inter.proofs.Shown.{luma_is, picture_shows, span_inside}
use Rattle.h264_inter.proofs.luma_samples.luma_by_kernel.Goals as goal

pub natural-requires : goal.natural-requires
natural-requires g c = c.if-is_inside.ensures.low refl

pub natural-requires-then-is_inside-2 : goal.natural-requires-then-is_inside-2
natural-requires-then-is_inside-2 g c = c.if-is_inside-2.ensures.low refl

pub place-requires-clause-small : goal.place-requires-clause-small
place-requires-clause-small g c = (
  omega (
    arith,
    span_inside c.natural.result _ _ _ _ c.natural.ensures (c.if-is_inside.ensures.high refl) c.width-width.ensures.value,
    c.width-width.ensures.value,
    c.width-width.ensures.bound,
    c.columns_read.ensures.some,
  ),
  omega (
    arith,
    span_inside c.natural-then-is_inside-2.result _ _ _ _ c.natural-then-is_inside-2.ensures (c.if-is_inside-2.ensures.high refl)
        c.height-height.ensures.value,
    c.height-height.ensures.value,
    c.height-height.ensures.bound,
  ),
)

pub place-requires-clause-columns : goal.place-requires-clause-columns
place-requires-clause-columns g c = rw c.of-lines.ensures
    (omega (
      arith,
      span_inside c.natural.result _ _ _ _ c.natural.ensures (c.if-is_inside.ensures.high refl) c.width-width.ensures.value,
      c.columns_read.ensures.some,
    ))

pub place-requires-clause-more_columns : goal.place-requires-clause-more_columns
place-requires-clause-more_columns g c p =
    rw c.of-lines.ensures (omega (
      arith,
      span_inside c.natural.result _ _ _ _ c.natural.ensures (c.if-is_inside.ensures.high refl)
          c.width-width.ensures.value,
      c.columns_read.ensures.more p,
    ))

pub place-requires-clause-rows : goal.place-requires-clause-rows
place-requires-clause-rows g c = rw c.of-lines.ensures
    (omega (
      arith,
      span_inside c.natural-then-is_inside-2.result _ _ _ _ c.natural-then-is_inside-2.ensures (c.if-is_inside-2.ensures.high refl)
          c.height-height.ensures.value,
    ))

pub returns-then-is_inside-2 : goal.returns-then-is_inside-2
returns-then-is_inside-2 g c =
    let a = c.args in
    let mx = to_z-of_z w16 a.vector.x (search rules) in
    let my = to_z-of_z w16 a.vector.y (search rules) in
    let across : c.whole_luma.result ≡ whole 2 a.vector.x = c.whole_luma.ensures.value ∙ ap (whole 2) mx in
    let down : c.whole_luma-2.result ≡ whole 2 a.vector.y = c.whole_luma-2.ensures.value ∙ ap (whole 2) my in
    luma_is a.reference.now a.reference.now a.vector g.row.W g.row.H a.x a.y c.natural.result c.natural-then-is_inside-2.result _ _ _
    (picture_shows a.reference.now _ _ _ _ _ _
    (omega (
      arith,
      span_inside c.natural.result _ _ _ _ c.natural.ensures (c.if-is_inside.ensures.high refl) c.width-width.ensures.value,
      c.columns_read.ensures.enough,
    ))
    (omega (
      arith,
      span_inside c.natural-then-is_inside-2.result _ _ _ _ c.natural-then-is_inside-2.ensures (c.if-is_inside-2.ensures.high refl)
          c.height-height.ensures.value,
    ))
    (omega (arith, ints, across, c.natural.ensures)) (omega (arith, ints, down, c.natural-then-is_inside-2.ensures)))
    (c.quarters-right.ensures.value ∙ ap (parts 4) mx) (c.quarters-below.ensures.value ∙ ap (parts 4) my) (rw c.of-lines.ensures at c.place.ensures)
