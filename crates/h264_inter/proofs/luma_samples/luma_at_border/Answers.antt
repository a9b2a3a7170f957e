use Rattle.std.proofs.Common.{◌≡◌, arith, ◌∙◌, ap, rules, w16}
use Rattle.std.proofs.lemmas.Int.{ints, to_z-of_z}
use Rattle.h264_inter.specs.Reference.{whole, parts, in_rows}
use Rattle.h264_inter.proofs.Shown.{copy_shows, luma_is}
use Rattle.h264_inter.proofs.luma_samples.luma_at_border.Goals as goal

pub returns : goal.returns
returns g c =
    let a = c.args in
    let mx = to_z-of_z w16 a.vector.x (search rules) in
    let my = to_z-of_z w16 a.vector.y (search rules) in
    let across : c.whole_luma.result ≡ whole 2 a.vector.x = c.whole_luma.ensures.value ∙ ap (whole 2) mx in
    let down : c.whole_luma-2.result ≡ whole 2 a.vector.y = c.whole_luma-2.ensures.value ∙ ap (whole 2) my in
    luma_is a.reference.now (in_rows c.fetch-area.result.samples) a.vector g.row.W g.row.H a.x a.y 0 0 _ _ _
    (copy_shows a.reference.now _ _ _ _ _ _ _ c.fetch-area.ensures (omega (arith, ints, across)) (omega (arith, ints, down)))
    (c.quarters-right.ensures.value ∙ ap (parts 4) mx) (c.quarters-below.ensures.value ∙ ap (parts 4) my) (rw c.lines.ensures at c.place.ensures)
