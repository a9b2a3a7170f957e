use Rattle.std.proofs.Common.{◌≡◌, arith, ◌∙◌, ap, rules, w16}
use Rattle.std.proofs.lemmas.Int.{ints, to_z-of_z}
use Rattle.h264_inter.specs.Reference.{whole, parts, in_rows}
use Rattle.h264_inter.proofs.Shown.{chroma_is, copy_shows}
use Rattle.h264_inter.proofs.chroma_samples.chroma_at_border.Goals as goal

pub returns : goal.returns
returns g c =
    let a = c.args in
    let mx = to_z-of_z w16 a.vector.x (search rules) in
    let my = to_z-of_z w16 a.vector.y (search rules) in
    let across : c.whole_chroma.result ≡ whole 3 a.vector.x = c.whole_chroma.ensures.value ∙ ap (whole 3) mx in
    let down : c.whole_chroma-2.result ≡ whole 3 a.vector.y = c.whole_chroma-2.ensures.value ∙ ap (whole 3) my in
    chroma_is a.reference.now (in_rows c.fetch-area.result.samples) a.vector g.row.W g.row.H a.x a.y 0 0 _ _ _
    (copy_shows a.reference.now _ _ _ _ _ _ _ c.fetch-area.ensures (omega (arith, ints, across)) (omega (arith, ints, down)))
    (c.eighths-right.ensures.value ∙ ap (parts 8) mx) (c.eighths-below.ensures.value ∙ ap (parts 8) my) (rw c.lines.ensures at c.block.ensures)
