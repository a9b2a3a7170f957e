use Rattle.std.proofs.Common.{◌+◌, ◌/◌, ◌%◌, ap, ◌∙◌, sym, refl, w16}
use Rattle.std.proofs.lemmas.Simd.{length-zip2}
use Rattle.h264_plane.proofs.Lanes.{each, shifted}
use Rattle.h264_inter.proofs.lanes.half_of_sums.Goals as goal

pub returns : goal.returns
returns c k p =
    let a = c.args in
    let sum = length-zip2 (λ x y. (x + y) % 65536) a.a a.b (c.fits-a.0 ∙ sym c.fits-b.0) ∙ c.fits-a.0 in
    shifted w16 16 _ 1 1 2 k sum p refl
    ∙ ap (λ z. (z + 1) % 65536 / 2) (each 16 (λ x y. (x + y) % 65536) a.a a.b k c.fits-a.0 c.fits-b.0 p)
