use Rattle.std.proofs.Common.{◌≡◌, ℕ, ◌+◌, ◌*◌, ◌/◌, ◌<◌, refl, sym, ap, ◌∙◌, arith, List, [], ◌∷◌, slice_index, Option, Some, None, unwrap_or}
use Rattle.std.proofs.Common.{is_some, IsTrue, ℤ, pos}
use Rattle.std.proofs.lemmas.Bool.{false≢true}
use Rattle.h264_intra.specs.Filters.{HasSamples}
use Rattle.h264_intra.specs.Sides.{beside, with_corner}
use Rattle.h264_intra.specs.Slope.{plane, plane_sample, slope}
use Rattle.h264_intra.specs.Luma16.{sides16, around16, chosen16, predicted16, dc16}
use Rattle.h264_intra.specs.Chroma.{sides_chroma, around_chroma, chosen_chroma, predicted_chroma, block_dc}
use Rattle.h264_intra.specs.declared.slope.Plane.{Plane as Slopes}
use Rattle.h264_intra.specs.declared.luma16.Neighbours16.{Neighbours16}
use Rattle.h264_intra.specs.declared.luma16.Intra16x16PredMode.TheVariants as luma
use Rattle.h264_intra.specs.declared.chroma.NeighboursChroma.{NeighboursChroma}
use Rattle.h264_intra.specs.declared.chroma.IntraChromaPredMode.TheVariants as chroma
use Rattle.h264_intra.proofs.Totals.{beside_row, beside_column}
use Rattle.h264_plane.proofs.Below.{below_2}

-- a side that is there
side_is : (o : Option (List ℕ)) (s z : List ℕ) → IsTrue (is_some o) → s ≡ unwrap_or o z → s ≡ unwrap_or o []
side_is None s z p e = absurd (false≢true p)
side_is (Some x) s z p e = e

row_is : (l a : Option (List ℕ)) (c : Option ℕ) (s z : List ℕ) → IsTrue (is_some a) → s ≡ unwrap_or a z → (x : ℕ) → slice_index s x ≡ beside l a c (x + 1) 0
row_is l a c s z p e x = ap (λ xs. slice_index xs x) (side_is a s z p e) ∙ sym (beside_row l a c (x + 1) x refl)

column_is : (l a : Option (List ℕ)) (c : Option ℕ) (s z : List ℕ) → IsTrue (is_some l) → s ≡ unwrap_or l z → (y : ℕ) → slice_index s y ≡ beside l a c 0 (y + 1)
column_is l a c s z p e y = ap (λ xs. slice_index xs y) (side_is l s z p e) ∙ sym (beside_column l a c (y + 1) y refl)

plane16 : (l a : Option (List ℕ)) (c : Option ℕ) (left above z : List ℕ) (corner : ℕ) (m r s : ℤ) (x y : ℕ) →
    IsTrue (is_some l) → IsTrue (is_some a) → IsTrue (is_some c) → left ≡ unwrap_or l z → above ≡ unwrap_or a z → corner ≡ unwrap_or c 0 →
    m ≡ pos (16 * (slice_index left 15 + slice_index above 15)) → r ≡ slope 8 (pos 5) (with_corner corner above) →
    s ≡ slope 8 (pos 5) (with_corner corner left) →
    plane_sample 8 m r s x y ≡ plane 8 (pos 5) (beside l a c) x y
unfolding plane
plane16 (Some l) (Some a) (Some c) left above z corner m r s x y p q t i j k e f g = rw (e, f, g, i, j, k) refl
plane16 None a c left above z corner m r s x y p q t i j k e f g = absurd (false≢true p)
plane16 (Some l) None c left above z corner m r s x y p q t i j k e f g = absurd (false≢true q)
plane16 (Some l) (Some a) None left above z corner m r s x y p q t i j k e f g = absurd (false≢true t)

plane8 : (l a : Option (List ℕ)) (c : Option ℕ) (left above z : List ℕ) (corner : ℕ) (m r s : ℤ) (x y : ℕ) →
    IsTrue (is_some l) → IsTrue (is_some a) → IsTrue (is_some c) → left ≡ unwrap_or l z → above ≡ unwrap_or a z → corner ≡ unwrap_or c 0 →
    m ≡ pos (16 * (slice_index left 7 + slice_index above 7)) → r ≡ slope 4 (pos 34) (with_corner corner above) →
    s ≡ slope 4 (pos 34) (with_corner corner left) →
    plane_sample 4 m r s x y ≡ plane 4 (pos 34) (beside l a c) x y
unfolding plane
plane8 (Some l) (Some a) (Some c) left above z corner m r s x y p q t i j k e f g = rw (e, f, g, i, j, k) refl
plane8 None a c left above z corner m r s x y p q t i j k e f g = absurd (false≢true p)
plane8 (Some l) None c left above z corner m r s x y p q t i j k e f g = absurd (false≢true q)
plane8 (Some l) (Some a) None left above z corner m r s x y p q t i j k e f g = absurd (false≢true t)

-- what the code chose is the prediction: luma
pub vertical16 : (n : Neighbours16) (left above z out : List ℕ) (flat : ℕ) (t : Slopes) → IsTrue (is_some n.above) → above ≡ unwrap_or n.above z →
    HasSamples 16 out (chosen16 0 left above flat t) → HasSamples 16 out (predicted16 luma.Vertical (sides16 n) (around16 n))
unfolding predicted16
vertical16 n left above z out flat t p e has = record {
  each = λ x y i j. has.each x y i j ∙ row_is n.left n.above n.corner above z p e x;
}

pub horizontal16 : (n : Neighbours16) (left above z out : List ℕ) (flat : ℕ) (t : Slopes) → IsTrue (is_some n.left) → left ≡ unwrap_or n.left z →
    HasSamples 16 out (chosen16 1 left above flat t) → HasSamples 16 out (predicted16 luma.Horizontal (sides16 n) (around16 n))
unfolding predicted16
horizontal16 n left above z out flat t p e has = record {
  each = λ x y i j. has.each x y i j ∙ column_is n.left n.above n.corner left z p e y;
}

pub plane_whole16 : (n : Neighbours16) (left above z out : List ℕ) (corner : ℕ) (flat : ℕ) (t : Slopes) →
    IsTrue (is_some n.above) → IsTrue (is_some n.left) → IsTrue (is_some n.corner) → left ≡ unwrap_or n.left z → above ≡ unwrap_or n.above z →
    corner ≡ unwrap_or n.corner 0 →
    t.a ≡ pos (16 * (slice_index left 15 + slice_index above 15)) → t.b ≡ slope 8 (pos 5) (with_corner corner above) →
    t.c ≡ slope 8 (pos 5) (with_corner corner left) →
    HasSamples 16 out (chosen16 3 left above flat t) → HasSamples 16 out (predicted16 luma.Plane (sides16 n) (around16 n))
unfolding predicted16
plane_whole16 n left above z out corner flat t p q r e f g h i j has = record {
  each = λ x y k l. has.each x y k l ∙ plane16 n.left n.above n.corner left above z corner t.a t.b t.c x y q p r e f g h i j;
}

-- what the code chose is the prediction: chroma
pub vertical_chroma : (n : NeighboursChroma) (left above z out : List ℕ) (flat : List ℕ) (t : Slopes) → IsTrue (is_some n.above) → above ≡ unwrap_or n.above z →
    HasSamples 8 out (chosen_chroma 2 left above flat t) → HasSamples 8 out (predicted_chroma chroma.Vertical (sides_chroma n) (around_chroma n))
unfolding predicted_chroma
vertical_chroma n left above z out flat t p e has = record {
  each = λ x y i j. has.each x y i j ∙ row_is n.left n.above n.corner above z p e x;
}

pub horizontal_chroma : (n : NeighboursChroma) (left above z out : List ℕ) (flat : List ℕ) (t : Slopes) → IsTrue (is_some n.left) → left ≡ unwrap_or n.left z →
    HasSamples 8 out (chosen_chroma 1 left above flat t) → HasSamples 8 out (predicted_chroma chroma.Horizontal (sides_chroma n) (around_chroma n))
unfolding predicted_chroma
horizontal_chroma n left above z out flat t p e has = record {
  each = λ x y i j. has.each x y i j ∙ column_is n.left n.above n.corner left z p e y;
}

pub plane_whole_chroma : (n : NeighboursChroma) (left above z out : List ℕ) (corner : ℕ) (flat : List ℕ) (t : Slopes) →
    IsTrue (is_some n.above) → IsTrue (is_some n.left) → IsTrue (is_some n.corner) → left ≡ unwrap_or n.left z → above ≡ unwrap_or n.above z →
    corner ≡ unwrap_or n.corner 0 →
    t.a ≡ pos (16 * (slice_index left 7 + slice_index above 7)) → t.b ≡ slope 4 (pos 34) (with_corner corner above) →
    t.c ≡ slope 4 (pos 34) (with_corner corner left) →
    HasSamples 8 out (chosen_chroma 3 left above flat t) → HasSamples 8 out (predicted_chroma chroma.Plane (sides_chroma n) (around_chroma n))
unfolding predicted_chroma
plane_whole_chroma n left above z out corner flat t p q r e f g h i j has = record {
  each = λ x y k l. has.each x y k l ∙ plane8 n.left n.above n.corner left above z corner t.a t.b t.c x y q p r e f g h i j;
}

pub flat16 : (n : Neighbours16) (left above out : List ℕ) (flat : ℕ) (t : Slopes) → flat ≡ dc16 (sides16 n) (around16 n) →
    HasSamples 16 out (chosen16 2 left above flat t) → HasSamples 16 out (predicted16 luma.Dc (sides16 n) (around16 n))
unfolding predicted16
flat16 n left above out flat t e has = record { each = λ x y i j. has.each x y i j ∙ e }

block_is : (f : ℕ → ℕ → ℕ) (a b c d : ℕ) → a ≡ f 0 0 → b ≡ f 1 0 → c ≡ f 0 1 → d ≡ f 1 1 → (i j : ℕ) → i < 2 → j < 2 →
    slice_index (a ∷ b ∷ c ∷ d ∷ []) (2 * j + i) ≡ f i j
block_is f a b c d p q r s i j k l =
    let xs = a ∷ b ∷ c ∷ d ∷ [] in
    below_2 (λ v. slice_index xs (2 * v + i) ≡ f i v)
    (below_2 (λ u. slice_index xs (2 * 0 + u) ≡ f u 0) p q i k)
    (below_2 (λ u. slice_index xs (2 * 1 + u) ≡ f u 1) r s i k)
    j l

pub flat_chroma : (n : NeighboursChroma) (left above out : List ℕ) (d e f g : ℕ) (t : Slopes) →
    d ≡ block_dc (sides_chroma n) (around_chroma n) 0 0 → e ≡ block_dc (sides_chroma n) (around_chroma n) 1 0 →
    f ≡ block_dc (sides_chroma n) (around_chroma n) 0 1 → g ≡ block_dc (sides_chroma n) (around_chroma n) 1 1 →
    HasSamples 8 out (chosen_chroma 0 left above (d ∷ e ∷ f ∷ g ∷ []) t) → HasSamples 8 out (predicted_chroma chroma.Dc (sides_chroma n) (around_chroma n))
unfolding predicted_chroma
flat_chroma n left above out d e f g t p q r s has = record {
  each = λ x y i j. has.each x y i j ∙ block_is (block_dc (sides_chroma n) (around_chroma n)) d e f g p q r s (x / 4) (y / 4) (omega arith) (omega arith);
}
