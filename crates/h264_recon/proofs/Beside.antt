-- The sides of a macroblock, as intra prediction is given them.
use Rattle.std.proofs.Common.{◌≡◌, ℕ, ◌+◌, ◌*◌, ◌<◌, IsTrue, Bool, List, [], slice_index, Option, unwrap_or, arith, refl, sym, ap, ◌∙◌}
use Rattle.std.specs.Bool.{then_some}
use Rattle.std.proofs.lemmas.Bool.Decides.{nat_tests}
use Rattle.h264_intra.specs.Filters.{HasSamples}
use Rattle.h264_intra.specs.declared.sides.Sides.{Sides}
use Rattle.h264_intra.specs.declared.sides.Sides4.{Sides4}
use Rattle.h264_intra.specs.Sides.{SameSides, beside}
use Rattle.h264_intra.specs.Luma4.{predicted4, is_possible4, SameSides4, around4}
use Rattle.h264_intra.specs.declared.luma4.Neighbours4.{Neighbours4}
use Rattle.h264_intra.specs.declared.luma4.Intra4x4PredMode.{Intra4x4PredMode}
use Rattle.h264_intra.specs.Luma16.{predicted16, is_possible16}
use Rattle.h264_intra.specs.Chroma.{predicted_chroma, is_possible_chroma}
use Rattle.h264_intra.specs.declared.luma16.Intra16x16PredMode.{Intra16x16PredMode}
use Rattle.h264_intra.specs.declared.chroma.IntraChromaPredMode.{IntraChromaPredMode}
use Rattle.h264_intra.proofs.Depends.{predicted4_same, predicted16_same, predicted_chroma_same}
use Rattle.h264_recon.specs.Blocks.{sides_of, sides4_of, left_there, above_there, corner_there, right_there}
use Rattle.h264_recon.specs.Constructed.{block_window}
use Rattle.h264_plane.proofs.Own.{moved}
use Rattle.h264_recon.specs.Lines.{local}
use Rattle.h264_recon.specs.declared.macroblock.Available.{Available}
use Rattle.h264_recon.specs.declared.store.Store.{Store}
use Rattle.h264_recon.proofs.Local.{local_left, local_above, local_corner}

pub side_there : (b : Bool) (v : List ℕ) (o : Option (List ℕ)) → o ≡ then_some b v → IsTrue b → unwrap_or o [] ≡ v
side_there b v o e t = rw (e, t) refl

pub sample_there : (b : Bool) (v : ℕ) (o : Option ℕ) → o ≡ then_some b v → IsTrue b → unwrap_or o 0 ≡ v
sample_there b v o e t = rw (e, t) refl

beside_left : (left above : Option (List ℕ)) (corner : Option ℕ) (k : ℕ) → beside left above corner 0 (k + 1) ≡ slice_index (unwrap_or left []) k
beside_left left above corner k = grind (arith, nat_tests)

beside_above : (left above : Option (List ℕ)) (corner : Option ℕ) (k : ℕ) → beside left above corner (k + 1) 0 ≡ slice_index (unwrap_or above []) k
beside_above left above corner k = grind (arith, nat_tests)

-- they are those of the store
pub beside_is : (n : ℕ) (a : Available) (l : Store) (c : ℕ) (own : List ℕ) (left above : Option (List ℕ)) (corner : Option ℕ) (column row : List ℕ) →
    left ≡ then_some a.left column → above ≡ then_some a.above row → corner ≡ then_some a.corner l.corner →
    ((k : ℕ) → k < n → slice_index column k ≡ slice_index l.left k) → ((k : ℕ) → k < n → slice_index row k ≡ slice_index l.above.items (n * c + k)) →
    SameSides n (sides_of a) (beside left above corner) (local n l c own)
beside_is n a l c own left above corner column row e e' e'' columns rows = record {
  left = λ t k i.
      beside_left left above corner k ∙ ap (λ v. slice_index v k) (side_there a.left column left e t) ∙ columns k i ∙ sym (local_left n l c own k);
  above = λ t k i.
      beside_above left above corner k ∙ ap (λ v. slice_index v k) (side_there a.above row above e' t) ∙ rows k i ∙ sym (local_above n l c own k);
  corner = λ t. sample_there a.corner l.corner corner e'' t ∙ sym (local_corner n l c own);
}

-- a prediction from them is that of the samples round the macroblock
pub has16 : (mode : Intra16x16PredMode) (a : Available) (d : Sides) (p q : ℕ → ℕ → ℕ) (out : List ℕ) → d ≡ sides_of a →
    IsTrue (is_possible16 mode (sides_of a)) →
    SameSides 16 (sides_of a) p q → (IsTrue (is_possible16 mode d) → HasSamples 16 out (predicted16 mode d p)) →
    HasSamples 16 out (predicted16 mode (sides_of a) q)
has16 mode a d p q out e ok same has = record {
  each = λ x y i j. (has (rw e ok)).each x y i j ∙ ap (λ z. predicted16 mode z p x y) e ∙ predicted16_same mode (sides_of a) p q x y ok i j same;
}

pub has_chroma : (mode : IntraChromaPredMode) (a : Available) (d : Sides) (p q : ℕ → ℕ → ℕ) (out : List ℕ) → d ≡ sides_of a →
    IsTrue (is_possible_chroma mode (sides_of a)) →
    SameSides 8 (sides_of a) p q → (IsTrue (is_possible_chroma mode d) → HasSamples 8 out (predicted_chroma mode d p)) →
    HasSamples 8 out (predicted_chroma mode (sides_of a) q)
has_chroma mode a d p q out e ok same has = record {
  each = λ x y i j. (has (rw e ok)).each x y i j ∙ ap (λ z. predicted_chroma mode z p x y) e ∙ predicted_chroma_same mode (sides_of a) p q x y ok i j same;
}

-- ---- of a 4x4 block

round_left : (n : Neighbours4) (k : ℕ) → around4 n 0 (k + 1) ≡ slice_index (unwrap_or n.left []) k
round_left n k = grind (arith, nat_tests)

round_above : (n : Neighbours4) (k : ℕ) → k < 4 → around4 n (k + 1) 0 ≡ slice_index (unwrap_or n.above []) k
round_above n k i = grind (arith, nat_tests)

round_right : (n : Neighbours4) (k : ℕ) → around4 n (k + 5) 0 ≡ slice_index (unwrap_or n.above_right []) k
round_right n k = grind (arith, nat_tests)

round_corner : (n : Neighbours4) → around4 n 0 0 ≡ unwrap_or n.corner 0
round_corner n = refl

pub block_beside : (a : Available) (x y : ℕ) (s : ℕ → ℕ → ℕ) (n : Neighbours4) (column row : List ℕ) (corner : ℕ) (l t r m : Bool) →
    l ≡ left_there a x → t ≡ above_there a y → r ≡ right_there a x y → m ≡ corner_there a x y →
    n.left ≡ then_some l column → n.above ≡ then_some t row → n.corner ≡ then_some m corner →
    ((k : ℕ) → k < 4 → slice_index column k ≡ s (4 * x) (4 * y + 1 + k)) →
    ((k : ℕ) → k < 4 → slice_index row k ≡ s (4 * x + 1 + k) (4 * y)) →
    (IsTrue r → (k : ℕ) → k < 4 → slice_index (unwrap_or n.above_right []) k ≡ s (4 * x + 5 + k) (4 * y)) →
    corner ≡ s (4 * x) (4 * y) →
    SameSides4 (sides4_of a x y) (around4 n) (block_window s x y)
block_beside a x y s n column row corner l t r m el et er em nl na nc columns rows rights is = record {
  left = λ there k i.
      round_left n k ∙ ap (λ v. slice_index v k) (side_there l column n.left nl (el ∙ there)) ∙ columns k i
      ∙ moved s (4 * x) (4 * y + 1 + k) (4 * x + 0) (4 * y + (k + 1)) (omega arith) (omega arith);
  above = λ there k i.
      round_above n k i ∙ ap (λ v. slice_index v k) (side_there t row n.above na (et ∙ there)) ∙ rows k i
      ∙ moved s (4 * x + 1 + k) (4 * y) (4 * x + (k + 1)) (4 * y + 0) (omega arith) (omega arith);
  above_right = λ there k i.
      round_right n k ∙ rights (er ∙ there) k i ∙ moved s (4 * x + 5 + k) (4 * y) (4 * x + (k + 5)) (4 * y + 0) (omega arith) (omega arith);
  corner = λ there.
      round_corner n ∙ sample_there m corner n.corner nc (em ∙ there) ∙ is ∙ moved s (4 * x) (4 * y) (4 * x + 0) (4 * y + 0) (omega arith) (omega arith);
}

-- the prediction of a block from them
pub has4 : (d e : Intra4x4PredMode) (t s : Sides4) (p q : ℕ → ℕ → ℕ) (out : List ℕ) (i j : ℕ) → i < 4 → j < 4 → d ≡ e → t ≡ s → IsTrue (is_possible4 e s) →
    SameSides4 s p q →
    (IsTrue (is_possible4 d t) → HasSamples 4 out (predicted4 d t p)) → slice_index out (4 * j + i) ≡ predicted4 e s q i j
has4 d e t s p q out i j a b same sides ok agree has =
    (has (rw (same, sides) ok)).each i j a b ∙ ap (λ z. predicted4 z t p i j) same ∙ ap (λ z. predicted4 e z p i j) sides ∙
    predicted4_same e s p q i j ok a b agree
