-- A prediction depends on the sides alone that are available, for whoever hands in samples of a whole picture.
use Rattle.std.proofs.Common.{◌≡◌, ℕ, zero, suc, ◌+◌, ◌-◌, ◌*◌, ◌/◌, ◌<◌, ◌≤◌, arith, refl, sym, ap, ◌∙◌, ⊎_elim, add-one, eqb, Bool, true, false, ◌&&◌}
use Rattle.std.proofs.Common.{IsTrue, cond, ℤ, pos, ◌+ℤ◌, ◌-ℤ◌, ◌*ℤ◌}
use Rattle.std.proofs.lemmas.Bool.{cases_Bool, cases_lt, cases_eq, cond-true, cond-false, lt-ltb}
use Rattle.std.proofs.lemmas.Bool.Decides.{nat_tests}
use Rattle.std.specs.Int.{int_shr}
use Rattle.h264_intra.specs.Filters.{total, mean}
use Rattle.h264_intra.specs.Sides.{Sides, SameSides}
use Rattle.h264_intra.specs.Slope.{total_z, difference, gradient, slope, plane}
use Rattle.h264_intra.specs.Luma4.{diagonal_down_left, vertical_left, horizontal_up, dc, filled, predicted4, Sides4, SameSides4, SameRound4, is_possible4}
use Rattle.h264_intra.specs.declared.luma4.Intra4x4PredMode.{Intra4x4PredMode}
use Rattle.h264_intra.specs.declared.luma4.Intra4x4PredMode.TheVariants.{Vertical, Horizontal, Dc, DiagonalDownLeft, DiagonalDownRight, VerticalRight}
use Rattle.h264_intra.specs.declared.luma4.Intra4x4PredMode.TheVariants.{HorizontalDown, VerticalLeft, HorizontalUp}
use Rattle.h264_intra.specs.Luma16.{predicted16, is_possible16}
use Rattle.h264_intra.specs.declared.luma16.Intra16x16PredMode.{Intra16x16PredMode}
use Rattle.h264_intra.specs.declared.luma16.Intra16x16PredMode.TheVariants as luma
use Rattle.h264_intra.specs.Chroma.{block_dc, predicted_chroma, is_possible_chroma}
use Rattle.h264_intra.specs.declared.chroma.IntraChromaPredMode.{IntraChromaPredMode}
use Rattle.h264_intra.specs.declared.chroma.IntraChromaPredMode.TheVariants as chroma
use Rattle.h264_intra.proofs.Totals.{total_same}
use Rattle.h264_intra.proofs.Same4.{directed_same}

-- both sides and the corner
pub all_three : (a b c : Bool) → (a && b && c) ≡ true → (a ≡ true) × (b ≡ true) × (c ≡ true)
all_three a b c e = grind arith

-- ---- the mean

means_same : (n : ℕ) (left above : Bool) (l a l' a' : ℕ) → (IsTrue left → l ≡ l') → (IsTrue above → a ≡ a') → mean n left above l a ≡ mean n left above l' a'
means_same n true true l a l' a' p q = rw (p refl, q refl) refl
means_same n true false l a l' a' p q = rw (p refl) refl
means_same n false true l a l' a' p q = rw (q refl) refl
means_same n false false l a l' a' p q = refl

-- ---- 4x4 blocks

near_row : (s : Sides4) (p q : ℕ → ℕ → ℕ) → SameSides4 s p q → IsTrue s.above → (k : ℕ) → 0 < k → k ≤ 4 → p k 0 ≡ q k 0
near_row s p q h a k i j =
    let place : k - 1 + 1 ≡ k = omega arith in
    ap (λ n. p n 0) (sym place) ∙ h.above a (k - 1) (omega arith) ∙ ap (λ n. q n 0) place

far_row : (s : Sides4) (p q : ℕ → ℕ → ℕ) → SameSides4 s p q → IsTrue s.above_right → (k : ℕ) → 4 < k → k ≤ 8 → p k 0 ≡ q k 0
far_row s p q h a k i j =
    let place : k - 5 + 5 ≡ k = omega arith in
    ap (λ n. p n 0) (sym place) ∙ h.above_right a (k - 5) (omega arith) ∙ ap (λ n. q n 0) place

near_column : (s : Sides4) (p q : ℕ → ℕ → ℕ) → SameSides4 s p q → IsTrue s.left → (k : ℕ) → 0 < k → k ≤ 4 → p 0 k ≡ q 0 k
near_column s p q h a k i j =
    let place : k - 1 + 1 ≡ k = omega arith in
    ap (λ n. p 0 n) (sym place) ∙ h.left a (k - 1) (omega arith) ∙ ap (λ n. q 0 n) place

-- what is filled, at the corner, to the left, above, and to the upper right
filled_near : (s : Sides4) (p : ℕ → ℕ → ℕ) (k : ℕ) → k ≤ 4 → filled s p k 0 ≡ p k 0
filled_near s p k i = grind (arith, nat_tests)

filled_column : (s : Sides4) (p : ℕ → ℕ → ℕ) (k : ℕ) → filled s p 0 k ≡ p 0 k
filled_column s p k = grind (arith, nat_tests)

filled_there : (s : Sides4) (p : ℕ → ℕ → ℕ) (k : ℕ) → s.above_right ≡ true → filled s p k 0 ≡ p k 0
filled_there s p k e = cond-true _ _ _ e

filled_missing : (s : Sides4) (p : ℕ → ℕ → ℕ) (k : ℕ) → s.above_right ≡ false → 4 < k → filled s p k 0 ≡ p 4 0
filled_missing s p k e i = cond-false _ _ _ e ∙ cond-true _ _ _ (lt-ltb 4 k i)

filled_row : (s : Sides4) (p q : ℕ → ℕ → ℕ) → SameSides4 s p q → IsTrue s.above → (k : ℕ) → 0 < k → k ≤ 8 → filled s p k 0 ≡ filled s q k 0
filled_row s p q h a k i j = ⊎_elim
    (λ (far : 4 < k). ⊎_elim
    (λ (e : s.above_right ≡ true). filled_there s p k e ∙ far_row s p q h e k far j ∙ sym (filled_there s q k e))
    (λ (e : s.above_right ≡ false). filled_missing s p k e far ∙ near_row s p q h a 4 (omega arith) (omega arith) ∙ sym (filled_missing s q k e far))
    (cases_Bool s.above_right))
    (λ (near : k ≤ 4). filled_near s p k near ∙ near_row s p q h a k i near ∙ sym (filled_near s q k near))
    (cases_lt 4 k)

round_same : (s : Sides4) (p q : ℕ → ℕ → ℕ) → SameSides4 s p q → IsTrue s.above → IsTrue s.left → IsTrue s.corner → SameRound4 (filled s p) (filled s q)
round_same s p q h a l c = record {
  row = λ k i. ⊎_elim
      (λ (e : k ≡ 0). ap (λ n. filled s p n 0) e ∙ filled_near s p 0 (omega arith) ∙ h.corner c ∙ sym (filled_near s q 0 (omega arith)) ∙
      ap (λ n. filled s q n 0) (sym e))
      (λ other. filled_row s p q h a k (omega arith) i)
      (cases_eq k 0);
  column = λ k i. ⊎_elim
      (λ (e : k ≡ 0). ap (λ n. filled s p 0 n) e ∙ filled_near s p 0 (omega arith) ∙ h.corner c ∙ sym (filled_near s q 0 (omega arith)) ∙
      ap (λ n. filled s q 0 n) (sym e))
      (λ other. filled_column s p k ∙ near_column s p q h l k (omega arith) i ∙ sym (filled_column s q k))
      (cases_eq k 0);
}

dc_same : (s : Sides4) (p q : ℕ → ℕ → ℕ) → SameSides4 s p q → dc s p ≡ dc s q
dc_same s p q h = means_same 4 s.left s.above _ _ _ _ (λ l. total_same 4 _ _ (h.left l)) (λ a. total_same 4 _ _ (h.above a))

down_left_same : (p q : ℕ → ℕ → ℕ) (x y : ℕ) → x < 4 → y < 4 → ((k : ℕ) → 0 < k → k ≤ 8 → p k 0 ≡ q k 0) → diagonal_down_left p x y ≡ diagonal_down_left q x y
down_left_same p q x y a b row =
    grind (arith, nat_tests, row 7, row 8, row (x + y + 1), row (x + y + 2), row (x + y + 3))

left_same : (p q : ℕ → ℕ → ℕ) (x y : ℕ) → x < 4 → y < 4 → ((k : ℕ) → 0 < k → k ≤ 8 → p k 0 ≡ q k 0) → vertical_left p x y ≡ vertical_left q x y
left_same p q x y a b row =
    let k = x + 1 + y / 2 in
    grind (arith, nat_tests, row k, row (k + 1), row (k + 2))

up_same : (p q : ℕ → ℕ → ℕ) (x y : ℕ) → x < 4 → y < 4 → ((k : ℕ) → 0 < k → k ≤ 4 → p 0 k ≡ q 0 k) → horizontal_up p x y ≡ horizontal_up q x y
up_same p q x y a b column =
    let k = y + 1 + x / 2 in
    grind (arith, nat_tests, column 3, column 4, column k, column (k + 1), column (k + 2))

filled_left : (s : Sides4) (p q : ℕ → ℕ → ℕ) → SameSides4 s p q → IsTrue s.left → (k : ℕ) → 0 < k → k ≤ 4 → filled s p 0 k ≡ filled s q 0 k
filled_left s p q h l k i j = filled_column s p k ∙ near_column s p q h l k i j ∙ sym (filled_column s q k)

pub predicted4_same : (mode : Intra4x4PredMode) (s : Sides4) (p q : ℕ → ℕ → ℕ) (x y : ℕ) → IsTrue (is_possible4 mode s) → x < 4 → y < 4 → SameSides4 s p q →
    predicted4 mode s p x y ≡ predicted4 mode s q x y
unfolding predicted4
predicted4_same Vertical s p q x y n a b h = filled_row s p q h n (x + 1) (omega arith) (omega arith)
predicted4_same Horizontal s p q x y n a b h = filled_left s p q h n (y + 1) (omega arith) (omega arith)
predicted4_same Dc s p q x y n a b h = dc_same s p q h
predicted4_same DiagonalDownLeft s p q x y n a b h = down_left_same (filled s p) (filled s q) x y a b (filled_row s p q h n)
predicted4_same DiagonalDownRight s p q x y n a b h =
    directed_same DiagonalDownRight 0 (filled s p) (filled s q) x y a b
    (round_same s p q h (all_three s.above s.left s.corner n).0 (all_three s.above s.left s.corner n).1 (all_three s.above s.left s.corner n).2)
predicted4_same VerticalRight s p q x y n a b h =
    directed_same VerticalRight 0 (filled s p) (filled s q) x y a b
    (round_same s p q h (all_three s.above s.left s.corner n).0 (all_three s.above s.left s.corner n).1 (all_three s.above s.left s.corner n).2)
predicted4_same HorizontalDown s p q x y n a b h =
    directed_same HorizontalDown 0 (filled s p) (filled s q) x y a b
    (round_same s p q h (all_three s.above s.left s.corner n).0 (all_three s.above s.left s.corner n).1 (all_three s.above s.left s.corner n).2)
predicted4_same VerticalLeft s p q x y n a b h = left_same (filled s p) (filled s q) x y a b (filled_row s p q h n)
predicted4_same HorizontalUp s p q x y n a b h = up_same (filled s p) (filled s q) x y a b (filled_left s p q h n)

-- ---- planes

total_z_same : (n : ℕ) (f g : ℕ → ℤ) → ((k : ℕ) → k < n → f k ≡ g k) → total_z n f ≡ total_z n g
unfolding total_z
total_z_same zero f g same = refl
total_z_same (suc n) f g same = rw (total_z_same n f g (λ k p. same k (omega arith)), same n (omega arith)) refl

gradient_same : (half : ℕ) (f g : ℕ → ℕ) → ((k : ℕ) → k ≤ 2 * half → f k ≡ g k) → gradient half f ≡ gradient half g
gradient_same half f g same = total_z_same half (difference half f) (difference half g)
    (λ k p. ap (λ n. pos (k + 1) *ℤ (pos n -ℤ pos (f (half - 1 - k)))) (same (half + 1 + k) (omega arith))
    ∙ ap (λ n. pos (k + 1) *ℤ (pos (g (half + 1 + k)) -ℤ pos n)) (same (half - 1 - k) (omega arith)))

slope_same : (half : ℕ) (weight : ℤ) (f g : ℕ → ℕ) → ((k : ℕ) → k ≤ 2 * half → f k ≡ g k) → slope half weight f ≡ slope half weight g
slope_same half weight f g same = ap (λ z. int_shr (weight *ℤ z +ℤ pos 32) 6) (gradient_same half f g same)

pub plane_same : (half : ℕ) (weight : ℤ) (p q : ℕ → ℕ → ℕ) (x y : ℕ) → ((k : ℕ) → k ≤ 2 * half → p k 0 ≡ q k 0) → ((k : ℕ) → k ≤ 2 * half → p 0 k ≡ q 0 k) →
    plane half weight p x y ≡ plane half weight q x y
unfolding plane
plane_same half weight p q x y row column =
    rw (
      row (2 * half) (omega arith),
      column (2 * half) (omega arith),
      slope_same half weight (λ k. p k 0) (λ k. q k 0) row,
      slope_same half weight (λ k. p 0 k) (λ k. q 0 k) column,
    ) refl

-- ---- macroblocks

whole_row : (n : ℕ) (s : Sides) (p q : ℕ → ℕ → ℕ) → SameSides n s p q → IsTrue s.above → IsTrue s.corner → (k : ℕ) → k ≤ n → p k 0 ≡ q k 0
whole_row n s p q h a c zero i = h.corner c
whole_row n s p q h a c (suc k) i = rw (← add-one k) (h.above a k (omega arith))

whole_column : (n : ℕ) (s : Sides) (p q : ℕ → ℕ → ℕ) → SameSides n s p q → IsTrue s.left → IsTrue s.corner → (k : ℕ) → k ≤ n → p 0 k ≡ q 0 k
whole_column n s p q h l c zero i = h.corner c
whole_column n s p q h l c (suc k) i = rw (← add-one k) (h.left l k (omega arith))

pub predicted16_same : (mode : Intra16x16PredMode) (s : Sides) (p q : ℕ → ℕ → ℕ) (x y : ℕ) → IsTrue (is_possible16 mode s) → x < 16 → y < 16 →
    SameSides 16 s p q →
    predicted16 mode s p x y ≡ predicted16 mode s q x y
unfolding predicted16
predicted16_same luma.Vertical s p q x y n a b h = h.above n x a
predicted16_same luma.Horizontal s p q x y n a b h = h.left n y b
predicted16_same luma.Dc s p q x y n a b h = means_same 16 s.left s.above _ _ _ _ (λ l. total_same 16 _ _ (h.left l)) (λ t. total_same 16 _ _ (h.above t))
predicted16_same luma.Plane s p q x y n a b h =
    plane_same 8 (pos 5) p q x y (whole_row 16 s p q h (all_three s.above s.left s.corner n).0 (all_three s.above s.left s.corner n).2)
    (whole_column 16 s p q h (all_three s.above s.left s.corner n).1 (all_three s.above s.left s.corner n).2)

part_left : (s : Sides) (p q : ℕ → ℕ → ℕ) → SameSides 8 s p q → (j : ℕ) → j < 2 → IsTrue s.left →
    total 4 (λ k. p 0 (4 * j + k + 1)) ≡ total 4 (λ k. q 0 (4 * j + k + 1))
part_left s p q h j i l = total_same 4 _ _ (λ k m. h.left l (4 * j + k) (omega arith))

part_above : (s : Sides) (p q : ℕ → ℕ → ℕ) → SameSides 8 s p q → (i : ℕ) → i < 2 → IsTrue s.above →
    total 4 (λ k. p (4 * i + k + 1) 0) ≡ total 4 (λ k. q (4 * i + k + 1) 0)
part_above s p q h i m a = total_same 4 _ _ (λ k n. h.above a (4 * i + k) (omega arith))

-- one side before the other
first_same : (b c : Bool) (l m l' m' : ℕ) → (IsTrue b → l ≡ l') → (IsTrue c → m ≡ m') →
    cond b ((l + 2) / 4) (cond c ((m + 2) / 4) 128) ≡ cond b ((l' + 2) / 4) (cond c ((m' + 2) / 4) 128)
first_same true c l m l' m' p q = rw (p refl) refl
first_same false true l m l' m' p q = rw (q refl) refl
first_same false false l m l' m' p q = refl

either_same : (b : Bool) (x y x' y' : ℕ) → x ≡ x' → y ≡ y' → cond b x y ≡ cond b x' y'
either_same b x y x' y' p q = rw (p, q) refl

block_dc_same : (s : Sides) (p q : ℕ → ℕ → ℕ) (i j : ℕ) → i < 2 → j < 2 → SameSides 8 s p q → block_dc s p i j ≡ block_dc s q i j
block_dc_same s p q i j m n h =
    let left = part_left s p q h j n in
    let above = part_above s p q h i m in
    either_same (eqb i j) _ _ _ _ (means_same 4 s.left s.above _ _ _ _ left above)
    (either_same (eqb j 0) _ _ _ _ (first_same s.above s.left _ _ _ _ above left) (first_same s.left s.above _ _ _ _ left above))

pub predicted_chroma_same : (mode : IntraChromaPredMode) (s : Sides) (p q : ℕ → ℕ → ℕ) (x y : ℕ) → IsTrue (is_possible_chroma mode s) → x < 8 → y < 8 →
    SameSides 8 s p q →
    predicted_chroma mode s p x y ≡ predicted_chroma mode s q x y
unfolding predicted_chroma
predicted_chroma_same chroma.Dc s p q x y n a b h = block_dc_same s p q (x / 4) (y / 4) (omega arith) (omega arith) h
predicted_chroma_same chroma.Horizontal s p q x y n a b h = h.left n y b
predicted_chroma_same chroma.Vertical s p q x y n a b h = h.above n x a
predicted_chroma_same chroma.Plane s p q x y n a b h =
    plane_same 4 (pos 34) p q x y (whole_row 8 s p q h (all_three s.above s.left s.corner n).0 (all_three s.above s.left s.corner n).2)
    (whole_column 8 s p q h (all_three s.above s.left s.corner n).1 (all_three s.above s.left s.corner n).2)
