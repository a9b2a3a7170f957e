-- The sides of a 4x4 block lie in blocks before it or beside the macroblock.
use Rattle.std.proofs.Common.{◌≡◌, ◌≢◌, ⊎_elim, ℕ, ◌+◌, ◌-◌, ◌*◌, ◌<◌, IsTrue, arith}
use Rattle.std.proofs.lemmas.Bool.Decides.{nat_tests}
use Rattle.std.proofs.lemmas.Bool.{cases_eq}
use Rattle.h264_intra.specs.Sides.{SameSides}
use Rattle.h264_intra.specs.Luma4.{SameSides4}
use Rattle.h264_plane.specs.Blocks.{number_of}
use Rattle.h264_recon.specs.Blocks.{sides_of, sides4_of, left_there, above_there, corner_there, right_there}
use Rattle.h264_recon.specs.Constructed.{block_window}
use Rattle.h264_recon.specs.Around.{SidesAgree, BlocksAgree}
use Rattle.h264_recon.specs.declared.macroblock.Available.{Available}

-- one sample of two functions that agree, at another name of its place
pub same_at : (s t : ℕ → ℕ → ℕ) (a b c d : ℕ) → a ≡ c → b ≡ d → s c d ≡ t c d → s a b ≡ t a b
same_at s t a b c d e e' same = rw (e, e') same

-- ---- what is available of a block

left_outer : (a : Available) (x : ℕ) → IsTrue (left_there a x) → x ≡ 0 → IsTrue a.left
unfolding left_there
left_outer a x t e = grind (arith, nat_tests)

above_outer : (a : Available) (y : ℕ) → IsTrue (above_there a y) → y ≡ 0 → IsTrue a.above
unfolding above_there
above_outer a y t e = grind (arith, nat_tests)

corner_outer : (a : Available) (x y : ℕ) → IsTrue (corner_there a x y) → x ≡ 0 → y ≡ 0 → IsTrue a.corner
unfolding corner_there
corner_outer a x y t e e' = grind (arith, nat_tests)

corner_left : (a : Available) (x y : ℕ) → IsTrue (corner_there a x y) → x ≡ 0 → y ≢ 0 → IsTrue a.left
unfolding corner_there
corner_left a x y t e e' = grind (arith, nat_tests)

corner_above : (a : Available) (x y : ℕ) → IsTrue (corner_there a x y) → x ≢ 0 → y ≡ 0 → IsTrue a.above
unfolding corner_there above_there
corner_above a x y t e e' = grind (arith, nat_tests)

pub right_outer : (a : Available) (x y : ℕ) → IsTrue (right_there a x y) → y ≡ 0 → x ≡ 3 → IsTrue a.above_right
unfolding right_there
right_outer a x y t e e' = grind (arith, nat_tests)

right_above : (a : Available) (x y : ℕ) → IsTrue (right_there a x y) → y ≡ 0 → x ≢ 3 → IsTrue a.above
unfolding right_there
right_above a x y t e e' = grind (arith, nat_tests)

pub right_inner : (a : Available) (x y : ℕ) → IsTrue (right_there a x y) → y ≢ 0 → (x < 3) × (number_of (x + 1) (y - 1) < number_of x y)
unfolding right_there number_of
right_inner a x y t e = (grind (arith, nat_tests), grind (arith, nat_tests))

-- ---- the blocks beside a block come before it

above_before : (x y : ℕ) → y ≢ 0 → number_of x (y - 1) < number_of x y
unfolding number_of
above_before x y p = omega arith

left_before : (x y : ℕ) → x ≢ 0 → number_of (x - 1) y < number_of x y
unfolding number_of
left_before x y p = omega arith

corner_before : (x y : ℕ) → x ≢ 0 → y ≢ 0 → number_of (x - 1) (y - 1) < number_of x y
unfolding number_of
corner_before x y p q = omega arith

-- ---- the samples beside a block

tap_left : (a : Available) (s t : ℕ → ℕ → ℕ) (x y k : ℕ) → x < 4 → y < 4 → k < 4 → IsTrue (left_there a x) → SidesAgree 16 a s t →
    BlocksAgree 16 (number_of x y) s t →
    s (4 * x + 0) (4 * y + (k + 1)) ≡ t (4 * x + 0) (4 * y + (k + 1))
tap_left a s t x y k p q d there sides blocks = ⊎_elim
    (λ z. same_at s t _ _ 0 (4 * y + k + 1) (omega arith) (omega arith) (sides.left (left_outer a x there z) (4 * y + k) (omega arith)))
    (λ n. same_at s t _ _ (4 * (x - 1) + 3 + 1) (4 * y + k + 1) (omega arith) (omega arith)
    (blocks.each (x - 1) y 3 k (omega arith) (omega arith) (omega arith) d (left_before x y n)))
    (cases_eq x 0)

tap_above : (a : Available) (s t : ℕ → ℕ → ℕ) (x y k : ℕ) → x < 4 → y < 4 → k < 4 → IsTrue (above_there a y) → SidesAgree 16 a s t →
    BlocksAgree 16 (number_of x y) s t →
    s (4 * x + (k + 1)) (4 * y + 0) ≡ t (4 * x + (k + 1)) (4 * y + 0)
tap_above a s t x y k p q d there sides blocks = ⊎_elim
    (λ z. same_at s t _ _ (4 * x + k + 1) 0 (omega arith) (omega arith) (sides.above (above_outer a y there z) (4 * x + k) (omega arith)))
    (λ n. same_at s t _ _ (4 * x + k + 1) (4 * (y - 1) + 3 + 1) (omega arith) (omega arith)
    (blocks.each x (y - 1) k 3 (omega arith) (omega arith) d (omega arith) (above_before x y n)))
    (cases_eq y 0)

tap_corner : (a : Available) (s t : ℕ → ℕ → ℕ) (x y : ℕ) → x < 4 → y < 4 → IsTrue (corner_there a x y) → SidesAgree 16 a s t →
    BlocksAgree 16 (number_of x y) s t →
    s (4 * x + 0) (4 * y + 0) ≡ t (4 * x + 0) (4 * y + 0)
tap_corner a s t x y p q there sides blocks = ⊎_elim
    (λ z. ⊎_elim
    (λ z'. same_at s t _ _ 0 0 (omega arith) (omega arith) (sides.corner (corner_outer a x y there z z')))
    (λ n'. same_at s t _ _ 0 (4 * y - 1 + 1) (omega arith) (omega arith) (sides.left (corner_left a x y there z n') (4 * y - 1) (omega arith)))
    (cases_eq y 0))
    (λ n. ⊎_elim
    (λ z'. same_at s t _ _ (4 * x - 1 + 1) 0 (omega arith) (omega arith) (sides.above (corner_above a x y there n z') (4 * x - 1) (omega arith)))
    (λ n'. same_at s t _ _ (4 * (x - 1) + 3 + 1) (4 * (y - 1) + 3 + 1) (omega arith) (omega arith)
    (blocks.each (x - 1) (y - 1) 3 3 (omega arith) (omega arith) (omega arith) (omega arith) (corner_before x y n n')))
    (cases_eq y 0))
    (cases_eq x 0)

tap_right : (a : Available) (s t : ℕ → ℕ → ℕ) (x y k : ℕ) → x < 4 → y < 4 → k < 4 → IsTrue (right_there a x y) → SidesAgree 16 a s t →
    BlocksAgree 16 (number_of x y) s t →
    s (4 * x + (k + 5)) (4 * y + 0) ≡ t (4 * x + (k + 5)) (4 * y + 0)
tap_right a s t x y k p q d there sides blocks = ⊎_elim
    (λ z. ⊎_elim
    (λ e. same_at s t _ _ (16 + k + 1) 0 (omega arith) (omega arith) (sides.above_right (right_outer a x y there z e) k d))
    (λ n. same_at s t _ _ (4 * x + k + 4 + 1) 0 (omega arith) (omega arith) (sides.above (right_above a x y there z n) (4 * x + k + 4) (omega arith)))
    (cases_eq x 3))
    (λ n. let inner = right_inner a x y there n in
    same_at s t _ _ (4 * (x + 1) + k + 1) (4 * (y - 1) + 3 + 1) (omega arith) (omega arith)
    (blocks.each (x + 1) (y - 1) k 3 (omega (arith, inner.0)) (omega arith) d (omega arith) inner.1))
    (cases_eq y 0)

-- so the sides of a block that are available agree
pub block_sides : (a : Available) (s t : ℕ → ℕ → ℕ) (x y : ℕ) → x < 4 → y < 4 → SidesAgree 16 a s t → BlocksAgree 16 (number_of x y) s t →
    SameSides4 (sides4_of a x y) (block_window s x y) (block_window t x y)
block_sides a s t x y p q sides blocks = record {
  left = λ there k d. tap_left a s t x y k p q d there sides blocks;
  above = λ there k d. tap_above a s t x y k p q d there sides blocks;
  above_right = λ there k d. tap_right a s t x y k p q d there sides blocks;
  corner = λ there. tap_corner a s t x y p q there sides blocks;
}

-- and those of the macroblock
pub whole_sides : (n : ℕ) (a : Available) (s t : ℕ → ℕ → ℕ) → SidesAgree n a s t → SameSides n (sides_of a) s t
whole_sides n a s t sides = record { left = sides.left; above = sides.above; corner = sides.corner }
