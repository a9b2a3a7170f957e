-- The samples round a macroblock, as the code has them.
use Rattle.std.proofs.Common.{◌≡◌, ℕ, ◌+◌, ◌-◌, ◌*◌, ◌≤◌, List, slice_index, arith, refl, sym, ap, ◌∙◌}
use Rattle.std.proofs.lemmas.Bool.Decides.{nat_tests}
use Rattle.h264_recon.specs.Around.{SidesAgree}
use Rattle.h264_recon.specs.Lines.{local}
use Rattle.h264_recon.specs.declared.macroblock.Available.{Available}
use Rattle.h264_recon.specs.declared.store.Store.{Store}

pub local_corner : (n : ℕ) (l : Store) (c : ℕ) (own : List ℕ) → local n l c own 0 0 ≡ l.corner
unfolding local
local_corner n l c own = refl

pub local_left : (n : ℕ) (l : Store) (c : ℕ) (own : List ℕ) (k : ℕ) → local n l c own 0 (k + 1) ≡ slice_index l.left k
unfolding local
local_left n l c own k = grind (arith, nat_tests)

pub local_above : (n : ℕ) (l : Store) (c : ℕ) (own : List ℕ) (k : ℕ) → local n l c own (k + 1) 0 ≡ slice_index l.above.items (n * c + k)
unfolding local
local_above n l c own k = grind (arith, nat_tests)

pub local_own : (n : ℕ) (l : Store) (c : ℕ) (own : List ℕ) (x y : ℕ) → local n l c own (x + 1) (y + 1) ≡ slice_index own (n * y + x)
unfolding local
local_own n l c own x y = grind (arith, nat_tests)

-- its sides do not depend on its own samples
pub local_sides : (n : ℕ) (a : Available) (l : Store) (c : ℕ) (old new : List ℕ) → SidesAgree n a (local n l c old) (local n l c new)
local_sides n a l c old new = record {
  left = λ t k i. local_left n l c old k ∙ sym (local_left n l c new k);
  above = λ t k i. local_above n l c old k ∙ sym (local_above n l c new k);
  above_right = λ t k i. local_above n l c old (n + k) ∙ sym (local_above n l c new (n + k));
  corner = λ t. local_corner n l c old ∙ sym (local_corner n l c new);
}

-- ---- samples side by side

pub row_above : (n : ℕ) (l : Store) (c : ℕ) (own : List ℕ) (x k : ℕ) → 1 ≤ x → local n l c own (x + k) 0 ≡ slice_index l.above.items (n * c + (x - 1) + k)
row_above n l c own x k p =
    let place : x + k ≡ x - 1 + k + 1 = omega arith in
    let there : n * c + (x - 1 + k) ≡ n * c + (x - 1) + k = omega arith in
    ap (λ z. local n l c own z 0) place ∙ local_above n l c own (x - 1 + k) ∙ ap (λ z. slice_index l.above.items z) there

pub row_own : (l : Store) (c : ℕ) (own : List ℕ) (x y k : ℕ) → 1 ≤ x → 1 ≤ y → local 16 l c own (x + k) y ≡ slice_index own (16 * (y - 1) + (x - 1) + k)
row_own l c own x y k p q =
    let place : x + k ≡ x - 1 + k + 1 = omega arith in
    let row : y ≡ y - 1 + 1 = omega arith in
    let there : 16 * (y - 1) + (x - 1 + k) ≡ 16 * (y - 1) + (x - 1) + k = omega arith in
    ap (λ z. local 16 l c own z y) place ∙ ap (λ z. local 16 l c own (x - 1 + k + 1) z) row ∙ local_own 16 l c own (x - 1 + k) (y - 1) ∙
    ap (λ z. slice_index own z) there

pub column_left : (l : Store) (c : ℕ) (own : List ℕ) (y k : ℕ) → 1 ≤ y → local 16 l c own 0 (y + k) ≡ slice_index l.left (y - 1 + k)
column_left l c own y k p =
    let place : y + k ≡ y - 1 + k + 1 = omega arith in
    ap (λ z. local 16 l c own 0 z) place ∙ local_left 16 l c own (y - 1 + k)

pub column_own : (l : Store) (c : ℕ) (own : List ℕ) (x y k : ℕ) → 1 ≤ x → 1 ≤ y → local 16 l c own x (y + k) ≡ slice_index own (16 * (y + k - 1) + (x - 1))
column_own l c own x y k p q =
    let column : x ≡ x - 1 + 1 = omega arith in
    let place : y + k ≡ y + k - 1 + 1 = omega arith in
    ap (λ z. local 16 l c own x z) place ∙ ap (λ z. local 16 l c own z (y + k - 1 + 1)) column ∙ local_own 16 l c own (x - 1) (y + k - 1)
