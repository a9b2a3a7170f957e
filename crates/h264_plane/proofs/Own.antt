-- The samples of one macroblock, written over those of a plane.
use Rattle.std.proofs.Common.{◌≡◌, ◌⊎◌, inl, inr, ◌<◌, ◌≤◌, ℕ, ◌+◌, ◌-◌, ◌*◌, Bool, true, false, cond, ◌&&◌, nat_le, nat_lt, List, slice_index, arith, refl}
use Rattle.std.proofs.Common.{ap, ◌∙◌}
use Rattle.std.proofs.lemmas.Bool.{cond-true, cond-false}
use Rattle.std.proofs.lemmas.Bool.Decides.{nat_tests}
use Rattle.h264_plane.specs.Places.{Before, with_own}
use Rattle.h264_plane.specs.Samples.{with_block}

pub moved : (s : ℕ → ℕ → ℕ) (a b c d : ℕ) → a ≡ c → b ≡ d → s a b ≡ s c d
moved s a b c d e f = rw (e, f) refl

if_same : (b : Bool) (x y z w : ℕ) → (b ≡ true → x ≡ y) → (b ≡ false → z ≡ w) → cond b x z ≡ cond b y w
if_same true x y z w p q = p refl
if_same false x y z w p q = q refl

abbrev test : ℕ → ℕ → ℕ → ℕ → ℕ → Bool
test n a b x y = nat_le a x && nat_lt x (a + n) && nat_le b y && nat_lt y (b + n)

test_in : (n a b x y : ℕ) → test n a b x y ≡ true → (a ≤ x) × ((x < a + n) × ((b ≤ y) × (y < b + n)))
test_in n a b x y t = (grind (arith, nat_tests), (grind (arith, nat_tests), (grind (arith, nat_tests), grind (arith, nat_tests))))

test_own : (n a b x y : ℕ) → x < n → y < n → test n a b (a + x) (b + y) ≡ true
test_own n a b x y i j = grind (arith, nat_tests)

test_out : (n a b x y : ℕ) → (y < b) ⊎ ((x < a) ⊎ ((b + n ≤ y) ⊎ (a + n ≤ x))) → test n a b x y ≡ false
test_out n a b x y out = grind (arith, nat_tests)

-- in the macroblock stand the samples u
pub own_in : (n c r : ℕ) (u s : ℕ → ℕ → ℕ) (x y : ℕ) → x < n → y < n → with_own n c r u s (n * c + x) (n * r + y) ≡ u (n * c + x) (n * r + y)
unfolding with_own
own_in n c r u s x y i j = cond-true _ _ _ (test_own n (n * c) (n * r) x y i j)

-- outside it the samples s
pub own_beside : (n c r : ℕ) (u s : ℕ → ℕ → ℕ) (x y : ℕ) → (y < n * r) ⊎ ((x < n * c) ⊎ ((n * r + n ≤ y) ⊎ (n * c + n ≤ x))) → with_own n c r u s x y ≡ s x y
unfolding with_own
own_beside n c r u s x y out = cond-false _ _ _ (test_out n (n * c) (n * r) x y out)

-- so at the places before it
pub own_out : (n c r : ℕ) (u s : ℕ → ℕ → ℕ) (x y : ℕ) → Before n c r x y → with_own n c r u s x y ≡ s x y
own_out n c r u s x y (inl a) = own_beside n c r u s x y (inl a)
own_out n c r u s x y (inr b) = own_beside n c r u s x y (inr (inl b.1))

-- a block in its place, by its own columns and rows
pub block_in : (n a b : ℕ) (own : List ℕ) (s : ℕ → ℕ → ℕ) (x y : ℕ) → x < n → y < n → with_block n n a b own s (a + x) (b + y) ≡ slice_index own (n * y + x)
unfolding with_block
block_in n a b own s x y i j =
    let column : a + x - a ≡ x = omega arith in
    let row : b + y - b ≡ y = omega arith in
    cond-true _ _ _ (test_own n a b x y i j) ∙ ap (λ z. slice_index own (n * z + (a + x - a))) row ∙ ap (λ z. slice_index own (n * y + z)) column

-- a block that has u's samples of a macroblock, put there, is with_own
pub block_shows : (n c r : ℕ) (own : List ℕ) (u s : ℕ → ℕ → ℕ) → ((x y : ℕ) → x < n → y < n → slice_index own (n * y + x) ≡ u (n * c + x) (n * r + y)) →
    (x y : ℕ) → with_block n n (n * c) (n * r) own s x y ≡ with_own n c r u s x y
unfolding with_block with_own
block_shows n c r own u s is x y =
    if_same (test n (n * c) (n * r) x y) _ _ _ _
    (λ t.
    let inside = test_in n (n * c) (n * r) x y t in
    let column : n * c + (x - n * c) ≡ x = omega (arith, inside.0) in
    let row : n * r + (y - n * r) ≡ y = omega (arith, inside.1.1.0) in
    is (x - n * c) (y - n * r) (omega (arith, inside.0, inside.1.0)) (omega (arith, inside.1.1.0, inside.1.1.1))
    ∙ moved u _ _ x y column row)
    (λ f. refl)
