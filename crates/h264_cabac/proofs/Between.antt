-- Bounds of the first entries of a list.
use Rattle.std.proofs.Common.{◌≡◌, ℕ, zero, suc, ◌<◌, ◌≤◌, Bool, true, false, List, [], ◌∷◌, get_or, ◌&&◌, nat_le, arith}
use Rattle.std.proofs.lemmas.Bool.{and_parts, leb-true}

-- the first n of them are there, and from low to high
unfoldable pub are_between : ℕ → ℕ → ℕ → List ℕ → Bool
are_between low high zero xs = true
are_between low high (suc n) [] = false
are_between low high (suc n) (x ∷ xs) = nat_le low x && (nat_le x high && are_between low high n xs)

pub between-at : (low high n : ℕ) (xs : List ℕ) (i : ℕ) → are_between low high n xs ≡ true → i < n → (low ≤ get_or xs i 0) × (get_or xs i 0 ≤ high)
unfolding are_between
between-at low high zero xs i h below = absurd (omega arith)
between-at low high (suc n) [] i h below = absurd (cc)
between-at low high (suc n) (x ∷ xs) zero h below =
    let a = and_parts _ _ h in (leb-true _ _ a.0, leb-true _ _ (and_parts _ _ a.1).0)
between-at low high (suc n) (x ∷ xs) (suc i) h below =
    between-at low high n xs i (and_parts _ _ (and_parts _ _ h).1).1 (omega arith)
