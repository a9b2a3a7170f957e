-- A bound of the entries of a list.
use Rattle.std.proofs.Common.{◌≡◌, ℕ, zero, suc, ◌≤◌, Bool, true, List, [], ◌∷◌, get_or, ◌&&◌, nat_le, arith}
use Rattle.std.proofs.lemmas.Bool.{and_parts, leb-true}

-- none of them is above k
unfoldable pub are_within : ℕ → List ℕ → Bool
are_within k [] = true
are_within k (x ∷ xs) = nat_le x k && are_within k xs

pub within-at : (k : ℕ) (xs : List ℕ) (i : ℕ) → are_within k xs ≡ true → get_or xs i 0 ≤ k
unfolding are_within
within-at k [] i h = omega arith
within-at k (x ∷ xs) zero h = leb-true _ _ (and_parts _ _ h).0
within-at k (x ∷ xs) (suc i) h = within-at k xs i (and_parts _ _ h).1
