-- Bytes that are given again.
use Rattle.std.proofs.Common.{◌≡◌, ℕ, zero, suc, ◌+◌, ◌-◌, ◌<◌, ◌≤◌, ◌==◌, false, List, [], ◌∷◌, ◌++◌, length, take, drop, slice_index, Option, None}
use Rattle.std.proofs.Common.{Some, Result, refl, ap, ◌∙◌, arith}
use Rattle.std.specs.Prelude.{slice_set}
use Rattle.std.proofs.lemmas.Bool.Decides.{nat_tests}
use Rattle.std.specs.Io.KnownBytes.{Consumes, ReadConsumes, prepend_known}

-- the bytes from a place on begin with the one there
begins : (xs : List ℕ) (i n m : ℕ) → i < length xs → n ≡ suc m → take n (drop i xs) ≡ slice_index xs i ∷ take m (drop (i + 1) xs)
begins [] i n m within e = absurd (omega (arith, within))
begins (x ∷ xs) zero n m within e = rw e refl
begins (x ∷ xs) (suc i) n m within e =
    begins xs i n m (omega (arith, within)) e ∙ ap (λ k. slice_index xs i ∷ take m (drop k (x ∷ xs))) (let s : suc (i + 1) ≡ suc i + 1 = omega arith in s)

put-one : (buf : List ℕ) (b : ℕ) → 0 < length buf → take 1 (slice_set buf 0 b) ≡ b ∷ []
put-one [] b some = absurd (omega (arith, some))
put-one (x ∷ buf) b some = refl

pub again-one : (left : Option (List ℕ)) (first buf : List ℕ) (next end : ℕ) → next < end → next < length first → 0 < length buf →
    Consumes (prepend_known (take (end - next) (drop next first)) left) (prepend_known (take (end - (next + 1)) (drop (next + 1) first)) left)
    (take 1 (slice_set buf 0 (slice_index first next)))
again-one None first buf next end a b c = tt
again-one (Some xs) first buf next end a b c =
    rw (put-one buf (slice_index first next) c)
    (ap (λ l. l ++ xs) (begins first next (end - next) (end - (next + 1)) b (let e : end - next ≡ suc (end - (next + 1)) = omega (arith, a) in e)))

prepend-none : (left : Option (List ℕ)) → prepend_known [] left ≡ left
prepend-none None = refl
prepend-none (Some xs) = refl

pub again-none : {E : Type 0} (old new : Option (List ℕ)) (front : List ℕ) (r : Result ℕ E) (buf : List ℕ) → front ≡ [] → ReadConsumes old new r buf →
    ReadConsumes (prepend_known front old) (prepend_known front new) r buf
again-none old new front r buf none h =
    rw (none, prepend-none old, prepend-none new) h

pub none-ahead : (first : List ℕ) (next end : ℕ) → end ≤ next → take (end - next) (drop next first) ≡ []
none-ahead first next end e = let z : end - next ≡ 0 = omega (arith, e) in rw z refl

pub none-behind : (first : List ℕ) (next n : ℕ) → length first ≤ next → take n (drop next first) ≡ []
none-behind [] next n e = go next n
  where
    go : (next n : ℕ) → take n (drop next (let l : List ℕ = [] in l)) ≡ []
    go zero zero = refl
    go zero (suc n) = refl
    go (suc next) zero = refl
    go (suc next) (suc n) = refl
none-behind (x ∷ first) zero n e = absurd (omega (arith, e))
none-behind (x ∷ first) (suc next) n e = none-behind first next n (omega (arith, e))

pub some-of : (n : ℕ) → (n == 0) ≡ false → 0 < n
some-of n t = grind (arith, nat_tests)
