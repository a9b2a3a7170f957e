-- How many places are no greater than one.
use Rattle.std.proofs.Common.{◌≡◌, ℕ, zero, suc, ◌+◌, ◌<◌, ◌≤◌, Bool, true, false, List, [], ◌∷◌, length, get_or, cond, refl, arith}
use Rattle.std.specs.List.{count_by}
use Rattle.std.specs.List.Sorted.{IsPartitionPoint}
use Rattle.std.proofs.lemmas.Bool.{cond-true, cond-false}
use Rattle.std.proofs.lemmas.List.Sums.{sum_by-cons}

pub count-none : {X : Type 0} (p : X → Bool) (xs : List X) → ((k : ℕ) (d : X) → k < length xs → p (get_or xs k d) ≡ false) → count_by p xs ≡ 0
count-none p [] h = refl
count-none p (x ∷ xs) h =
    let t : p x ≡ false = h 0 x (omega arith) in
    let c : cond {A = ℕ} (p x) 1 0 ≡ 0 = cond-false {A = ℕ} (p x) 1 0 t in
    let e : count_by p (x ∷ xs) ≡ cond {A = ℕ} (p x) 1 0 + count_by p xs = sum_by-cons (λ x. cond (p x) 1 0) x xs in
    let n = count-none p xs (λ k d lt. h (suc k) d (omega arith)) in
    omega arith

-- a list cut in two by a test: the front is what passes
pub count-point : {X : Type 0} (p : X → Bool) (xs : List X) (i : ℕ) → IsPartitionPoint (λ y. p y ≡ true) (λ y. p y ≡ false) xs i → i ≤ length xs →
    count_by p xs ≡ i
count-point p [] i h fits = omega arith
count-point p (x ∷ xs) zero h fits = count-none p (x ∷ xs) (λ k d lt. h.1 k d (omega arith) lt)
count-point p (x ∷ xs) (suc i) h fits =
    let t : p x ≡ true = h.0 0 x (omega arith) (omega arith) in
    let c : cond {A = ℕ} (p x) 1 0 ≡ 1 = cond-true {A = ℕ} (p x) 1 0 t in
    let e : count_by p (x ∷ xs) ≡ cond {A = ℕ} (p x) 1 0 + count_by p xs = sum_by-cons (λ x. cond (p x) 1 0) x xs in
    let n = count-point p xs i (λ k d low lt. h.0 (suc k) d (omega arith) (omega arith), λ k d low lt. h.1 (suc k) d (omega arith) (omega arith))
    (omega arith) in
    omega arith

pub count-yes : {X : Type 0} (p : X → Bool) (x : X) (xs : List X) → p x ≡ true → count_by p (x ∷ xs) ≡ 1 + count_by p xs
count-yes p x xs t =
    let c : cond {A = ℕ} (p x) 1 0 ≡ 1 = cond-true {A = ℕ} (p x) 1 0 t in
    let e : count_by p (x ∷ xs) ≡ cond {A = ℕ} (p x) 1 0 + count_by p xs = sum_by-cons (λ x. cond (p x) 1 0) x xs in
    omega arith

pub count-all : {X : Type 0} (p : X → Bool) (xs : List X) → ((k : ℕ) (d : X) → k < length xs → p (get_or xs k d) ≡ true) → count_by p xs ≡ length xs
count-all p xs h = count-point p xs (length xs) (λ k d low lt. h k d lt, λ k d low lt. absurd (omega arith)) (omega arith)
