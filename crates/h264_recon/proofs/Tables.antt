-- Lists by place.
use Rattle.std.proofs.Common.{◌≡◌, ◌≢◌, ⊎_elim, ℕ, zero, suc, ◌+◌, ◌<◌, ◌≤◌, List, [], ◌∷◌, length, get_or, refl, ap, ◌∙◌, arith, Some, replicate}
use Rattle.std.specs.List.{slice_get, slice_set}
use Rattle.std.proofs.lemmas.Bool.{cases_lt}
use Rattle.std.proofs.lemmas.List.{get_or-set_same, get_or-set_other}
use Rattle.h264_recon.specs.Table.{table}

pub table-same : {A : Type 0} (xs : List A) (n : ℕ) (f : ℕ → A) (d : A) → length xs ≡ n → ((k : ℕ) → k < n → get_or xs k d ≡ f k) → xs ≡ table n f
unfolding table
table-same [] zero f d e h = refl
table-same [] (suc n) f d e h = absurd (omega arith)
table-same (x ∷ xs) zero f d e h = absurd (omega arith)
table-same (x ∷ xs) (suc n) f d e h = ap (λ z. z ∷ xs) (h 0 (omega arith)) ∙
    ap (λ l. f 0 ∷ l) (table-same xs n (λ k. f (suc k)) d (omega arith) (λ k i. h (suc k) (omega arith)))

pub table-ext : {A : Type 0} (n : ℕ) (f g : ℕ → A) → ((k : ℕ) → k < n → f k ≡ g k) → table n f ≡ table n g
unfolding table
table-ext zero f g h = refl
table-ext (suc n) f g h = ap (λ z. z ∷ table n (λ k. f (suc k))) (h 0 (omega arith)) ∙
    ap (λ l. g 0 ∷ l) (table-ext n (λ k. f (suc k)) (λ k. g (suc k)) (λ k i. h (suc k) (omega arith)))

pub table-replicate : {A : Type 0} (n : ℕ) (x : A) → replicate n x ≡ table n (λ k. x)
unfolding table
table-replicate zero x = refl
table-replicate (suc n) x = ap (λ l. x ∷ l) (table-replicate n x)

-- an element of a list of zeros
pub zeros-at : (n k : ℕ) → ◌≡◌ {A = ℕ} (get_or (replicate n 0) k 0) 0
zeros-at zero k = refl
zeros-at (suc n) zero = refl
zeros-at (suc n) (suc k) = zeros-at n k

-- an element that there is
pub element : {A : Type 0} (xs : List A) (k : ℕ) (x d : A) → slice_get xs k ≡ Some x → get_or xs k d ≡ x
element [] k x d e = absurd (grind (arith, e))
element (y ∷ xs) zero x d e = grind (arith, e)
element (y ∷ xs) (suc k) x d e = element xs k x d e

-- one more element
pub grown : {A : Type 0} (xs : List A) (k : ℕ) (x d : A) (f : ℕ → A) → k < length xs → ((m : ℕ) → m < k → get_or xs m d ≡ f m) → x ≡ f k →
    (m : ℕ) → m < k + 1 → get_or (slice_set xs k x) m d ≡ f m
grown xs k x d f h before own m i = ⊎_elim
    (λ (q : m < k). let differs : m ≢ k = λ e. absurd (omega arith) in get_or-set_other xs k m x d differs ∙ before m q)
    (λ (q : k ≤ m). let e : m ≡ k = omega arith in rw e (get_or-set_same xs k x d h ∙ own))
    (cases_lt m k)

-- the element of a table
pub table-at : {A : Type 0} (n : ℕ) (f : ℕ → A) (k : ℕ) (d : A) → k < n → get_or (table n f) k d ≡ f k
unfolding table
table-at zero f k d h = absurd (omega arith)
table-at (suc n) f zero d h = refl
table-at (suc n) f (suc k) d h = table-at n (λ k. f (suc k)) k d (omega arith)
