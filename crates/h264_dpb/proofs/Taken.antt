-- More places than frames: one is free.
use Rattle.std.proofs.Common.{◌≡◌, ℕ, zero, suc, ◌+◌, ◌<◌, ◌≤◌, Bool, true, false, ◌||◌, List, [], ◌∷◌, length, cond, refl, zero-add, arith, ◌∙◌}
use Rattle.std.specs.Prelude.{nat_eq}
use Rattle.std.proofs.lemmas.Bool.Decides.{nat_tests}
use Rattle.h264_dpb.specs.declared.entry.Entry.{Entry}
use Rattle.h264_dpb.specs.declared.entry.Placed.{Placed}
use Rattle.h264_dpb.specs.Numbered.{is_at, is_taken}

-- how many of n places pass a test
abbrev hits : (ℕ → Bool) → ℕ → ℕ → ℕ
hits p first zero = 0
hits p first (suc n) = cond (p (first + n)) 1 0 + hits p first n

none-below : (k first n : ℕ) → first + n ≤ k → hits (λ place. nat_eq k place) first n ≡ 0
none-below k first zero h = refl
none-below k first (suc n) h =
    let other : nat_eq k (first + n) ≡ false = grind (arith, nat_tests) in
    rw other (zero-add (hits (λ place. nat_eq k place) first n) ∙ none-below k first n (omega arith))

one-place : (k first n : ℕ) → hits (λ place. nat_eq k place) first n ≤ 1
one-place k first zero = omega arith
one-place k first (suc n) = turn (nat_eq k (first + n)) refl (one-place k first n)
  where
    turn : (b : Bool) → nat_eq k (first + n) ≡ b → hits (λ place. nat_eq k place) first n ≤ 1 →
        cond (nat_eq k (first + n)) 1 0 + hits (λ place. nat_eq k place) first n ≤ 1
    turn true t rest =
        let same : k ≡ first + n = grind (arith, nat_tests) in
        let none = none-below k first n (omega arith) in
        rw (t, none) (omega arith)
    turn false t rest = rw t (omega (arith, rest))

cond-or : (a b : Bool) (m n : ℕ) → m ≤ n → cond (a || b) 1 0 + m ≤ cond a 1 0 + cond b 1 0 + n
cond-or true b m n h = omega (arith, h)
cond-or false true m n h = omega (arith, h)
cond-or false false m n h = omega (arith, h)

hits-or : (p q : ℕ → Bool) (first n : ℕ) → hits (λ k. p k || q k) first n ≤ hits p first n + hits q first n
hits-or p q first zero = omega arith
hits-or p q first (suc n) =
    let more = cond-or (p (first + n)) (q (first + n)) (hits (λ k. p k || q k) first n) (hits p first n + hits q first n) (hits-or p q first n) in
    omega (arith, more)

no-hits : (first n : ℕ) → hits (λ k. false) first n ≡ 0
no-hits first zero = refl
no-hits first (suc n) = zero-add (hits (λ k. false) first n) ∙ no-hits first n

taken-few : (es : List (Entry Placed)) (first n : ℕ) → hits (is_taken es) first n ≤ length es
taken-few [] first n = let none = no-hits first n in omega (arith, none)
taken-few (e ∷ es) first n =
    let both = hits-or (λ k. is_at k e) (is_taken es) first n in
    let own = one-place e.of.place first n in
    let rest = taken-few es first n in
    omega (arith, both, own, rest)

all-hit : (p : ℕ → Bool) (first n : ℕ) → ((k : ℕ) → first ≤ k → k < first + n → p k ≡ true) → hits p first n ≡ n
all-hit p first zero h = refl
all-hit p first (suc n) h =
    let rest = all-hit p first n (λ k i j. h k i (omega arith)) in
    rw (h (first + n) (omega arith) (omega arith), rest) (omega arith)

-- where each of n places is taken, there are as many frames
pub all-taken : (es : List (Entry Placed)) (first n : ℕ) → ((k : ℕ) → first ≤ k → k < first + n → is_taken es k ≡ true) → n ≤ length es
all-taken es first n h =
    let all = all-hit (is_taken es) first n h in
    let few = taken-few es first n in
    omega (arith, all, few)
