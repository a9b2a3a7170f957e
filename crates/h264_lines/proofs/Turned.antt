-- A place written, and the turn after it.
use Rattle.std.proofs.Common.{◌≡◌, ℕ, ◌+◌, ◌-◌, ◌%◌, ◌<◌, inl, inr, List, [], ◌∷◌, ◌++◌, length, take, drop, set, sym, ap, ap₂, ◌∙◌, arith, mod-eq_of_lt}
use Rattle.std.proofs.Math.Nat.{mod_self}
use Rattle.std.proofs.lemmas.Bool.{cases_lt}
use Rattle.std.proofs.lemmas.List.{append-nil, append_assoc, length-append, length-take-le, length-drop, length-set}
use Rattle.std.proofs.lemmas.List.{drop-set-lt, take_more_set, drop_more, drop_all, take_all}
use Rattle.circular_buffer.specs.Buffer.{keep_last}

-- the places from the oldest on, where the oldest stands at i
abbrev pub turned : {A : Type 0} → ℕ → List A → List A
turned i xs = drop i xs ++ take i xs

-- the element at i is let go of
pub turned-set : {A : Type 0} (xs : List A) (i : ℕ) (x : A) → i < length xs →
    turned (i + 1) (set xs i x) ≡ keep_last (length xs) (turned i xs ++ x ∷ [])
turned-set xs i x within =
    let front = length-take-le i xs (omega arith) in
    let all = length-append (drop i xs) (take i xs) in
    let one : length (turned i xs ++ x ∷ []) - length xs ≡ 1 = omega (arith, front, all, length-append (turned i xs) (x ∷ []), length-drop i xs) in
    ap₂ ◌++◌ (drop-set-lt (i + 1) xs i x (omega arith)) (take_more_set xs i x within)
    ∙ sym (append_assoc (drop (i + 1) xs) (take i xs) (x ∷ []))
    ∙ ap (λ l. drop 1 ((l ++ take i xs) ++ x ∷ [])) (sym (drop_more xs i x within))
    ∙ ap (λ n. drop n (turned i xs ++ x ∷ [])) (sym one)

-- after the last place comes the first
pub turned-all : {A : Type 0} (xs : List A) (n : ℕ) → length xs ≡ n → turned n xs ≡ turned 0 xs
turned-all xs n all = ap₂ ◌++◌ (drop_all n xs (omega arith)) (take_all n xs (omega arith)) ∙ sym (append-nil xs)

-- a place written, and the next place by the remainder
pub turned-round : {A : Type 0} (xs : List A) (i n : ℕ) (x : A) → length xs ≡ n → i < n →
    turned ((i + 1) % n) (set xs i x) ≡ keep_last n (turned i xs ++ x ∷ [])
turned-round xs i n x all within =
    let places = λ (j : ℕ). turned j (set xs i x) in
    let kept = turned-set xs i x (omega arith) ∙ ap (λ k. keep_last k (turned i xs ++ x ∷ [])) all in
    elim (cases_lt (i + 1) n) [
      | inl before ↦ ap places (mod-eq_of_lt before) ∙ kept
      | inr last ↦
          let end : i + 1 ≡ n = omega arith in
          ap (λ j. places (j % n)) end ∙ ap places (mod_self n) ∙ sym (turned-all (set xs i x) n (length-set xs i x ∙ all)) ∙ ap places (sym end) ∙ kept
    ]
