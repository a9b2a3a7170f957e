-- Levels put to their places, one after another.
use Rattle.std.proofs.Common.{◌≡◌, ℕ, ◌+◌, ◌-◌, ◌<◌, ◌≤◌, Bool, false, ◌==◌, List, [], ◌∷◌, ◌++◌, length, get_or, set, take, sum_by, replicate, ℤ, pos, ap}
use Rattle.std.proofs.Common.{sym, ◌∙◌, arith, inl, inr, eqb-true}
use Rattle.std.specs.List.{position_or_len, range_with_len}
use Rattle.std.proofs.lemmas.List.{get_or-set_same, get_or-set_other, get_or-replicate, length-replicate, get_or_past, take-append-le, take-take}
use Rattle.std.proofs.Math.Seq.{take-length}
use Rattle.std.proofs.lemmas.List.FromFn.{length-range_with_len, get_or-range_with_len, fill_by_all}
use Rattle.std.proofs.lemmas.List.Sums.{passes_at_first, fails_before_first, sum_by-take-le}
use Rattle.std.proofs.lemmas.Bool.{cases_lt}
use Rattle.std.proofs.lemmas.Bool.Decides.{nat_tests}
use Rattle.h264_cavlc.specs.Place.{place_of, level_number, level_at, by_place}

-- the first n levels stand at their places, and every other place has 0
pub record PlacedTo (n total total_zeros : ℕ) (levels : List ℤ) (runs : List ℕ) (out : List ℤ) : Type 0 where
  pub stands : (k : ℕ) → k < n → get_or out (place_of total total_zeros runs k) (pos 0) ≡ get_or levels k (pos 0)
  pub empty : (p : ℕ) → ((k : ℕ) → k < n → place_of total total_zeros runs k ≡ p → ⊥) → get_or out p (pos 0) ≡ pos 0

sum-grows : (xs : List ℕ) (j k : ℕ) → j ≤ k → sum_by (λ x. x) (take j xs) ≤ sum_by (λ x. x) (take k xs)
sum-grows xs j k h = let t = sum_by-take-le (λ x. x) (take k xs) j in rw (← take-take j k xs h) t

pub lower : (total total_zeros : ℕ) (runs : List ℕ) (j k : ℕ) → j < k → k < total → place_of total total_zeros runs k < place_of total total_zeros runs j
unfolding place_of
lower total total_zeros runs j k h g = let m = sum-grows runs j k (omega arith) in omega arith

pub inside : (total total_zeros : ℕ) (runs : List ℕ) (k : ℕ) → k < total → place_of total total_zeros runs k < total + total_zeros
unfolding place_of
inside total total_zeros runs k h = omega arith

-- one level more
pub placed-more : (n m total total_zeros p : ℕ) (levels : List ℤ) (runs : List ℕ) (out : List ℤ) (x : ℤ) → n < total → m ≡ n + 1 →
    total + total_zeros ≤ length out → p ≡ place_of total total_zeros runs n → x ≡ get_or levels n (pos 0) → PlacedTo n total total_zeros levels runs out →
    PlacedTo m total total_zeros levels runs (set out p x)
placed-more n m total total_zeros p levels runs out x h more room at is before = record {
  stands = λ k q. elim (cases_lt k n) [
    | inl early ↦ let w = lower total total_zeros runs k n early h in
        get_or-set_other out p (place_of total total_zeros runs k) x (pos 0) (λ e. absurd (omega arith)) ∙ before.stands k early
    | inr late ↦ let e : k ≡ n = omega arith in let w = inside total total_zeros runs n h in let i : p < length out = omega arith in
        rw (e, ← at) (get_or-set_same out p x (pos 0) i ∙ is)
  ];
  empty = λ r none. get_or-set_other out p r x (pos 0) (λ e. none n (omega arith) (sym at ∙ sym e)) ∙ before.empty r (λ k q. none k (omega arith));
}

-- no level stands anywhere yet
pub placed-none : (total total_zeros n : ℕ) (levels : List ℤ) → PlacedTo 0 total total_zeros levels [] (replicate n (pos 0))
placed-none total total_zeros n levels = record {
  stands = λ k q. absurd (omega arith);
  empty = λ p none. elim (cases_lt p n) [
    | inl inner ↦ get_or-replicate n p (pos 0) (pos 0) inner
    | inr outer ↦ let l = length-replicate n (pos 0) in get_or_past (replicate n (pos 0)) p (pos 0) (omega arith)
  ];
}

-- a run that is read later moves no level before it
place-kept : (total total_zeros r : ℕ) (runs : List ℕ) (k : ℕ) → k ≤ length runs →
    place_of total total_zeros (runs ++ r ∷ []) k ≡ place_of total total_zeros runs k
unfolding place_of
place-kept total total_zeros r runs k h = ap (λ (t : List ℕ). total - 1 - k + (total_zeros - sum_by (λ x. x) t)) (take-append-le k runs (r ∷ []) h)

pub placed-run : (n total total_zeros r : ℕ) (levels : List ℤ) (runs : List ℕ) (out : List ℤ) → n ≤ length runs + 1 →
    PlacedTo n total total_zeros levels runs out → PlacedTo n total total_zeros levels (runs ++ r ∷ []) out
placed-run n total total_zeros r levels runs out h before = record {
  stands = λ k q. let e = place-kept total total_zeros r runs k (omega arith) in rw e (before.stands k q);
  empty = λ p none. before.empty p (λ k q e. none k q (place-kept total total_zeros r runs k (omega arith) ∙ e));
}

-- the place of the level after the last run
pub place-next : (total total_zeros : ℕ) (runs : List ℕ) (k : ℕ) → length runs ≡ k →
    place_of total total_zeros runs k ≡ total - 1 - k + (total_zeros - sum_by (λ x. x) runs)
unfolding place_of
place-next total total_zeros runs k e = ap (λ (t : List ℕ). total - 1 - k + (total_zeros - sum_by (λ x. x) t))
    (ap (λ m. take m runs) (sym e) ∙ take-length runs)

differs : (a b : ℕ) → (a == b) ≡ false → a ≡ b → ⊥
differs a b f e = grind (arith, nat_tests)

-- the level at a place of a block in which all levels stand
level-is : (total total_zeros : ℕ) (levels : List ℤ) (runs : List ℕ) (out : List ℤ) (p : ℕ) → length levels ≡ total →
    PlacedTo total total total_zeros levels runs out → get_or out p (pos 0) ≡ level_at levels total_zeros runs p
unfolding level_at level_number
level-is total total_zeros levels runs out p e placed = rw e (elim (cases_lt q total) [
  | inl some ↦
      let l = length-range_with_len 0 total in
      let t = passes_at_first test numbers 0 (omega arith) in
      let g = get_or-range_with_len 0 total q 0 some in
      let n : get_or numbers q 0 ≡ q = omega arith in
      let f : place_of total total_zeros runs q ≡ p = eqb-true _ _ (rw n at t) in
      rw f at (placed.stands q some)
  | inr past ↦
      placed.empty p (λ k h.
      let t = fails_before_first test numbers k 0 (omega arith) in
      let g = get_or-range_with_len 0 total k 0 h in
      let n : get_or numbers k 0 ≡ k = omega arith in
      differs _ _ (rw n at t)) ∙ sym (get_or_past levels q (pos 0) (omega arith))
])
  where
    test : ℕ → Bool
    test k = place_of total total_zeros runs k == p

    numbers : List ℕ
    numbers = range_with_len 0 total

    q : ℕ
    q = position_or_len test numbers

pub all-placed : (total total_zeros n : ℕ) (levels : List ℤ) (runs : List ℕ) (out : List ℤ) → length out ≡ n → length levels ≡ total →
    PlacedTo total total total_zeros levels runs out → out ≡ by_place n levels total_zeros runs
unfolding by_place
all-placed total total_zeros n levels runs out l e placed =
    fill_by_all (level_at levels total_zeros runs) out n (pos 0) l (λ k h. level-is total total_zeros levels runs out k e placed)
