-- Two numbers have a common factor where their greatest common divisor is above 1.
use Rattle.std.proofs.Common.{◌≡◌, ℕ, zero, suc, ◌+◌, ◌-◌, ◌<◌, ◌≤◌, ◌%◌, ◌==◌, ◌||◌, arith, true, false, refl, sym, ap, subst, ◌∙◌, ◌⊎◌, inl, inr}
use Rattle.std.specs.Prelude.{nat_lt}
use Rattle.std.specs.Int.{IsGcd}
use Rattle.std.specs.List.{list_any, range_with_len}
use Rattle.std.proofs.lemmas.Bool.{cases_lt, cases_eq, lt-ltb, le-ltb, eq-eqb, eqb-true, and_from, and_parts, false_from_ne_true}
use Rattle.std.proofs.lemmas.List.Folds.{list_any_at}
use Rattle.std.proofs.lemmas.List.FromFn.{length-range_with_len, get_or-range_with_len}
use Rattle.std.proofs.lemmas.Nat.Gcd.{dvd-zero, dvd_antisymm, le_of_dvd, mod-eq-zero_of_dvd, dvd_of_mod-eq-zero, le_from_IsGcd}
use Prim.Native.Nat.{◌∣◌}
use Rattle.h264_strict.specs.StrictRatio.{divides_both, have_common_factor}

-- no number from a on divides both
none-from : (n k a m : ℕ) → ((d : ℕ) → a ≤ d → divides_both n k d ≡ false) → list_any (divides_both n k) (range_with_len a m) ≡ false
none-from n k a zero none = refl
none-from n k a (suc m) none =
    let here : a ≤ a = omega arith in
    ap (λ b. b || list_any (divides_both n k) (range_with_len (a + 1) m)) (none a here)
    ∙ none-from n k (a + 1) m (λ d low. let lower : a ≤ d = omega arith in none d lower)

module _ (n k g : ℕ) (above : 0 < n) (is : IsGcd n k g) where
  positive : 0 < g
  positive = go (cases_eq g 0) where
    go : (g ≡ 0) ⊎ (g ≡ 0 → ⊥) → 0 < g
    go (inl e) = let none : 0 ≡ n = dvd_antisymm (subst (λ (m : ℕ). m ∣ n) e is.0) (dvd-zero n) in omega arith
    go (inr other) = omega arith

  -- a greatest common divisor above 1 is a common factor
  found : 1 < g → have_common_factor n k ≡ true
  found h =
      let most : g ≤ n = le_of_dvd above is.0 in
      let short : g - 2 < n - 1 = omega arith in
      let up : 2 + (g - 2) ≡ g = omega arith in
      list_any_at (divides_both n k) (range_with_len 2 (n - 1)) (g - 2) 0
      (subst (λ (m : ℕ). g - 2 < m) (sym (length-range_with_len 2 (n - 1))) short)
      (ap (λ d. divides_both n k d) (get_or-range_with_len 2 (n - 1) (g - 2) 0 short ∙ up)
      ∙ and_from _ _ (eq-eqb (n % g) 0 (mod-eq-zero_of_dvd g is.0)) (eq-eqb (k % g) 0 (mod-eq-zero_of_dvd g is.1)))

  -- and a number above it divides no two
  none-above : (d : ℕ) → g < d → divides_both n k d ≡ false
  none-above d h =
      false_from_ne_true _ (λ t.
      let both = and_parts (n % d == 0) (k % d == 0) t in
      let most : d ≤ g = le_from_IsGcd n k g d is positive (dvd_of_mod-eq-zero d (eqb-true (n % d) 0 both.0))
      (dvd_of_mod-eq-zero d (eqb-true (k % d) 0 both.1)) in
      omega arith)

  pub factor-gcd : have_common_factor n k ≡ nat_lt 1 g
  factor-gcd = go (cases_lt 1 g) where
    go : (1 < g) ⊎ (g ≤ 1) → have_common_factor n k ≡ nat_lt 1 g
    go (inl h) = found h ∙ sym (lt-ltb 1 g h)
    go (inr h) = none-from n k 2 (n - 1) (λ d low. let over : g < d = omega arith in none-above d over) ∙ sym (le-ltb 1 g h)
