-- What a table of entries gives, by leading zeros and the bits after the first 1.
use Rattle.std.proofs.Common.{◌≡◌, ℕ, zero, suc, ◌+◌, ◌*◌, ◌-◌, ◌/◌, ◌^◌, ◌<◌, ◌≤◌, Bool, true, false, List, [], ◌∷◌, length, get_or, refl, ap, sym, ◌∙◌}
use Rattle.std.proofs.Common.{arith, if◌then◌else◌, ◌==◌, ◌&&◌, ◌⊎◌, inl, inr, nat_le, nat_lt, Some}
use Rattle.std.proofs.lemmas.Nat.{pow_pos, pow-add, shr-shr, shr_below, le-div, leading_length, div-mul-add, mul-le}
use Rattle.std.proofs.lemmas.Bool.{and_parts, eqb-true, eq-eqb, leb-true, le-leb, cases_lt, false≢true}
use Rattle.std.proofs.lemmas.Bool.Decides.{nat_tests}
use Rattle.std.proofs.Math.Nat.{pow-succ', pow-le-pow_right}
use lib.Count.{count_leading_zeros}
use Rattle.h264_base.specs.Table.{Row}
use Rattle.h264_tables.specs.Front.{begins, front_of, found_of}
use Rattle.h264_base.proofs.Words.{pair_same}

-- entry k serves the numbers whose first bits, without the last `shift_of`, are `place_of`; p is a power of 2
unfoldable pub shift_of : ℕ → ℕ → ℕ
shift_of p k = k / p - 1

unfoldable pub place_of : ℕ → ℕ → ℕ
place_of p k = k - p * shift_of p k

-- some number of w bits whose bits but the last s are f begins with the word
unfoldable pub agrees : ℕ → ℕ → ℕ → Row → Bool
agrees w s f r = if nat_le (s + r.length) w then f / 2 ^ (w - r.length - s) == r.bits else r.bits / 2 ^ (s - (w - r.length)) == f

-- the first such word is known, and has this length and value
unfoldable pub entry_fits : ℕ → ℕ → ℕ → ℕ → ℕ → List Row → Bool
entry_fits w s f l v [] = (l == 0) && (v == 0)
entry_fits w s f l v (r ∷ rows) = if agrees w s f r then nat_le (s + r.length) w && ((l == r.length) && (v == r.value)) else entry_fits w s f l v rows

-- so it is for each entry from entry k on
unfoldable pub entries_fit : ℕ → ℕ → ℕ → List ℕ → List ℕ → List Row → Bool
entries_fit w p k [] values rows = true
entries_fit w p k (l ∷ lengths) [] rows = false
entries_fit w p k (l ∷ lengths) (v ∷ values) rows = entry_fits w (shift_of p k) (place_of p k) l v rows && entries_fit w p (suc k) lengths values rows

-- each word has 1 to w bits
unfoldable pub are_words : ℕ → List Row → Bool
are_words w [] = true
are_words w (r ∷ rows) = nat_lt 0 r.length && nat_le r.length w && are_words w rows

not-within : (i n : ℕ) → n < i → nat_le i n ≡ false
not-within i n h = grind (arith, nat_tests)

deeper : (y s a b : ℕ) → a ≡ s + b → y / 2 ^ a ≡ y / 2 ^ s / 2 ^ b
deeper y s a b e = rw (e, ← shr-shr) refl

agrees-inside : (w s y : ℕ) (r : Row) → s + r.length ≤ w → agrees w s (y / 2 ^ s) r ≡ begins w r y
unfolding agrees begins
agrees-inside w s y r h = rw (le-leb (s + r.length) w h, deeper y s (w - r.length) (w - r.length - s) (omega arith)) refl

agrees-outside : (w s y : ℕ) (r : Row) → w < s + r.length → begins w r y ≡ true → agrees w s (y / 2 ^ s) r ≡ true
unfolding agrees begins
agrees-outside w s y r h e =
    let b : y / 2 ^ (w - r.length) ≡ r.bits = eqb-true _ _ e in
    rw (not-within (s + r.length) w h) (eq-eqb _ _ (rw (← b) (sym (deeper y (w - r.length) s (s - (w - r.length)) (omega arith)))))

misses : (w s y : ℕ) (r : Row) → agrees w s (y / 2 ^ s) r ≡ false → begins w r y ≡ false
misses w s y r e = elim (cases_lt w (s + r.length)) [
  | inl out ↦ go (begins w r y) refl out
  | inr inner ↦ sym (agrees-inside w s y r (omega arith)) ∙ e
]
  where
    go : (b : Bool) → begins w r y ≡ b → w < s + r.length → begins w r y ≡ false
    go true f out = absurd (false≢true (sym e ∙ agrees-outside w s y r out f))
    go false f out = f

pub entry-is : (w s y l v : ℕ) (rows : List Row) → entry_fits w s (y / 2 ^ s) l v rows ≡ true → (l, v) ≡ found_of (front_of w rows y)
unfolding entry_fits front_of
entry-is w s y l v [] h = let p = and_parts _ _ h in pair_same (eqb-true l 0 p.0) (eqb-true v 0 p.1)
entry-is w s y l v (r ∷ rows) h = go (agrees w s (y / 2 ^ s) r) refl (λ g. entry-is w s y l v rows g) h
  where
    go : (b : Bool) → agrees w s (y / 2 ^ s) r ≡ b → (entry_fits w s (y / 2 ^ s) l v rows ≡ true → (l, v) ≡ found_of (front_of w rows y)) →
        (if b then nat_le (s + r.length) w && ((l == r.length) && (v == r.value)) else entry_fits w s (y / 2 ^ s) l v rows) ≡ true →
        (l, v) ≡ found_of (if begins w r y then Some r else front_of w rows y)
    go true e more g =
        let p = and_parts _ _ g in
        let q = and_parts _ _ p.1 in
        rw (sym (agrees-inside w s y r (leb-true _ _ p.0)) ∙ e) (pair_same (eqb-true l r.length q.0) (eqb-true v r.value q.1))
    go false e more g = rw (misses w s y r e) (more g)

entries-at : (w p k j : ℕ) (lengths values : List ℕ) (rows : List Row) → entries_fit w p k lengths values rows ≡ true → j < length lengths →
    entry_fits w (shift_of p (k + j)) (place_of p (k + j)) (get_or lengths j 0) (get_or values j 0) rows ≡ true
unfolding entries_fit
entries-at w p k j [] values rows h g = absurd (omega arith)
entries-at w p k j (l ∷ lengths) [] rows h g = absurd (cc)
entries-at w p k zero (l ∷ lengths) (v ∷ values) rows h g = let e : k + 0 ≡ k = omega arith in rw e (and_parts _ _ h).0
entries-at w p k (suc j) (l ∷ lengths) (v ∷ values) rows h g = let e : k + suc j ≡ suc k + j = omega arith in
    rw e (entries-at w p (suc k) j lengths values rows (and_parts _ _ h).1 (omega arith))

-- where the entry of a number stands
record Spot (w m y s : ℕ) : Type 0 where
  pub below : y / 2 ^ s < 2 * 2 ^ m
  pub above : (s ≡ 0) ⊎ (2 ^ m ≤ y / 2 ^ s)
  pub few : s + m + 1 ≤ w

pub le-pow : (k n : ℕ) → k ≤ n → 2 ^ k ≤ 2 ^ n
le-pow k n h = pow-le-pow_right (omega arith) h

spot : (w m y s : ℕ) → m < w → w ≤ 32 → y < 2 ^ w → s ≡ 31 - m - count_leading_zeros 32 y → Spot w m y s
spot w m y s lo hi small e =
    let fits : 2 ^ w ≤ 2 ^ 32 = le-pow w 32 hi in
    let l = leading_length 32 y (omega arith) in
    let count = l.1 in
    let double : 2 ^ suc m ≡ 2 * 2 ^ m = pow-succ' 2 m in
    elim (cases_lt (m + 1) l.0) [
      | inl long ↦
          let whole : l.0 ≡ suc m + s = omega arith in
          let split : l.0 ≡ suc (s + m) = omega arith in
          let high : y < 2 ^ (suc m + s) = (let a = l.2 in let p = ap (λ k. 2 ^ k) whole in omega arith) in
          let low : 2 ^ (s + m) ≤ y = (let a = l.3 in let p = ap (λ k. 2 ^ k) split in let q = pow-succ' 2 (s + m) in omega arith) in
          let prod : 2 ^ m * 2 ^ s ≤ y = (let q = pow-add 2 m s in let c : 2 ^ (m + s) ≡ 2 ^ (s + m) = ap (λ k. 2 ^ k) (omega arith) in omega arith) in
          let below = shr_below y (suc m) s high in
          let fine : s + m < w = elim (cases_lt (s + m) w) [
            | inl good ↦ good
            | inr bad ↦ absurd (let q = le-pow w (s + m) (omega arith) in omega arith)
          ] in
          record { below = omega arith; above = inr (le-div (2 ^ m) y (2 ^ s) (pow_pos s) prod); few = omega arith }
      | inr short ↦
          let none : s ≡ 0 = omega arith in
          let one : 2 ^ s ≡ 1 = rw none refl in
          let high : y < 2 * 2 ^ m = (let a = l.2 in let p = le-pow l.0 (suc m) (omega arith) in omega arith) in
          let same : y / 2 ^ s ≡ y = rw one (omega arith) in
          record { below = omega arith; above = inl none; few = omega arith }
    ]

quotient : (p s f : ℕ) → f < 2 * p → (s ≡ 0) ⊎ (p ≤ f) → (p * s + f) / p - 1 ≡ s
quotient p s f h (inl z) =
    let e : p * s + f ≡ f = rw z (omega arith) in
    rw e (elim (cases_lt f p) [
      | inl low ↦ let d : (0 * p + f) / p ≡ 0 = div-mul-add 0 p f low in let c : 0 * p + f ≡ f = omega arith in let g : f / p ≡ 0 = (rw c at d) in omega arith
      | inr high ↦ let d : (1 * p + (f - p)) / p ≡ 1 = div-mul-add 1 p (f - p) (omega arith) in let c : 1 * p + (f - p) ≡ f = omega arith in
          let g : f / p ≡ 1 = (rw c at d) in omega arith
    ])
quotient p s f h (inr high) =
    let d : (suc s * p + (f - p)) / p ≡ suc s = div-mul-add (suc s) p (f - p) (omega arith) in
    let t : suc s * p ≡ p + p * s = grind arith in
    let c : suc s * p + (f - p) ≡ p * s + f = omega arith in
    let g : (p * s + f) / p ≡ suc s = (rw c at d) in
    omega arith

index-inside : (w m y s : ℕ) → m < w → w ≤ 32 → y < 2 ^ w → s ≡ 31 - m - count_leading_zeros 32 y → 2 ^ m * s + y / 2 ^ s < 2 ^ m * (w - m - 1) + 2 * 2 ^ m
index-inside w m y s lo hi small e =
    let i = spot w m y s lo hi small e in
    let b = i.below in
    let q : 2 ^ m * s ≤ 2 ^ m * (w - m - 1) = mul-le (2 ^ m) s (2 ^ m) (w - m - 1) (omega arith) (let f = i.few in omega arith) in
    omega arith

-- the entry of a number is the row with which it begins
entry-in : (w m y s : ℕ) (lengths values : List ℕ) (rows : List Row) → entries_fit w (2 ^ m) 0 lengths values rows ≡ true →
    2 ^ m * (w - m - 1) + 2 * 2 ^ m ≤ length lengths → m < w → w ≤ 32 → y < 2 ^ w → s ≡ 31 - m - count_leading_zeros 32 y →
    (get_or lengths (2 ^ m * s + y / 2 ^ s) 0, get_or values (2 ^ m * s + y / 2 ^ s) 0) ≡ found_of (front_of w rows y)
unfolding shift_of place_of
entry-in w m y s lengths values rows h all lo hi small e =
    let i = spot w m y s lo hi small e in
    let b = index-inside w m y s lo hi small e in
    let q : (2 ^ m * s + y / 2 ^ s) / 2 ^ m - 1 ≡ s = quotient (2 ^ m) s (y / 2 ^ s) i.below i.above in
    let f : 2 ^ m * s + y / 2 ^ s - 2 ^ m * s ≡ y / 2 ^ s = omega arith in
    let z : 0 + (2 ^ m * s + y / 2 ^ s) ≡ 2 ^ m * s + y / 2 ^ s = omega arith in
    entry-is w s y _ _ rows (rw (z, q, f) at (entries-at w (2 ^ m) 0 (2 ^ m * s + y / 2 ^ s) lengths values rows h (omega arith)))

front-below : (w y : ℕ) → w ≤ 16 → y < 2 ^ 16 → y / 2 ^ (16 - w) < 2 ^ w
front-below w y h small = let e : 16 ≡ w + (16 - w) = omega arith in let p : 2 ^ 16 ≡ 2 ^ (w + (16 - w)) = ap (λ k. 2 ^ k) e in
    shr_below y w (16 - w) (omega arith)

begins-narrow : (w : ℕ) (r : Row) (y : ℕ) → r.length ≤ w → w ≤ 16 → begins w r (y / 2 ^ (16 - w)) ≡ begins 16 r y
unfolding begins
begins-narrow w r y h g = rw (deeper y (16 - w) (16 - r.length) (w - r.length) (omega arith)) refl

-- the last bits of 16, which no word reaches, do not matter
front-narrow : (w : ℕ) (rows : List Row) (y : ℕ) → are_words w rows ≡ true → w ≤ 16 → front_of w rows (y / 2 ^ (16 - w)) ≡ front_of 16 rows y
unfolding front_of are_words
front-narrow w [] y h g = refl
front-narrow w (r ∷ rows) y h g =
    let p = and_parts _ _ h in
    let q = and_parts _ _ p.0 in
    rw (begins-narrow w r y (leb-true _ _ q.1) g, front-narrow w rows y p.1 g) refl

-- the entry of 16 bits stands in the table, of which w bits and m after the first 1 matter
pub index-fits : (w m y s : ℕ) → m < w → w ≤ 16 → y < 2 ^ 16 → s ≡ 31 - m - count_leading_zeros 32 (y / 2 ^ (16 - w)) →
    2 ^ m * s + y / 2 ^ (16 - w) / 2 ^ s < 2 ^ m * (w - m - 1) + 2 * 2 ^ m
index-fits w m y s lo hi small e = index-inside w m (y / 2 ^ (16 - w)) s lo (omega arith) (front-below w y hi small) e

-- and it is the row whose word they begin with
pub entry-found : (w m y s : ℕ) (lengths values : List ℕ) (rows : List Row) → entries_fit w (2 ^ m) 0 lengths values rows ≡ true → are_words w rows ≡ true →
    2 ^ m * (w - m - 1) + 2 * 2 ^ m ≤ length lengths → m < w → w ≤ 16 → y < 2 ^ 16 → s ≡ 31 - m - count_leading_zeros 32 (y / 2 ^ (16 - w)) →
    (get_or lengths (2 ^ m * s + y / 2 ^ (16 - w) / 2 ^ s) 0, get_or values (2 ^ m * s + y / 2 ^ (16 - w) / 2 ^ s) 0) ≡ found_of (front_of 16 rows y)
entry-found w m y s lengths values rows h short all lo hi small e =
    entry-in w m (y / 2 ^ (16 - w)) s lengths values rows h all lo (omega arith) (front-below w y hi small) e
    ∙ ap found_of (front-narrow w rows y short hi)
