-- One output.
use Rattle.std.proofs.Common.{◌≡◌, ℕ, zero, suc, ◌+◌, ◌-◌, ◌<◌, ◌≤◌, Bool, true, false, not, Option, Some, None, List, [], ◌∷◌, ◌++◌, take, drop, length}
use Rattle.std.proofs.Common.{get_or, cond, set, length-set, refl, ap, sym, ◌∙◌, arith, if◌then◌else◌, ℤ}
use Rattle.std.specs.List.{remove, refill, position, position_or_len}
use Rattle.std.proofs.lemmas.List.Quantifiers.{position-Some}
use Rattle.std.proofs.lemmas.Bool.Decides.{nat_tests}
use Rattle.std.proofs.Math.Seq.{take-append_seam}
use Rattle.std.proofs.lemmas.List.{drop_more}
use Rattle.h264_dpb.specs.declared.entry.Entry.{Entry}
use Rattle.h264_dpb.specs.Bumping.{Step, leaves, in_front, least_with, least_count, is_next, left_at, written_at, written_by, bumped}

pub chosen : {A : Type 0} (b c : Bool) (x y : A) → b ≡ c → (if b then x else y) ≡ (if c then x else y)
chosen b c x y e = ap (λ d. if d then x else y) e

-- a slice that was written in place
pub refilled : {X : Type 0} (n : ℕ) (xs ws : List X) → length ws ≡ n → length ws ≡ length xs → refill n xs ws ≡ ws
refilled n xs ws l m = ap (λ k. take k (ws ++ drop (length ws) xs)) (sym l) ∙ take-append_seam ws (drop (length ws) xs)

module _ {N : Type 0} where
  -- one more frame, at the end
  pub least-more : (es : List (Entry N)) (i : ℕ) (d : Entry N) → 0 < i → i ≤ length es →
      (let e = get_or es (i - 1) d in least_count (drop (i - 1) es) ≡
      (if e.waiting then Some (least_with e.count (least_count (drop i es))) else least_count (drop i es)))
  least-more es i d h k =
      let next : (i - 1) + 1 ≡ i = omega arith in
      rw next at (ap (λ l. least_count l) (drop_more es (i - 1) d (omega arith)))

  -- the frame at a place that is the first to wait with this count
  pub written_at-is : (c : ℤ) (es : List (Entry N)) (k : ℕ) (d : Entry N) → k < length es → is_next c (get_or es k d) ≡ true →
      ((j : ℕ) → j < k → is_next c (get_or es j d) ≡ false) →
      (let s : Step N = record { written = get_or es k d ∷ []; entries = left_at es k } in written_at c es ≡ s)
  written_at-is c [] k d h t f = absurd (omega (arith, h))
  written_at-is c (e ∷ es) zero d h t f = chosen (is_next c e) true _ _ t
  written_at-is c (e ∷ es) (suc k) d h t f = chosen (is_next c e) false _ _ (f 0 (omega arith)) ∙
      ap (in_front e) (written_at-is c es k d (omega (arith, h)) t (λ j g. f (suc j) (omega (arith, g))))

  -- there is none
  pub written_at-none : (c : ℤ) (es : List (Entry N)) (d : Entry N) → ((k : ℕ) → k < length es → is_next c (get_or es k d) ≡ false) →
      written_at c es ≡ leaves es
  written_at-none c [] d f = refl
  written_at-none c (e ∷ es) d f = chosen (is_next c e) false _ _ (f 0 (omega arith)) ∙
      ap (in_front e) (written_at-none c es d (λ k h. f (suc k) (omega (arith, h))))

  pub left_at-kept : (es : List (Entry N)) (k : ℕ) (d : Entry N) → k < length es → (get_or es k d).reference ≡ true →
      left_at es k ≡ set es k (record (get_or es k d) { waiting = false })
  left_at-kept [] k d h r = absurd (omega (arith, h))
  left_at-kept (e ∷ es) zero d h r = ap (λ l. l ++ es) (chosen e.reference true _ _ r)
  left_at-kept (e ∷ es) (suc k) d h r = ap (λ l. e ∷ l) (left_at-kept es k d (omega (arith, h)) r)

  pub left_at-removed : (es : List (Entry N)) (k : ℕ) (d : Entry N) → k < length es → (get_or es k d).reference ≡ false → left_at es k ≡ remove es k
  left_at-removed [] k d h r = absurd (omega (arith, h))
  left_at-removed (e ∷ es) zero d h r = ap (λ l. l ++ es) (chosen e.reference false _ _ r)
  left_at-removed (e ∷ es) (suc k) d h r = ap (λ l. e ∷ l) (left_at-removed es k d (omega (arith, h)) r)

-- where no element passes
none-turn : {X : Type 0} (p : X → Bool) (x d : X) (xs : List X) (b : Bool) → p x ≡ b →
    ((k : ℕ) → length xs ≤ position_or_len p xs → k < length xs → p (get_or xs k d) ≡ false) → suc (length xs) ≤ cond (not b) (1 + position_or_len p xs) 0 →
    (k : ℕ) → k < suc (length xs) → p (get_or (x ∷ xs) k d) ≡ false
none-turn p x d xs true e ih h k l = absurd (omega (arith, h))
none-turn p x d xs false e ih h zero l = e
none-turn p x d xs false e ih h (suc k) l = ih k (omega (arith, h)) (omega (arith, l))

none-before : {X : Type 0} (p : X → Bool) (d : X) (xs : List X) (k : ℕ) → length xs ≤ position_or_len p xs → k < length xs → p (get_or xs k d) ≡ false
none-before p d [] k h l = absurd (omega (arith, l))
none-before p d (x ∷ xs) k h l = none-turn p x d xs (p x) refl (none-before p d xs) h k l

none-found : {X : Type 0} (p : X → Bool) (xs : List X) → position p xs ≡ None → length xs ≤ position_or_len p xs
none-found p xs h = grind (arith, nat_tests)

module _ {N : Type 0} where
  pub bumped-idle : (es : List (Entry N)) → least_count es ≡ None → bumped es ≡ leaves es
  unfolding bumped
  bumped-idle es h = ap (λ o. written_by o es) h

  pub bumped-none : (es : List (Entry N)) (c : ℤ) (d : Entry N) → least_count es ≡ Some c → position (is_next c) es ≡ None → bumped es ≡ leaves es
  unfolding bumped
  bumped-none es c d h n = ap (λ o. written_by o es) h ∙ written_at-none c es d (λ k l. none-before (is_next c) d es k (none-found (is_next c) es n) l)

  pub bumped-at : (es : List (Entry N)) (c : ℤ) (k : ℕ) (d : Entry N) → least_count es ≡ Some c → position (is_next c) es ≡ Some k →
      (let s : Step N = record { written = get_or es k d ∷ []; entries = left_at es k } in bumped es ≡ s)
  unfolding bumped
  bumped-at es c k d h n = let p = position-Some (is_next c) es k d n in ap (λ o. written_by o es) h ∙ written_at-is c es k d p.0 p.1 p.2

  pub leave-kept : (es ys zs ws : List (Entry N)) (k : ℕ) (d : Entry N) → ys ≡ es → zs ≡ es → ws ≡ set zs k (record (get_or ys k d) { waiting = false }) →
      k < length es → (get_or ys k d).reference ≡ true → refill (length es) es ws ≡ left_at es k
  leave-kept es ys zs ws k d p q w h r =
      let w' : ws ≡ set es k (record (get_or es k d) { waiting = false }) = w ∙ rw (p, q) refl in
      let r' : (get_or es k d).reference ≡ true = rw p at r in
      let l : length ws ≡ length es = ap (λ (xs : List (Entry N)). length xs) w' ∙ length-set es k _ in
      refilled (length es) es ws l l ∙ w' ∙ sym (left_at-kept es k d h r')

  pub leave-removed : (es ys : List (Entry N)) (k : ℕ) (d : Entry N) → ys ≡ es → k < length es → (get_or ys k d).reference ≡ false → remove es k ≡ left_at es k
  leave-removed es ys k d p h r = let r' : (get_or es k d).reference ≡ false = rw p at r in sym (left_at-removed es k d h r')

  -- the same from what the code found
  pub idle-by : (es ys : List (Entry N)) (o : Option ℤ) → o ≡ least_count ys → ys ≡ es → o ≡ None → bumped es ≡ leaves es
  idle-by es ys o e y n = bumped-idle es (ap (λ (l : List (Entry N)). least_count l) (sym y) ∙ sym e ∙ n)

  pub none-by : (es ys zs : List (Entry N)) (o : Option ℤ) (q : Option ℕ) (c : ℤ) (d : Entry N) → o ≡ least_count ys → ys ≡ es → o ≡ Some c →
      q ≡ position (is_next c) zs → zs ≡ es → q ≡ None → bumped es ≡ leaves es
  none-by es ys zs o q c d e y s f z n = bumped-none es c d (ap (λ (l : List (Entry N)). least_count l) (sym y) ∙ sym e ∙ s)
      (ap (λ (l : List (Entry N)). position (is_next c) l) (sym z) ∙ sym f ∙ n)

  pub found-by : (es zs ws : List (Entry N)) (q : Option ℕ) (c : ℤ) (k : ℕ) (d : Entry N) → q ≡ position (is_next c) zs → zs ≡ es → q ≡ Some k → ws ≡ es →
      (k < length es) × (is_next c (get_or es k d) ≡ true) × (get_or ws k d ≡ get_or es k d)
  found-by es zs ws q c k d f z n w = let p = position-Some (is_next c) es k d (ap (λ (l : List (Entry N)). position (is_next c) l) (sym z) ∙ sym f ∙ n) in
      (p.0, p.1, ap (λ (l : List (Entry N)). get_or l k d) w)

  pub at-by : (es ys zs ws : List (Entry N)) (o : Option ℤ) (q : Option ℕ) (c : ℤ) (k : ℕ) (d : Entry N) → o ≡ least_count ys → ys ≡ es → o ≡ Some c →
      q ≡ position (is_next c) zs → zs ≡ es → q ≡ Some k → ws ≡ es →
      (let s : Step N = record { written = get_or ws k d ∷ []; entries = left_at es k } in bumped es ≡ s)
  at-by es ys zs ws o q c k d e y s f z n w =
      bumped-at es c k d (ap (λ (l : List (Entry N)). least_count l) (sym y) ∙ sym e ∙ s)
      (ap (λ (l : List (Entry N)). position (is_next c) l) (sym z) ∙ sym f ∙ n)
      ∙ ap (λ (l : List (Entry N)). (let s : Step N = record { written = get_or l k d ∷ []; entries = left_at es k } in s)) (sym w)
