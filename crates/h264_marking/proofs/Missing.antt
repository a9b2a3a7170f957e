-- The missing numbers before a picture follow one another from PrevRefFrameNum to frame_num.
use Rattle.std.proofs.Common.{◌≡◌, ◌≢◌, ℕ, zero, suc, ◌+◌, ◌-◌, ◌%◌, ◌<◌, ◌≤◌, nat_le, eq-eqb, ◌⊎◌, inl, inr, [], ◌==◌, false, true, Bool}
use Rattle.std.proofs.Common.{if◌then◌else◌, refl, ap, sym, ◌∙◌, subst, arith}
use Rattle.std.proofs.Math.Nat.{add-mod_left, mod-eq_of_lt, mod_self, eq-or-lt_of_le}
use Rattle.std.proofs.Math.Numerals.{lt_of_le_of_ne}
use Rattle.std.proofs.lemmas.Bool.{leb-true, leb-false}
use Rattle.h264_marking.specs.declared.frame.Numbering.{Numbering}
use Rattle.h264_marking.specs.Gaps.{numbers_from, gap_before, unused_short_term_frame_nums, last_or}
use Rattle.h264_marking.specs.Unused.{Succeed, Avoid, IsGap}
use Rattle.h264_base.proofs.Plain.{differs}

-- the number after another
module _ (m : ℕ) where
  abbrev pub Following : ℕ → Type 0
  Following q = (((q + 1) % m ≡ q + 1) × (q + 1 < m)) ⊎ (((q + 1) % m ≡ 0) × (q + 1 ≡ m))

  after-by : (q : ℕ) → (q + 1 ≡ m) ⊎ (q + 1 < m) → Following q
  after-by q (inl e) = inr (ap (λ x. x % m) e ∙ mod_self m, e)
  after-by q (inr l) = inl (mod-eq_of_lt l, l)

  pub following : (q : ℕ) → q < m → Following q
  following q h = after-by q (eq-or-lt_of_le (le q h))
    where
      le : (q : ℕ) → q < m → q + 1 ≤ m
      le q h = omega (arith, h)

  module _ (p f : ℕ) (in-range : p < m) (f-in : f < m) where
    -- i numbers after p, with k numbers left before f
    pub record Stands (q i k : ℕ) : Type 0 where
      pub within : q < m
      pub few : i + k + 1 < m + 1
      pub from : (q ≡ p + i) ⊎ (q + m ≡ p + i)
      pub to : (q + k + 1 ≡ f) ⊎ (q + k + 1 ≡ f + m)

    step-by : (q i k : ℕ) → Stands q i (suc k) → Following q → Stands ((q + 1) % m) (suc i) k
    step-by q i k s (inl b) = subst (λ x. Stands x (suc i) k) (sym b.0)
        (record { within = b.1; few = few-on i k s.few; from = from-on s.from; to = to-on s.to })
      where
        few-on : (i k : ℕ) → i + suc k + 1 < m + 1 → suc i + k + 1 < m + 1
        few-on i k h = omega (arith, h)

        from-on : (q ≡ p + i) ⊎ (q + m ≡ p + i) → (q + 1 ≡ p + suc i) ⊎ (q + 1 + m ≡ p + suc i)
        from-on (inl e) = inl (omega (arith, e))
        from-on (inr e) = inr (omega (arith, e))

        to-on : (q + suc k + 1 ≡ f) ⊎ (q + suc k + 1 ≡ f + m) → (q + 1 + k + 1 ≡ f) ⊎ (q + 1 + k + 1 ≡ f + m)
        to-on (inl e) = inl (omega (arith, e))
        to-on (inr e) = inr (omega (arith, e))
    step-by q i k s (inr b) = subst (λ x. Stands x (suc i) k) (sym b.0)
        (record { within = omega (arith, in-range); few = few-on i k s.few; from = from-on s.from; to = to-on s.to })
      where
        few-on : (i k : ℕ) → i + suc k + 1 < m + 1 → suc i + k + 1 < m + 1
        few-on i k h = omega (arith, h)

        from-on : (q ≡ p + i) ⊎ (q + m ≡ p + i) → (0 ≡ p + suc i) ⊎ (0 + m ≡ p + suc i)
        from-on (inl e) = inr (let c : q + 1 ≡ m = b.1 in omega (arith, e, c))
        from-on (inr e) = absurd (let c : q + 1 ≡ m = b.1 in let h : i + suc k + 1 < m + 1 = s.few in omega (arith, e, c, h, in-range))

        to-on : (q + suc k + 1 ≡ f) ⊎ (q + suc k + 1 ≡ f + m) → (0 + k + 1 ≡ f) ⊎ (0 + k + 1 ≡ f + m)
        to-on (inl e) = absurd (let c : q + 1 ≡ m = b.1 in omega (arith, e, c, f-in))
        to-on (inr e) = inl (let c : q + 1 ≡ m = b.1 in omega (arith, e, c))

    pub step : (q i k : ℕ) → Stands q i (suc k) → Stands ((q + 1) % m) (suc i) k
    step q i k s = step-by q i k s (following q s.within)

    not-p : (q i k : ℕ) → Stands q (suc i) k → q ≢ p
    not-p q i k s e = by s.from
      where
        by : (q ≡ p + suc i) ⊎ (q + m ≡ p + suc i) → ⊥
        by (inl d) = omega (arith, e, d)
        by (inr d) = let h : suc i + k + 1 < m + 1 = s.few in omega (arith, e, d, h)

    pub not-f : (q i k : ℕ) → Stands q (suc i) k → q ≢ f
    not-f q i k s e = by s.to
      where
        by : (q + k + 1 ≡ f) ⊎ (q + k + 1 ≡ f + m) → ⊥
        by (inl d) = omega (arith, e, d)
        by (inr d) = let h : suc i + k + 1 < m + 1 = s.few in omega (arith, e, d, h)

    succeeds : (q k : ℕ) → Succeed m q (numbers_from k ((q + 1) % m) m)
    succeeds q zero = tt
    succeeds q (suc k) = (refl, succeeds ((q + 1) % m) k)

    pub avoids : (q i k : ℕ) → Stands q i k → Avoid p f (numbers_from k ((q + 1) % m) m)
    avoids q i zero s = tt
    avoids q i (suc k) s = let t = step q i k s in (not-p ((q + 1) % m) i k t, not-f ((q + 1) % m) i k t, avoids ((q + 1) % m) (suc i) k t)

    pub ends : (q i k : ℕ) → Stands q i k → f ≡ (last_or q (numbers_from k ((q + 1) % m) m) + 1) % m
    ends q i zero s = by (following q s.within) s.to
      where
        by : Following q → (q + 0 + 1 ≡ f) ⊎ (q + 0 + 1 ≡ f + m) → f ≡ (q + 1) % m
        by (inl b) (inl d) = let e : f ≡ q + 1 = omega (arith, d) in e ∙ sym b.0
        by (inl b) (inr d) = absurd (let l : q + 1 < m = b.1 in omega (arith, d, l))
        by (inr b) (inl d) = absurd (let c : q + 1 ≡ m = b.1 in omega (arith, d, c, f-in))
        by (inr b) (inr d) = let c : q + 1 ≡ m = b.1 in let e : f ≡ 0 = omega (arith, d, c) in e ∙ sym b.0
    ends q i (suc k) s = ends ((q + 1) % m) (suc i) k (step q i k s)

    -- how many numbers are missing
    pub starts : (g : ℕ) → g ≡ (f + m - (p + 1)) % m → f ≢ p → Stands p 0 g
    starts g e n = by (f - (p + 1)) refl (lt-cases f p n)
      where
        lt-by : (f p : ℕ) → f ≢ p → (b : Bool) → nat_le f p ≡ b → (p < f) ⊎ (f < p)
        lt-by f p n true e = inr (lt_of_le_of_ne (leb-true f p e) n)
        lt-by f p n false e = inl (leb-false f p e)

        lt-cases : (f p : ℕ) → f ≢ p → (p < f) ⊎ (f < p)
        lt-cases f p n = lt-by f p n (nat_le f p) refl

        by : (d : ℕ) → d ≡ f - (p + 1) → (p < f) ⊎ (f < p) → Stands p 0 g
        by d c (inl l) =
            let a : f + m - (p + 1) ≡ m + d = omega (arith, c, l) in
            let b : d < m = omega (arith, c, f-in) in
            let h : g ≡ d = e ∙ ap (λ x. x % m) a ∙ add-mod_left m d ∙ mod-eq_of_lt b in
            record { within = in-range; few = omega (arith, h, b); from = inl (omega arith); to = inl (omega (arith, h, c, l)) }
        by d c (inr l) =
            let b : f + m - (p + 1) < m = omega (arith, l) in
            let h : g ≡ f + m - (p + 1) = e ∙ mod-eq_of_lt b in
            record { within = in-range; few = omega (arith, h, b); from = inl (omega arith); to = inr (omega (arith, h, in-range)) }

    pub gap-by : (g : ℕ) → Stands p 0 g → (n : Numbering) → n.frame_num ≡ f → n.max_frame_num ≡ m → IsGap p n (numbers_from g ((p + 1) % m) m)
    gap-by g s n e h = record {
      succeed = subst (λ x. Succeed x p (numbers_from g ((p + 1) % m) m)) (sym h) (succeeds p g);
      ends = e ∙ ends p 0 g s ∙ ap (λ x. (last_or p (numbers_from g ((p + 1) % m) m) + 1) % x) (sym h);
      avoid = subst (λ x. Avoid p x (numbers_from g ((p + 1) % m) m)) (sym e) (avoids p 0 g s);
    }

pub is-gap : (prev : ℕ) (n : Numbering) → prev < n.max_frame_num → n.frame_num < n.max_frame_num → n.frame_num ≢ prev →
    IsGap prev n (unused_short_term_frame_nums false prev n)
is-gap prev n p f ne =
    let g : gap_before false prev n ≡ (n.frame_num + n.max_frame_num - (prev + 1)) % n.max_frame_num =
    ap (λ b. if b then 0 else (n.frame_num + n.max_frame_num - (prev + 1)) % n.max_frame_num) (differs n.frame_num prev ne) in
    gap-by n.max_frame_num prev n.frame_num p f (gap_before false prev n) (starts n.max_frame_num prev n.frame_num p f (gap_before false prev n) g ne) n refl
    refl

pub no-gap : (prev : ℕ) (n : Numbering) → n.frame_num ≡ prev → unused_short_term_frame_nums false prev n ≡ []
no-gap prev n e = ap (λ b. numbers_from (if b then 0 else (n.frame_num + n.max_frame_num - (prev + 1)) % n.max_frame_num) ((prev + 1) % n.max_frame_num)
    n.max_frame_num) (eq-eqb n.frame_num prev e)
