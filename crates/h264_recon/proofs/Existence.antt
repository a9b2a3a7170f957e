-- The equations have a solution: block by block in decoding order, macroblock by macroblock.
use Rattle.std.proofs.Common.{◌≡◌, ◌≢◌, ◌⊎◌, inl, inr, ⊎_elim, ℕ, zero, suc, ◌+◌, ◌-◌, ◌*◌, ◌/◌, ◌<◌, ◌≤◌, Bool, true, false, cond, ◌&&◌, nat_lt, arith, refl}
use Rattle.std.proofs.Common.{sym, ap, ◌∙◌}
use Rattle.std.specs.Prelude.{nat_eq}
use Rattle.std.proofs.lemmas.Bool.Decides.{nat_tests}
use Rattle.std.proofs.lemmas.Bool.{cases_lt, cond-true, cond-false}
use Rattle.std.proofs.lemmas.Nat.{mul-le}
use Rattle.h264_plane.specs.Blocks.{number_of}
use Rattle.h264_plane.specs.Places.{side, Before, Agree, with_own}
use Rattle.h264_plane.specs.declared.frame.Component.{Component}
use Rattle.h264_plane.proofs.Own.{moved, own_in, own_out}
use Rattle.h264_plane.proofs.Raster.{rows, side_least}
use Rattle.h264_recon.specs.Inter.{Setting, position_at}
use Rattle.h264_recon.specs.Around.{SidesAgree, BlocksAgree}
use Rattle.h264_recon.specs.Constructed.{Coded, window, made, IsMade, Constructed, IsPossible, IsAllowed}
use Rattle.h264_recon.specs.declared.macroblock.Available.{Available}
use Rattle.h264_recon.proofs.Unique.{made_by_same, IsMadeIn, side_most, sides_before, quotient}

-- ---- a macroblock, of which the samples s stand around it

-- whether a place seen from the macroblock is one of its block number b
abbrev test : ℕ → ℕ → ℕ → Bool
test b x y = nat_lt 0 x && nat_lt 0 y && nat_eq (number_of ((x - 1) / 4) ((y - 1) / 4)) b

-- its blocks before number b are constructed
abbrev built : ℕ → Setting → ℕ → ℕ → Coded → Component → (ℕ → ℕ → ℕ) → ℕ → ℕ → ℕ
built zero k c r m p s x y = s x y
built (suc b) k c r m p s x y = cond (test b x y) (made k (position_at c r) m p (built b k c r m p s) (x - 1) (y - 1)) (built b k c r m p s x y)

test_outer : (b x y : ℕ) → (x ≡ 0) ⊎ (y ≡ 0) → test b x y ≡ false
test_outer b x y (inl e) = rw e refl
test_outer b x y (inr e) = rw e (grind (arith, nat_tests))

-- the samples around it stay
outer : (b : ℕ) (k : Setting) (c r : ℕ) (m : Coded) (p : Component) (s : ℕ → ℕ → ℕ) (x y : ℕ) → (x ≡ 0) ⊎ (y ≡ 0) → built b k c r m p s x y ≡ s x y
outer zero k c r m p s x y out = refl
outer (suc b) k c r m p s x y out = cond-false _ _ _ (test_outer b x y out) ∙ outer b k c r m p s x y out

test_own : (b x y : ℕ) → number_of (x / 4) (y / 4) ≡ b → test b (x + 1) (y + 1) ≡ true
test_own b x y e =
    let column : x + 1 - 1 ≡ x = omega arith in
    let row : y + 1 - 1 ≡ y = omega arith in
    rw (column, row, e) (grind (arith, nat_tests))

test_other : (b x y : ℕ) → number_of (x / 4) (y / 4) ≢ b → test b (x + 1) (y + 1) ≡ false
test_other b x y n =
    let column : x + 1 - 1 ≡ x = omega arith in
    let row : y + 1 - 1 ≡ y = omega arith in
    rw (column, row) (grind (arith, nat_tests))

-- a block stays as it was constructed from those before it
stays : (n : ℕ) (k : Setting) (c r : ℕ) (m : Coded) (p : Component) (s : ℕ → ℕ → ℕ) (x y : ℕ) → number_of (x / 4) (y / 4) < n →
    built n k c r m p s (x + 1) (y + 1) ≡ made k (position_at c r) m p (built (number_of (x / 4) (y / 4)) k c r m p s) x y
stays zero k c r m p s x y less = absurd (omega arith)
stays (suc n) k c r m p s x y less = ⊎_elim
    (λ (earlier : number_of (x / 4) (y / 4) < n). cond-false _ _ _ (test_other n x y (λ e. absurd (omega (arith, e)))) ∙ stays n k c r m p s x y earlier)
    (λ (here : n ≤ number_of (x / 4) (y / 4)).
    let e : number_of (x / 4) (y / 4) ≡ n = omega arith in
    let column : x + 1 - 1 ≡ x = omega arith in
    let row : y + 1 - 1 ≡ y = omega arith in
    cond-true _ _ _ (test_own n x y e) ∙ ap (λ z. made k (position_at c r) m p (built n k c r m p s) z (y + 1 - 1)) column ∙
    ap (λ z. made k (position_at c r) m p (built n k c r m p s) x z) row
    ∙ ap (λ z. made k (position_at c r) m p (built z k c r m p s) x y) (sym e))
    (cases_lt (number_of (x / 4) (y / 4)) n)

sides_stay : (a b : ℕ) (k : Setting) (c r : ℕ) (m : Coded) (p : Component) (s : ℕ → ℕ → ℕ) →
    SidesAgree (side p) m.available (built a k c r m p s) (built b k c r m p s)
sides_stay a b k c r m p s = record {
  left = λ t q i. outer a k c r m p s 0 (q + 1) (inl refl) ∙ sym (outer b k c r m p s 0 (q + 1) (inl refl));
  above = λ t q i. outer a k c r m p s (q + 1) 0 (inr refl) ∙ sym (outer b k c r m p s (q + 1) 0 (inr refl));
  above_right = λ t q i. outer a k c r m p s (side p + q + 1) 0 (inr refl) ∙ sym (outer b k c r m p s (side p + q + 1) 0 (inr refl));
  corner = λ t. outer a k c r m p s 0 0 (inl refl) ∙ sym (outer b k c r m p s 0 0 (inl refl));
}

blocks_stay : (a b n : ℕ) (k : Setting) (c r : ℕ) (m : Coded) (p : Component) (s : ℕ → ℕ → ℕ) → n ≤ a → n ≤ b →
    BlocksAgree (side p) n (built a k c r m p s) (built b k c r m p s)
blocks_stay a b n k c r m p s f g = record {
  each = λ x y i j q q' d e less.
      let number : number_of ((4 * x + i) / 4) ((4 * y + j) / 4) < n = rw (quotient x i d, quotient y j e) less in
      stays a k c r m p s (4 * x + i) (4 * y + j) (omega arith) ∙ sym (stays b k c r m p s (4 * x + i) (4 * y + j) (omega arith));
}

few_blocks : (x y : ℕ) → x < 16 → y < 16 → number_of (x / 4) (y / 4) < 16
unfolding number_of
few_blocks x y p q = omega arith

-- all of them meet the equations
built_made : (k : Setting) (c r : ℕ) (m : Coded) (p : Component) (s : ℕ → ℕ → ℕ) → IsPossible m.prediction m.available →
    IsMadeIn k c r m p (built 16 k c r m p s)
built_made k c r m p s ok = record {
  each = λ x y i j.
      let most = side_most p in
      let b = number_of (x / 4) (y / 4) in
      let few = few_blocks x y (omega arith) (omega arith) in
      stays 16 k c r m p s x y few
      ∙ made_by_same m.prediction k c r m p (built b k c r m p s) (built 16 k c r m p s) x y i j ok (sides_stay b 16 k c r m p s)
      (blocks_stay b 16 b k c r m p s (omega arith) (omega arith));
}

-- ---- a picture with one macroblock more

-- the samples t, seen from the macroblock, in their places
abbrev placed : ℕ → ℕ → ℕ → (ℕ → ℕ → ℕ) → ℕ → ℕ → ℕ
placed n c r t x y = t (x - n * c + 1) (y - n * r + 1)

abbrev next : Setting → ℕ → ℕ → Coded → (Component → ℕ → ℕ → ℕ) → Component → ℕ → ℕ → ℕ
next k c r m u p = with_own (side p) c r (placed (side p) c r (built 16 k c r m p (window (side p) (u p) c r))) (u p)

next_before : (k : Setting) (c r : ℕ) (m : Coded) (u : Component → ℕ → ℕ → ℕ) (p : Component) → Agree (side p) k.across c r (u p) (next k c r m u p)
next_before k c r m u p = record {
  each =
      λ x y i b. sym (own_out (side p) c r (placed (side p) c r (built 16 k c r m p (window (side p) (u p) c r))) (u p) x y b);
}

next_own : (k : Setting) (c r : ℕ) (m : Coded) (u : Component → ℕ → ℕ → ℕ) (p : Component) (x y : ℕ) → x < side p → y < side p →
    next k c r m u p (side p * c + x) (side p * r + y) ≡ built 16 k c r m p (window (side p) (u p) c r) (x + 1) (y + 1)
next_own k c r m u p x y i j =
    own_in (side p) c r (placed (side p) c r (built 16 k c r m p (window (side p) (u p) c r))) (u p) x y i j
    ∙ moved (built 16 k c r m p (window (side p) (u p) c r)) (side p * c + x - side p * c + 1) (side p * r + y - side p * r + 1) (x + 1) (y + 1) (omega arith)
    (omega arith)

sides_over : (n : ℕ) (a : Available) (s t u : ℕ → ℕ → ℕ) → SidesAgree n a s t → SidesAgree n a t u → SidesAgree n a s u
sides_over n a s t u h g = record {
  left = λ t q i. h.left t q i ∙ g.left t q i;
  above = λ t q i. h.above t q i ∙ g.above t q i;
  above_right = λ t q i. h.above_right t q i ∙ g.above_right t q i;
  corner = λ t. h.corner t ∙ g.corner t;
}

next_made : (k : Setting) (c r : ℕ) (m : Coded) (u : Component → ℕ → ℕ → ℕ) → c < k.across → IsAllowed m k.across c r → IsMade k c r m (next k c r m u)
next_made k c r m u inside ok = record {
  each = λ p x y i j.
      let s = window (side p) (u p) c r in
      let t = built 16 k c r m p s in
      let v = next k c r m u p in
      next_own k c r m u p x y i j ∙ (built_made k c r m p s ok.possible).each x y i j
      ∙ made_by_same m.prediction k c r m p t (window (side p) v c r) x y i j ok.possible
      (sides_over (side p) m.available t s (window (side p) v c r) (sides_stay 16 0 k c r m p s)
      (sides_before (side p) k.across c r m.available (u p) v (side_least p) inside ok.within (next_before k c r m u p)))
      (record {
        each = λ a b d e f g h h' less.
            sym (next_own k c r m u p (4 * a + d) (4 * b + e) (omega arith) (omega arith))
            ∙ moved v _ _ (side p * c + (4 * a + d + 1) - 1) (side p * r + (4 * b + e + 1) - 1) (omega arith) (omega arith);
      });
}

-- ---- the macroblocks before it

abbrev IsEarlier : ℕ → ℕ → ℕ → ℕ → Type 0
IsEarlier c r d e = (e < r) ⊎ ((e ≡ r) × (d < c))

-- what comes before an earlier macroblock, and its own places, come before a later one
earlier_before : (n c r d e x y : ℕ) → IsEarlier c r d e → Before n d e x y → Before n c r x y
earlier_before n c r d e x y (inl less) (inl a) = let more = mul-le n e n r (omega arith) (omega arith) in inl (omega arith)
earlier_before n c r d e x y (inl less) (inr b) = let more = mul-le n (e + 1) n r (omega arith) (omega arith) in inl (omega (arith, b.0))
earlier_before n c r d e x y (inr same) (inl a) = let row = same.0 in inl (rw (sym row) a)
earlier_before n c r d e x y (inr same) (inr b) =
    let row = same.0 in
    let more = mul-le n d n c (omega arith) (omega (arith, same.1)) in
    inr (rw (sym row) b.0, omega (arith, b.1))

earlier_own : (n c r d e x y : ℕ) → IsEarlier c r d e → x < n → y < n → Before n c r (n * d + x) (n * e + y)
earlier_own n c r d e x y (inl less) i j = let more = mul-le n (e + 1) n r (omega arith) (omega arith) in inl (omega arith)
earlier_own n c r d e x y (inr same) i j =
    let row = same.0 in
    let more = mul-le n (d + 1) n c (omega arith) (omega (arith, same.1)) in
    inr (rw row (omega arith), omega arith)

agree_earlier : (n w c r d e : ℕ) (s t : ℕ → ℕ → ℕ) → IsEarlier c r d e → Agree n w c r s t → Agree n w d e s t
agree_earlier n w c r d e s t earlier agree = record { each = λ x y i b. agree.each x y i (earlier_before n c r d e x y earlier b) }

-- the equations of an earlier macroblock hold of samples that agree so far
carried : (k : Setting) (c r d e : ℕ) (m : Coded) (u v : Component → ℕ → ℕ → ℕ) → d < k.across → IsEarlier c r d e → IsAllowed m k.across d e →
    ((p : Component) → Agree (side p) k.across c r (u p) (v p)) → IsMade k d e m u → IsMade k d e m v
carried k c r d e m u v inside earlier ok agree mu = record {
  each = λ p x y i j.
      let wide = mul-le (side p) (d + 1) (side p) k.across (omega arith) (omega arith) in
      let own : (a b : ℕ) → a < side p → b < side p → u p (side p * d + a) (side p * e + b) ≡ v p (side p * d + a) (side p * e + b) =
      λ a b f g. (agree p).each (side p * d + a) (side p * e + b) (omega arith) (earlier_own (side p) c r d e a b earlier f g) in
      sym (own x y i j) ∙ mu.each p x y i j
      ∙ made_by_same m.prediction k d e m p (window (side p) (u p) d e) (window (side p) (v p) d e) x y i j ok.possible
      (sides_before (side p) k.across d e m.available (u p) (v p) (side_least p) inside ok.within
      (agree_earlier (side p) k.across c r d e (u p) (v p) earlier (agree p)))
      (record {
        each = λ a b f g h h' q q' less.
            moved (u p) _ _ (side p * d + (4 * a + f)) (side p * e + (4 * b + g)) (omega arith) (omega arith)
            ∙ own (4 * a + f) (4 * b + g) (omega arith) (omega arith)
            ∙ moved (v p) _ _ (side p * d + (4 * a + f + 1) - 1) (side p * e + (4 * b + g + 1) - 1) (omega arith) (omega arith);
      });
}

-- ---- all macroblocks

-- samples that meet the equations of the macroblocks before the one at column c and row r
pub record Solved (k : Setting) (macroblock : ℕ → Coded) (c r : ℕ) : Type 0 where
  pub samples : Component → ℕ → ℕ → ℕ
  pub made : (d e : ℕ) → d < k.across → IsEarlier c r d e → IsMade k d e (macroblock (e * k.across + d)) samples

abbrev AreAllowed : Setting → (ℕ → Coded) → Type 0
AreAllowed k macroblock = (c r : ℕ) → c < k.across → r < k.down → IsAllowed (macroblock (r * k.across + c)) k.across c r

solved_next : (k : Setting) (macroblock : ℕ → Coded) (c r : ℕ) → AreAllowed k macroblock → c < k.across → r < k.down → Solved k macroblock c r →
    Solved k macroblock (c + 1) r
solved_next k macroblock c r ok i j s = record {
  samples = next k c r (macroblock (r * k.across + c)) s.samples;
  made = λ d e f earlier. ⊎_elim
      (λ (before : IsEarlier c r d e).
      carried k c r d e (macroblock (e * k.across + d)) s.samples (next k c r (macroblock (r * k.across + c)) s.samples) f before
      (ok d e f (row_below d e before))
      (λ p. next_before k c r (macroblock (r * k.across + c)) s.samples p) (s.made d e f before))
      (λ same. rw (same.0, same.1) (next_made k c r (macroblock (r * k.across + c)) s.samples i (ok c r i j)))
      (here_or_before d e earlier);
}
  where
    row_below : (d e : ℕ) → IsEarlier c r d e → e < k.down
    row_below d e (inl less) = omega arith
    row_below d e (inr same) = let row = same.0 in omega arith

    here_or_before : (d e : ℕ) → IsEarlier (c + 1) r d e → (IsEarlier c r d e) ⊎ ((d ≡ c) × (e ≡ r))
    here_or_before d e (inl less) = inl (inl less)
    here_or_before d e (inr same) = ⊎_elim (λ (less : d < c). inl (inr (same.0, less))) (λ (last : c ≤ d). inr (omega (arith, same.1), same.0)) (cases_lt d c)

solved_row : (k : Setting) (macroblock : ℕ → Coded) (r : ℕ) → Solved k macroblock k.across r → Solved k macroblock 0 (r + 1)
solved_row k macroblock r s = record {
  samples = s.samples;
  made = λ d e f earlier. s.made d e f (⊎_elim
      (λ (less : e < r + 1). ⊎_elim (λ (above : e < r). inl above) (λ (here : r ≤ e). inr (omega arith, f)) (cases_lt e r))
      (λ same. absurd (omega (arith, same.1))) earlier);
}

-- a picture
pub some_picture : (k : Setting) (macroblock : ℕ → Coded) → AreAllowed k macroblock → (u : Component → ℕ → ℕ → ℕ) × Constructed k macroblock u
some_picture k macroblock ok =
    let all = rows (λ c r. Solved k macroblock c r) k.across k.down
    (record { samples = λ p x y. 0; made = λ d e f earlier. absurd (⊎_elim (λ (less : e < 0). omega arith) (λ same. omega (arith, same.1)) earlier) })
    (λ c r i j s. solved_next k macroblock c r ok i j s) (λ r j s. solved_row k macroblock r s) k.down (omega arith) in
    (all.samples, record { each = λ c r i j. all.made c r i (inl j) })
