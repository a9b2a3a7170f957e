-- What was reached so far carries on when the coded picture grows.
use Rattle.std.proofs.Common.{◌≡◌, ℕ, ◌+◌, ◌*◌, ◌<◌, ◌≤◌, Bool, ap, sym, ◌∙◌, arith, ◌⊎◌, inl, inr, ⊎_elim}
use Rattle.std.proofs.lemmas.Nat.{mul-le}
use Rattle.std.proofs.lemmas.Bool.{cases_lt}
use Rattle.h264_plane.specs.declared.frame.Component.{Component}
use Rattle.h264_deblock.specs.Edge.{lines_of}
use Rattle.h264_plane.specs.Places.{side}
use Rattle.h264_recon.specs.Inter.{Setting}
use Rattle.h264_recon.specs.Constructed.{Coded, window, IsMade, IsWithin, IsPossible}
use Rattle.h264_plane.specs.Places.{Agree}
use Rattle.h264_plane.proofs.Raster.{raster, or_in, wrap_before}
use Rattle.h264_plane.proofs.Raster.{side_least}
use Rattle.h264_recon.proofs.Unique.{made_by_same, sides_before}
use Rattle.h264_deblock.specs.Filtering.{PlaneEdges, edges_done, filtered_by, unfiltered}
use Rattle.h264_deblock.specs.Filtering.{Fits}
use Rattle.h264_deblock.proofs.Macroblocks.{fresh, local_step, first_macroblock, next_macroblock, next_row}

-- ---- places

pub in-order : (w c r d s : ℕ) → c < w → d < w → r * w + c < s * w + d → (r < s) ⊎ ((r ≡ s) × (c < d))
in-order w c r d s k l h = ⊎_elim
    (λ (q : r < s). inl q)
    (λ (q : s ≤ r). ⊎_elim
    (λ (z : s < r). let m = mul-le (s + 1) w r w (omega arith) (omega arith) in absurd (omega arith))
    (λ (z : r ≤ s). let e : r ≡ s = omega arith in let same = ap (λ n. n * w) e in inr (e, omega arith))
    (cases_lt s r))
    (cases_lt r s)

-- samples that agree before a macroblock agree before an earlier one, and in it
pub agree-earlier : (n w c r d s : ℕ) (u v : ℕ → ℕ → ℕ) → c < w → d < w → r * w + c < s * w + d → Agree n w d s u v → Agree n w (c + 1) r u v
agree-earlier n w c r d s u v k l h agree = record {
  each = λ x y i b. agree.each x y i (⊎_elim
      (λ (q : r < s).
      let m = mul-le n (r + 1) n s (omega arith) (omega arith) in
      inl (⊎_elim (λ (z : y < n * r). omega arith) (λ z. omega (arith, z.0)) b))
      (λ q.
      let e = ap (λ k. n * k) q.0 in
      let m = mul-le n (c + 1) n d (omega arith) (omega (arith, q.1)) in
      ⊎_elim (λ (z : y < n * r). inl (omega arith)) (λ z. inr (omega (arith, z.0), omega (arith, z.1))) b)
      (in-order w c r d s k l h));
}

-- ---- the equations of one macroblock, over samples that agree with others up to it

pub made-carries : (k : Setting) (c r : ℕ) (m : Coded) (u v : Component → ℕ → ℕ → ℕ) → c < k.across → IsWithin m.available k.across c r →
    IsPossible m.prediction m.available →
    ((p : Component) → Agree (side p) k.across (c + 1) r (u p) (v p)) → IsMade k c r m u → IsMade k c r m v
made-carries k c r m u v inside within possible agree mu = record {
  each = λ p x y i j.
      let n = side p in
      let wide = mul-le (side p) (c + 1) (side p) k.across (omega arith) (omega arith) in
      let before : Agree (side p) k.across c r (u p) (v p) =
      record { each = λ a b q z. (agree p).each a b q (⊎_elim (λ l. inl l) (λ l. inr (l.0, omega (arith, l.1))) z) } in
      sym ((agree p).each (side p * c + x) (side p * r + y) (omega arith) (inr (omega arith, omega arith)))
      ∙ mu.each p x y i j
      ∙ made_by_same m.prediction k c r m p (window (side p) (u p) c r) (window (side p) (v p) c r) x y i j possible
      (sides_before (side p) k.across c r m.available (u p) (v p) (side_least p) inside within before)
      (record { each = λ a b d e f g h h' less. (agree p).each _ _ (omega arith) (inr (omega arith, omega arith)) });
}

-- ---- the filter depends on the edges of the macroblocks so far

pub record Same (w n : ℕ) (chroma : Bool) (e f : ℕ → PlaneEdges) (s : ℕ → ℕ → ℕ) (c r : ℕ) : Type 0 where
  pub each : ((a : ℕ) → a < r * w + c → e a ≡ f a) →
      Agree n w c r (filtered_by (r * w + c) (unfiltered w n chroma e s)) (filtered_by (r * w + c) (unfiltered w n chroma f s))

pub same-edges : (w h n : ℕ) (chroma : Bool) (e f : ℕ → PlaneEdges) (s : ℕ → ℕ → ℕ) → n ≡ lines_of chroma → 4 ≤ n → Fits w h e → Fits w h f →
    (c r : ℕ) → c ≤ w → r < h → Same w n chroma e f s c r
same-edges w h n chroma e f s en four fe ff c r i j =
    raster (Same w n chroma e f s) w h
    (record { each = λ q. record { each = λ x y k b. first_macroblock w n chroma e s x y ∙ sym (first_macroblock w n chroma f s x y) } })
    (λ c r k m d. record {
      each = λ q.
          let before = d.each (λ a l. q a (omega arith)) in
          let joined : Agree n w (c + 1) r (filtered_by (r * w + c) (unfiltered w n chroma e s)) (filtered_by (r * w + c) (unfiltered w n chroma f s)) =
          record {
            each = λ x y i b. ⊎_elim
                (λ z. before.each x y i z)
                (λ (a, (a', (b', b''))). (fresh w h n chroma e s en four fe c r (omega arith) m).each x y (b', inr a) ∙
                sym ((fresh w h n chroma f s en four ff c r (omega arith) m).each x y (b', inr a)))
                (or_in n c r x y b);
          } in
          local_step w n chroma (e (r * w + c)) (filtered_by (r * w + c) (unfiltered w n chroma e s)) (filtered_by (r * w + c) (unfiltered w n chroma f s)) _
          _ c r en four k (fe.each c r k m) joined
          (λ x y. next_macroblock w n chroma e s c r k x y)
          (λ x y. next_macroblock w n chroma f s c r k x y ∙
          ap (λ es. edges_done n chroma es c r (filtered_by (r * w + c) (unfiltered w n chroma f s)) x y) (sym (q (r * w + c) (omega arith))));
    })
    (λ r k d. record {
      each = λ q.
          let before = d.each (λ a l. q a (omega arith)) in
          record { each = λ x y i b. next_row w n chroma e s r x y ∙ before.each x y i (wrap_before n w r x y i b) ∙ sym (next_row w n chroma f s r x y) };
    })
    c r i j
