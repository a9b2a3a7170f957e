-- The place of a picture, by its number.
use Rattle.std.proofs.Common.{◌≡◌, ℕ, ◌+◌, ◌<◌, ◌≤◌, ◌==◌, Bool, true, false, List, [], ◌∷◌, Option, Some, None, refl, ap, ◌∙◌, arith, eqb-true, if◌then◌else◌}
use Rattle.std.specs.Prelude.{IfSome}
use Rattle.h264_plane.specs.declared.frame.Frame.{Frame}
use Rattle.h264_dpb.specs.declared.entry.Entry.{Entry}
use Rattle.h264_dpb.specs.declared.entry.Placed.{Placed}
use Rattle.h264_dpb.specs.Numbered.{AreRising, number_of, is_taken, place_in}
use Rattle.h264_dpb.specs.Kept.{Each, IsAtPlace}
use Rattle.h264_dpb.proofs.Truths.{is-same, true-or, or-true}

lent-if : (frames : ℕ → Frame) (lent : ℕ → Option Frame) (e : Entry Placed) (n : ℕ) (rest : Option ℕ) (b : Bool) → (e.of.picture == n) ≡ b →
    IsAtPlace frames lent e.of → IfSome rest (λ place. lent place ≡ Some (frames n)) →
    IfSome (if b then Some e.of.place else rest) (λ place. lent place ≡ Some (frames n))
lent-if frames lent e n rest true h a r = a.0 ∙ ap (λ (k : ℕ). Some (frames k)) (eqb-true e.of.picture n h)
lent-if frames lent e n rest false h a r = r

pub lent-at : (frames : ℕ → Frame) (lent : ℕ → Option Frame) (es : List (Entry Placed)) (n : ℕ) → Each (IsAtPlace frames lent) es →
    IfSome (place_in es n) (λ place. lent place ≡ Some (frames n))
lent-at frames lent [] n h = tt
lent-at frames lent (e ∷ es) n h = lent-if frames lent e n (place_in es n) (e.of.picture == n) refl h.0 (lent-at frames lent es n h.1)

pub rising-high : (low high : ℕ) (es : List (Entry Placed)) → AreRising number_of low es high → low ≤ high
rising-high low high [] h = h
rising-high low high (e ∷ es) h = let k = rising-high (e.of.picture + 1) high es h.1 in let l = h.0 in omega (arith, k, l)

early-if : (high : ℕ) (e : Entry Placed) (n : ℕ) (rest : Option ℕ) (b : Bool) → (e.of.picture == n) ≡ b → e.of.picture + 1 ≤ high →
    IfSome rest (λ place. n < high) → IfSome (if b then Some e.of.place else rest) (λ place. n < high)
early-if high e n rest true h l r = let k = eqb-true e.of.picture n h in omega (arith, k, l)
early-if high e n rest false h l r = r

pub early-at : (low high : ℕ) (es : List (Entry Placed)) (n : ℕ) → AreRising number_of low es high → IfSome (place_in es n) (λ place. n < high)
early-at low high [] n h = tt
early-at low high (e ∷ es) n h = early-if high e n (place_in es n) (e.of.picture == n) refl (rising-high (e.of.picture + 1) high es h.1)
    (early-at (e.of.picture + 1) high es n h.1)

taken-if : (e : Entry Placed) (es : List (Entry Placed)) (n : ℕ) (rest : Option ℕ) (b : Bool) → IfSome rest (λ place. is_taken es place ≡ true) →
    IfSome (if b then Some e.of.place else rest) (λ place. is_taken (e ∷ es) place ≡ true)
taken-if e es n rest true r = true-or _ _ (is-same e.of.place)
taken-if e es n None false r = tt
taken-if e es n (Some place) false r = or-true (e.of.place == place) (is_taken es place) r

pub taken-at : (es : List (Entry Placed)) (n : ℕ) → IfSome (place_in es n) (λ place. is_taken es place ≡ true)
taken-at [] n = tt
taken-at (e ∷ es) n = taken-if e es n (place_in es n) (e.of.picture == n) (taken-at es n)
