-- Emptying writes all that wait.
use Rattle.std.proofs.Common.{◌≡◌, ℕ, zero, suc, ◌+◌, ◌≤◌, inl, inr, Bool, true, false, Option, Some, None, List, [], ◌∷◌, length, cond, refl, ap, sym, ◌∙◌}
use Rattle.std.proofs.Common.{subst, arith, ℤ, if◌then◌else◌}
use Rattle.std.specs.Prelude.{nat_lt}
use Rattle.std.proofs.lemmas.Bool.Decides.{nat_tests}
use Rattle.h264_dpb.specs.declared.entry.Entry.{Entry}
use Rattle.h264_dpb.specs.Bumping.{Step, is_next, least_with, least_count, written_at, written_by, bumped, made_room, emptied, flushed}
use Rattle.h264_dpb.proofs.Out.{chosen}
use Rattle.h264_dpb.proofs.Least.{Has, has-least}
use Rattle.h264_dpb.specs.Kept.{waiting_in}
use Rattle.h264_dpb.proofs.Counting.{waiting-cons, counts-made_room, counts-bumped}

not-below : (m : ℕ) → nat_lt m 0 ≡ false
not-below m = grind (arith, nat_tests)

module _ {N : Type 0} where
  few-waiting : (es : List (Entry N)) → waiting_in es ≤ length es
  few-waiting [] = omega arith
  few-waiting (e ∷ es) = by e.waiting refl (waiting-cons e es) (few-waiting es)
    where
      by : (b : Bool) → e.waiting ≡ b → waiting_in (e ∷ es) ≡ cond e.waiting 1 0 + waiting_in es → waiting_in es ≤ length es →
          waiting_in (e ∷ es) ≤ suc (length es)
      by true t w h = let v : waiting_in (e ∷ es) ≡ 1 + waiting_in es = w ∙ ap (λ b. cond b 1 0 + waiting_in es) t in omega (arith, v, h)
      by false t w h = let v : waiting_in (e ∷ es) ≡ 0 + waiting_in es = w ∙ ap (λ b. cond b 1 0 + waiting_in es) t in omega (arith, v, h)

  none-waits : (es : List (Entry N)) → least_count es ≡ None → waiting_in es ≡ 0
  none-waits [] h = refl
  none-waits (e ∷ es) h = by e.waiting refl h (waiting-cons e es) (none-waits es)
    where
      by : (w : Bool) → e.waiting ≡ w → (if w then Some (least_with e.count (least_count es)) else least_count es) ≡ None →
          waiting_in (e ∷ es) ≡ cond e.waiting 1 0 + waiting_in es → (least_count es ≡ None → waiting_in es ≡ 0) → waiting_in (e ∷ es) ≡ 0
      by true t h v k = cc
      by false t h v k = let j = k h in let u : waiting_in (e ∷ es) ≡ 0 + waiting_in es = v ∙ ap (λ b. cond b 1 0 + waiting_in es) t in omega (arith, j, u)

  one-written : (c : ℤ) (es : List (Entry N)) → Has c es → length (written_at c es).written ≡ 1
  one-written c [] h = absurd h
  one-written c (e ∷ es) h = by (is_next c e) refl h (one-written c es)
    where
      by : (b : Bool) → is_next c e ≡ b → Has c (e ∷ es) → (Has c es → length (written_at c es).written ≡ 1) → length (written_at c (e ∷ es)).written ≡ 1
      by true n h k = ap (λ (s : Step N). length s.written) (chosen (is_next c e) true _ _ n)
      by false n (inl h) k = let bad : true ≡ false = sym h ∙ n in cc
      by false n (inr h) k = ap (λ (s : Step N). length s.written) (chosen (is_next c e) false _ _ n) ∙ k h

  -- one output less waits, if any does
  fewer-wait : (n : ℕ) (es : List (Entry N)) → waiting_in es ≤ suc n → waiting_in (bumped es).entries ≤ n
  unfolding bumped
  fewer-wait n es h = by (least_count es) refl
    where
      by : (o : Option ℤ) → least_count es ≡ o → waiting_in (written_by (least_count es) es).entries ≤ n
      by None l = subst (λ (o : Option ℤ). waiting_in (written_by o es).entries ≤ n) (sym l) (let z = none-waits es l in omega (arith, z))
      by (Some c) l =
          let one = one-written c es (has-least es c l) in
          let all : length (written_by (least_count es) es).written + waiting_in (written_by (least_count es) es).entries ≡ waiting_in es = counts-of es in
          let same : length (written_by (least_count es) es).written ≡ length (written_at c es).written =
          ap (λ (o : Option ℤ). length (written_by o es).written) l in
          omega (arith, one, all, same, h)
        where
          counts-of : (es : List (Entry N)) → length (written_by (least_count es) es).written + waiting_in (written_by (least_count es) es).entries ≡
              waiting_in es
          counts-of es = counts-bumped es

  drained : (n : ℕ) (es : List (Entry N)) → waiting_in es ≤ n → waiting_in (made_room n 0 es).entries ≡ 0
  unfolding made_room
  drained zero es h = omega (arith, h)
  drained (suc n) es h =
      ap (λ (s : Step N). waiting_in s.entries) (chosen (nat_lt (length es) 0) false _ _ (not-below (length es)))
      ∙ drained n (bumped es).entries (fewer-wait n es h)

  pub all-written : (es : List (Entry N)) → length (flushed true es).written ≡ waiting_in es
  unfolding flushed emptied
  all-written es =
      let all = counts-made_room (length es) 0 es in
      let none = drained (length es) es (few-waiting es) in
      omega (arith, all, none)
