-- Each frame of the buffer waits or is used for reference.
use Rattle.std.proofs.Common.{◌≡◌, ℕ, zero, suc, Bool, true, false, Option, Some, None, List, [], ◌∷◌, ◌++◌, length, refl, sym, ◌∙◌, subst, ℤ}
use Rattle.std.specs.Prelude.{nat_lt}
use Rattle.h264_dpb.specs.declared.entry.Entry.{Entry}
use Rattle.h264_dpb.specs.Bumping.{Step, is_next, is_below, is_in_use, least_count, left_of, written_at, written_by, bumped, made_room, placed}
use Rattle.h264_dpb.specs.Bumping.{stored_reference, stored_other}
use Rattle.h264_dpb.specs.Buffered.{AreUsed}
use Rattle.h264_dpb.proofs.Out.{chosen}

module _ {N : Type 0} where
  used-left : (e : Entry N) (es : List (Entry N)) (b : Bool) → e.reference ≡ b → AreUsed es → AreUsed (left_of e ++ es)
  used-left e es true r h = subst (λ (l : List (Entry N)). AreUsed (l ++ es)) (sym (chosen e.reference true _ _ r)) (r, h)
  used-left e es false r h = subst (λ (l : List (Entry N)). AreUsed (l ++ es)) (sym (chosen e.reference false _ _ r)) h

  used-turn : (c : ℤ) (e : Entry N) (es : List (Entry N)) (b : Bool) → is_next c e ≡ b → is_in_use e ≡ true → AreUsed es → AreUsed (written_at c es).entries →
      AreUsed (written_at c (e ∷ es)).entries
  used-turn c e es true n o h r = subst (λ (s : Step N). AreUsed s.entries) (sym (chosen (is_next c e) true _ _ n)) (used-left e es e.reference refl h)
  used-turn c e es false n o h r = subst (λ (s : Step N). AreUsed s.entries) (sym (chosen (is_next c e) false _ _ n)) (o, r)

  used-written_at : (c : ℤ) (es : List (Entry N)) → AreUsed es → AreUsed (written_at c es).entries
  used-written_at c [] h = tt
  used-written_at c (e ∷ es) h = used-turn c e es (is_next c e) refl h.0 h.1 (used-written_at c es h.1)

  used-written_by : (o : Option ℤ) (es : List (Entry N)) → AreUsed es → AreUsed (written_by o es).entries
  used-written_by None es h = h
  used-written_by (Some c) es h = used-written_at c es h

  used-bumped : (es : List (Entry N)) → AreUsed es → AreUsed (bumped es).entries
  unfolding bumped
  used-bumped es h = used-written_by (least_count es) es h

  used-room-turn : (n places : ℕ) (es : List (Entry N)) (b : Bool) → nat_lt (length es) places ≡ b → AreUsed es →
      ((es' : List (Entry N)) → AreUsed es' → AreUsed (made_room n places es').entries) → AreUsed (made_room (suc n) places es).entries
  unfolding made_room
  used-room-turn n places es true t h k = subst (λ (s : Step N). AreUsed s.entries) (sym (chosen (nat_lt (length es) places) true _ _ t)) h
  used-room-turn n places es false t h k =
      subst (λ (s : Step N). AreUsed s.entries) (sym (chosen (nat_lt (length es) places) false _ _ t)) (k (bumped es).entries (used-bumped es h))

  pub used-made_room : (n places : ℕ) (es : List (Entry N)) → AreUsed es → AreUsed (made_room n places es).entries
  unfolding made_room
  used-made_room zero places es h = h
  used-made_room (suc n) places es h = used-room-turn n places es (nat_lt (length es) places) refl h (used-made_room n places)

  used-joins : (e : Entry N) (es : List (Entry N)) → is_in_use e ≡ true → AreUsed es → AreUsed (es ++ e ∷ [])
  used-joins e [] r h = (r, tt)
  used-joins e (x ∷ es) r h = (h.0, used-joins e es r h.1)

  used-placed-turn : (n places : ℕ) (e : Entry N) (es : List (Entry N)) (a b : Bool) → nat_lt (length es) places ≡ a → is_below e.count (least_count es) ≡ b →
      is_in_use e ≡ true → AreUsed es →
      ((es' : List (Entry N)) → AreUsed es' → AreUsed (placed n places e es').entries) → AreUsed (placed (suc n) places e es).entries
  unfolding placed
  used-placed-turn n places e es true b t u r h k =
      subst (λ (s : Step N). AreUsed s.entries) (sym (chosen (nat_lt (length es) places) true _ _ t)) (used-joins e es r h)
  used-placed-turn n places e es false true t u r h k =
      subst (λ (s : Step N). AreUsed s.entries) (sym (chosen (nat_lt (length es) places) false _ _ t ∙ chosen (is_below e.count (least_count es)) true _ _ u)) h
  used-placed-turn n places e es false false t u r h k =
      subst (λ (s : Step N). AreUsed s.entries)
      (sym (chosen (nat_lt (length es) places) false _ _ t ∙ chosen (is_below e.count (least_count es)) false _ _ u))
      (k (bumped es).entries (used-bumped es h))

  used-placed-last : (places : ℕ) (e : Entry N) (es : List (Entry N)) (a : Bool) → nat_lt (length es) places ≡ a → is_in_use e ≡ true → AreUsed es →
      AreUsed (placed 0 places e es).entries
  unfolding placed
  used-placed-last places e es true t r h =
      subst (λ (s : Step N). AreUsed s.entries) (sym (chosen (nat_lt (length es) places) true _ _ t)) (used-joins e es r h)
  used-placed-last places e es false t r h = subst (λ (s : Step N). AreUsed s.entries) (sym (chosen (nat_lt (length es) places) false _ _ t)) h

  used-placed : (n places : ℕ) (e : Entry N) (es : List (Entry N)) → is_in_use e ≡ true → AreUsed es → AreUsed (placed n places e es).entries
  used-placed zero places e es r h = used-placed-last places e es (nat_lt (length es) places) refl r h
  used-placed (suc n) places e es r h =
      used-placed-turn n places e es (nat_lt (length es) places) (is_below e.count (least_count es)) refl refl r h (λ es' h'. used-placed n places e es' r h')

  pub used-reference : (places : ℕ) (e : Entry N) (es : List (Entry N)) → is_in_use e ≡ true → AreUsed es → AreUsed (stored_reference places e es).entries
  unfolding stored_reference
  used-reference places e es r h = used-joins e (made_room (length es) places es).entries r (used-made_room (length es) places es h)

  pub used-other : (places : ℕ) (e : Entry N) (es : List (Entry N)) → is_in_use e ≡ true → AreUsed es → AreUsed (stored_other places e es).entries
  unfolding stored_other
  used-other places e es r h = used-placed (length es) places e es r h
