-- What holds of each frame in the buffer holds of each that a step writes or leaves.
use Rattle.std.proofs.Common.{◌≡◌, ℕ, zero, suc, Bool, true, false, Option, Some, None, List, [], ◌∷◌, ◌++◌, length, map, refl, sym, ◌∙◌, subst, ℤ}
use Rattle.std.specs.Prelude.{nat_lt}
use Rattle.std.specs.List.{filter}
use Rattle.h264_dpb.specs.declared.entry.Entry.{Entry}
use Rattle.h264_dpb.specs.Bumping.{Step, joins, and_then, is_next, is_below, is_in_use, least_count, left_of, written_at, written_by, bumped, made_room}
use Rattle.h264_dpb.specs.Bumping.{placed, marked, marked_by, emptied, flushed, stored_reference, stored_other}
use Rattle.h264_dpb.proofs.Out.{chosen}
use Rattle.h264_dpb.specs.Kept.{Each}

module _ {N : Type 0} (P : N → Type 0) where
  pub each-append : (xs ys : List (Entry N)) → Each P xs → Each P ys → Each P (xs ++ ys)
  each-append [] ys h k = k
  each-append (x ∷ xs) ys h k = (h.0, each-append xs ys h.1 k)

  -- of what a step writes, and of what it leaves
  abbrev pub Both : Step N → Type 0
  Both s = Each P s.written × Each P s.entries

  each-left : (e : Entry N) (es : List (Entry N)) (b : Bool) → e.reference ≡ b → P e.of → Each P es → Each P (left_of e ++ es)
  each-left e es true r p h = subst (λ (l : List (Entry N)). Each P (l ++ es)) (sym (chosen e.reference true _ _ r)) (p, h)
  each-left e es false r p h = subst (λ (l : List (Entry N)). Each P (l ++ es)) (sym (chosen e.reference false _ _ r)) h

  both-turn : (c : ℤ) (e : Entry N) (es : List (Entry N)) (b : Bool) → is_next c e ≡ b → P e.of → Each P es → Both (written_at c es) →
      Both (written_at c (e ∷ es))
  both-turn c e es true n p h r = subst Both (sym (chosen (is_next c e) true _ _ n)) ((p, tt), each-left e es e.reference refl p h)
  both-turn c e es false n p h r = subst Both (sym (chosen (is_next c e) false _ _ n)) (r.0, (p, r.1))

  both-written_at : (c : ℤ) (es : List (Entry N)) → Each P es → Both (written_at c es)
  both-written_at c [] h = (tt, tt)
  both-written_at c (e ∷ es) h = both-turn c e es (is_next c e) refl h.0 h.1 (both-written_at c es h.1)

  both-written_by : (o : Option ℤ) (es : List (Entry N)) → Each P es → Both (written_by o es)
  both-written_by None es h = (tt, h)
  both-written_by (Some c) es h = both-written_at c es h

  both-bumped : (es : List (Entry N)) → Each P es → Both (bumped es)
  unfolding bumped
  both-bumped es h = both-written_by (least_count es) es h

  both-then : (s : Step N) (next : List (Entry N) → Step N) → Both s → ((es : List (Entry N)) → Each P es → Both (next es)) → Both (and_then s next)
  both-then s next h k = let l = k s.entries h.1 in (each-append s.written (next s.entries).written h.0 l.0, l.1)

  both-room-turn : (n places : ℕ) (es : List (Entry N)) (b : Bool) → nat_lt (length es) places ≡ b → Each P es →
      ((es' : List (Entry N)) → Each P es' → Both (made_room n places es')) → Both (made_room (suc n) places es)
  unfolding made_room
  both-room-turn n places es true t h k = subst Both (sym (chosen (nat_lt (length es) places) true _ _ t)) (tt, h)
  both-room-turn n places es false t h k =
      subst Both (sym (chosen (nat_lt (length es) places) false _ _ t)) (both-then (bumped es) (made_room n places) (both-bumped es h) k)

  pub both-made_room : (n places : ℕ) (es : List (Entry N)) → Each P es → Both (made_room n places es)
  unfolding made_room
  both-made_room zero places es h = (tt, h)
  both-made_room (suc n) places es h = both-room-turn n places es (nat_lt (length es) places) refl h (both-made_room n places)

  both-joins : (e : Entry N) (es : List (Entry N)) → P e.of → Each P es → Both (joins e es)
  both-joins e es p h = (tt, each-append es (e ∷ []) h (p, tt))

  both-placed-turn : (n places : ℕ) (e : Entry N) (es : List (Entry N)) (a b : Bool) → nat_lt (length es) places ≡ a → is_below e.count (least_count es) ≡ b →
      P e.of → Each P es →
      ((es' : List (Entry N)) → Each P es' → Both (placed n places e es')) → Both (placed (suc n) places e es)
  unfolding placed
  both-placed-turn n places e es true b t u p h k = subst Both (sym (chosen (nat_lt (length es) places) true _ _ t)) (both-joins e es p h)
  both-placed-turn n places e es false true t u p h k =
      subst Both (sym (chosen (nat_lt (length es) places) false _ _ t ∙ chosen (is_below e.count (least_count es)) true _ _ u)) ((p, tt), h)
  both-placed-turn n places e es false false t u p h k =
      subst Both (sym (chosen (nat_lt (length es) places) false _ _ t ∙ chosen (is_below e.count (least_count es)) false _ _ u))
      (both-then (bumped es) (placed n places e) (both-bumped es h) k)

  both-placed-last : (places : ℕ) (e : Entry N) (es : List (Entry N)) (a : Bool) → nat_lt (length es) places ≡ a → P e.of → Each P es →
      Both (placed 0 places e es)
  unfolding placed
  both-placed-last places e es true t p h = subst Both (sym (chosen (nat_lt (length es) places) true _ _ t)) (both-joins e es p h)
  both-placed-last places e es false t p h = subst Both (sym (chosen (nat_lt (length es) places) false _ _ t)) ((p, tt), h)

  both-placed : (n places : ℕ) (e : Entry N) (es : List (Entry N)) → P e.of → Each P es → Both (placed n places e es)
  both-placed zero places e es p h = both-placed-last places e es (nat_lt (length es) places) refl p h
  both-placed (suc n) places e es p h =
      both-placed-turn n places e es (nat_lt (length es) places) (is_below e.count (least_count es)) refl refl p h (λ es' h'. both-placed n places e es' p h')

  pub both-other : (places : ℕ) (e : Entry N) (es : List (Entry N)) → P e.of → Each P es → Both (stored_other places e es)
  unfolding stored_other
  both-other places e es p h = both-placed (length es) places e es p h

  pub both-reference : (places : ℕ) (e : Entry N) (es : List (Entry N)) → P e.of → Each P es → Both (stored_reference places e es)
  unfolding stored_reference
  both-reference places e es p h = both-then (made_room (length es) places es) (joins e) (both-made_room (length es) places es h)
      (λ es' h'. both-joins e es' p h')

  each-marked-turn : (held : N → Bool) (e : Entry N) (es : List (Entry N)) (b : Bool) → is_in_use (marked_by held e) ≡ b → P e.of →
      Each P (filter is_in_use (map (marked_by held) es)) → Each P (filter is_in_use (map (marked_by held) (e ∷ es)))
  each-marked-turn held e es true u p h = subst (λ (l : List (Entry N)). Each P l)
      (sym (chosen (is_in_use (marked_by held e)) true (marked_by held e ∷ filter is_in_use (map (marked_by held) es))
      (filter is_in_use (map (marked_by held) es)) u)) (p, h)
  each-marked-turn held e es false u p h =
      subst (λ (l : List (Entry N)). Each P l)
      (sym (chosen (is_in_use (marked_by held e)) false (marked_by held e ∷ filter is_in_use (map (marked_by held) es))
      (filter is_in_use (map (marked_by held) es)) u)) h

  pub each-marked : (held : N → Bool) (es : List (Entry N)) → Each P es → Each P (marked held es)
  unfolding marked
  each-marked held [] h = tt
  each-marked held (e ∷ es) h = each-marked-turn held e es (is_in_use (marked_by held e)) refl h.0 (each-marked held es h.1)

  pub both-flushed : (write : Bool) (es : List (Entry N)) → Each P es → Both (flushed write es)
  unfolding flushed emptied
  both-flushed true es h = ((both-made_room (length es) 0 es h).0, tt)
  both-flushed false es h = (tt, tt)
