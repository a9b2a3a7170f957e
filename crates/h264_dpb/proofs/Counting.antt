-- How many frames a step writes: as many as wait before it and do not wait after it.
use Rattle.std.proofs.Common.{◌≡◌, ℕ, zero, suc, ◌+◌, Bool, true, false, Option, Some, None, List, [], ◌∷◌, ◌++◌, length, map, cond, refl, ap, sym, ◌∙◌}
use Rattle.std.proofs.Common.{subst, ℤ, arith}
use Rattle.std.specs.Prelude.{nat_lt, ◌&&◌, ◌||◌}
use Rattle.std.specs.List.{filter}
use Rattle.std.proofs.lemmas.List.{length-append}
use Rattle.std.proofs.lemmas.List.Sums.{sum_by-cons}
use Rattle.h264_dpb.specs.declared.entry.Entry.{Entry}
use Rattle.h264_dpb.specs.Bumping.{Step, joins, and_then, is_next, is_below, is_in_use, least_count, left_of, written_at, written_by, bumped, made_room}
use Rattle.h264_dpb.specs.Bumping.{placed, marked, marked_by, stored_reference, stored_other}
use Rattle.h264_dpb.proofs.Out.{chosen}
use Rattle.h264_dpb.specs.Kept.{waiting_in}

module _ {N : Type 0} where
  pub waiting-cons : (e : Entry N) (es : List (Entry N)) → waiting_in (e ∷ es) ≡ cond e.waiting 1 0 + waiting_in es
  waiting-cons e es = sum_by-cons (λ (x : Entry N). cond x.waiting 1 0) e es

  pub waiting-append : (xs ys : List (Entry N)) → waiting_in (xs ++ ys) ≡ waiting_in xs + waiting_in ys
  waiting-append [] ys = omega arith
  waiting-append (x ∷ xs) ys = let a = waiting-cons x (xs ++ ys) in let b = waiting-cons x xs in let c = waiting-append xs ys in omega (arith, a, b, c)

  -- so many more frames are written than are counted after the step
  abbrev pub Counts : ℕ → Step N → Type 0
  Counts n s = length s.written + waiting_in s.entries ≡ n

  counts-left : (e : Entry N) (es : List (Entry N)) (b : Bool) → e.reference ≡ b → waiting_in (left_of e ++ es) ≡ waiting_in es
  counts-left e es true r =
      let zero : 0 + waiting_in es ≡ waiting_in es = omega arith in
      ap (λ (l : List (Entry N)). waiting_in (l ++ es)) (chosen e.reference true (record e { waiting = false } ∷ []) [] r) ∙
      waiting-cons (record e { waiting = false }) es ∙ zero
  counts-left e es false r = ap (λ (l : List (Entry N)). waiting_in (l ++ es)) (chosen e.reference false (record e { waiting = false } ∷ []) [] r)

  waits : (c : ℤ) (e : Entry N) → is_next c e ≡ true → e.waiting ≡ true
  waits c e n = front e.waiting _ n
    where
      front : (a b : Bool) → (a && b) ≡ true → a ≡ true
      front true b h = refl
      front false b h = cc

  counts-turn : (c : ℤ) (e : Entry N) (es : List (Entry N)) (b : Bool) → is_next c e ≡ b → Counts (waiting_in es) (written_at c es) →
      Counts (waiting_in (e ∷ es)) (written_at c (e ∷ es))
  counts-turn c e es true n h =
      let w : waiting_in (e ∷ es) ≡ 1 + waiting_in es = waiting-cons e es ∙ ap (λ b. cond b 1 0 + waiting_in es) (waits c e n) in
      subst (Counts (waiting_in (e ∷ es))) (sym (chosen (is_next c e) true _ _ n)) (let l = counts-left e es e.reference refl in omega (arith, w, l))
  counts-turn c e es false n h =
      let w = waiting-cons e es in
      let v = waiting-cons e (written_at c es).entries in
      subst (Counts (waiting_in (e ∷ es))) (sym (chosen (is_next c e) false _ _ n)) (omega (arith, w, v, h))

  counts-written_at : (c : ℤ) (es : List (Entry N)) → Counts (waiting_in es) (written_at c es)
  counts-written_at c [] = refl
  counts-written_at c (e ∷ es) = counts-turn c e es (is_next c e) refl (counts-written_at c es)

  counts-written_by : (o : Option ℤ) (es : List (Entry N)) → Counts (waiting_in es) (written_by o es)
  counts-written_by None es = omega arith
  counts-written_by (Some c) es = counts-written_at c es

  pub counts-bumped : (es : List (Entry N)) → Counts (waiting_in es) (bumped es)
  unfolding bumped
  counts-bumped es = counts-written_by (least_count es) es

  counts-then : (n more : ℕ) (s : Step N) (next : List (Entry N) → Step N) → Counts n s → ((es : List (Entry N)) → Counts (waiting_in es + more) (next es)) →
      Counts (n + more) (and_then s next)
  counts-then n more s next h k =
      let l = k s.entries in
      let a = length-append s.written (next s.entries).written in
      omega (arith, h, l, a)

  counts-room-turn : (n places : ℕ) (es : List (Entry N)) (b : Bool) → nat_lt (length es) places ≡ b →
      ((es' : List (Entry N)) → Counts (waiting_in es') (made_room n places es')) → Counts (waiting_in es) (made_room (suc n) places es)
  unfolding made_room
  counts-room-turn n places es true t k = subst (Counts (waiting_in es)) (sym (chosen (nat_lt (length es) places) true _ _ t)) (omega arith)
  counts-room-turn n places es false t k =
      let plus : (m : ℕ) → m + 0 ≡ m = λ m. omega arith in
      subst (Counts (waiting_in es)) (sym (chosen (nat_lt (length es) places) false _ _ t))
      (subst (λ m. Counts m (and_then (bumped es) (made_room n places))) (plus (waiting_in es))
      (counts-then (waiting_in es) 0 (bumped es) (made_room n places) (counts-bumped es)
      (λ es'. subst (λ m. Counts m (made_room n places es')) (sym (plus (waiting_in es'))) (k es'))))

  pub counts-made_room : (n places : ℕ) (es : List (Entry N)) → Counts (waiting_in es) (made_room n places es)
  unfolding made_room
  counts-made_room zero places es = omega arith
  counts-made_room (suc n) places es = counts-room-turn n places es (nat_lt (length es) places) refl (counts-made_room n places)

  counts-joins : (e : Entry N) → e.waiting ≡ true → (es : List (Entry N)) → Counts (waiting_in es + 1) (joins e es)
  counts-joins e w es =
      let a = waiting-append es (e ∷ []) in
      let b : waiting_in (e ∷ []) ≡ 1 = waiting-cons e [] ∙ ap (λ b. cond b 1 0 + 0) w in
      omega (arith, a, b)

  counts-at-once : (e : Entry N) (es : List (Entry N)) → Counts (waiting_in es + 1) (record { written = e ∷ []; entries = es })
  counts-at-once e es = omega arith

  counts-placed-turn : (n places : ℕ) (e : Entry N) → e.waiting ≡ true → (es : List (Entry N)) (a b : Bool) → nat_lt (length es) places ≡ a →
      is_below e.count (least_count es) ≡ b →
      ((es' : List (Entry N)) → Counts (waiting_in es' + 1) (placed n places e es')) → Counts (waiting_in es + 1) (placed (suc n) places e es)
  unfolding placed
  counts-placed-turn n places e w es true b t u k =
      subst (Counts (waiting_in es + 1)) (sym (chosen (nat_lt (length es) places) true _ _ t)) (counts-joins e w es)
  counts-placed-turn n places e w es false true t u k =
      subst (Counts (waiting_in es + 1)) (sym (chosen (nat_lt (length es) places) false _ _ t ∙ chosen (is_below e.count (least_count es)) true _ _ u))
      (counts-at-once e es)
  counts-placed-turn n places e w es false false t u k =
      subst (Counts (waiting_in es + 1)) (sym (chosen (nat_lt (length es) places) false _ _ t ∙ chosen (is_below e.count (least_count es)) false _ _ u))
      (counts-then (waiting_in es) 1 (bumped es) (placed n places e) (counts-bumped es) k)

  counts-placed-last : (places : ℕ) (e : Entry N) → e.waiting ≡ true → (es : List (Entry N)) (a : Bool) → nat_lt (length es) places ≡ a →
      Counts (waiting_in es + 1) (placed 0 places e es)
  unfolding placed
  counts-placed-last places e w es true t = subst (Counts (waiting_in es + 1)) (sym (chosen (nat_lt (length es) places) true _ _ t)) (counts-joins e w es)
  counts-placed-last places e w es false t = subst (Counts (waiting_in es + 1)) (sym (chosen (nat_lt (length es) places) false _ _ t)) (counts-at-once e es)

  counts-placed : (n places : ℕ) (e : Entry N) → e.waiting ≡ true → (es : List (Entry N)) → Counts (waiting_in es + 1) (placed n places e es)
  counts-placed zero places e w es = counts-placed-last places e w es (nat_lt (length es) places) refl
  counts-placed (suc n) places e w es = counts-placed-turn n places e w es (nat_lt (length es) places) (is_below e.count (least_count es)) refl refl
      (counts-placed n places e w)

  pub counts-other : (places : ℕ) (e : Entry N) (es : List (Entry N)) → e.waiting ≡ true → Counts (waiting_in es + 1) (stored_other places e es)
  unfolding stored_other
  counts-other places e es w = counts-placed (length es) places e w es

  pub counts-reference : (places : ℕ) (e : Entry N) (es : List (Entry N)) → e.waiting ≡ true → Counts (waiting_in es + 1) (stored_reference places e es)
  unfolding stored_reference
  counts-reference places e es w = counts-then (waiting_in es) 1 (made_room (length es) places es) (joins e) (counts-made_room (length es) places es)
      (counts-joins e w)

  -- marking leaves all that wait
  counts-marked-turn : (held : N → Bool) (e : Entry N) (es : List (Entry N)) (w r : Bool) → e.waiting ≡ w → held e.of ≡ r →
      waiting_in (filter is_in_use (map (marked_by held) es)) ≡ waiting_in es →
      waiting_in (filter is_in_use (map (marked_by held) (e ∷ es))) ≡ waiting_in (e ∷ es)
  counts-marked-turn held e es w r u v h = by (w || r) (ap (λ (b : Bool). b || held e.of) u ∙ ap (λ (b : Bool). w || b) v)
    where
      rest : waiting_in (e ∷ es) ≡ cond w 1 0 + waiting_in es
      rest = waiting-cons e es ∙ ap (λ b. cond b 1 0 + waiting_in es) u

      out : (w r : Bool) → (w || r) ≡ false → w ≡ false
      out true r h = cc
      out false r h = refl

      by : (b : Bool) → is_in_use (marked_by held e) ≡ b → waiting_in (filter is_in_use (map (marked_by held) (e ∷ es))) ≡ waiting_in (e ∷ es)
      by true t = ap (λ (l : List (Entry N)). waiting_in l)
          (chosen (is_in_use (marked_by held e)) true (marked_by held e ∷ filter is_in_use (map (marked_by held) es))
          (filter is_in_use (map (marked_by held) es)) t) ∙ waiting-cons (marked_by held e) (filter is_in_use (map (marked_by held) es)) ∙
          ap (λ n. cond e.waiting 1 0 + n) h ∙ sym (waiting-cons e es)
      by false t =
          let none : e.waiting ≡ false = out e.waiting (held e.of) t in
          ap (λ (l : List (Entry N)). waiting_in l)
          (chosen (is_in_use (marked_by held e)) false (marked_by held e ∷ filter is_in_use (map (marked_by held) es))
          (filter is_in_use (map (marked_by held) es)) t) ∙ h ∙ (let z : 0 + waiting_in es ≡ waiting_in es = omega arith in sym z) ∙
          sym (waiting-cons e es ∙ ap (λ b. cond b 1 0 + waiting_in es) none)

  pub counts-marked : (held : N → Bool) (es : List (Entry N)) → waiting_in (marked held es) ≡ waiting_in es
  unfolding marked
  counts-marked held [] = refl
  counts-marked held (e ∷ es) = counts-marked-turn held e es e.waiting (held e.of) refl refl (counts-marked held es)
