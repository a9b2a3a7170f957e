-- Room is made where fewer frames are used for reference than there are places.
use Rattle.std.proofs.Common.{◌≡◌, ℕ, zero, suc, ◌+◌, ◌<◌, ◌≤◌, inl, inr, Bool, true, false, ◌||◌, ◌&&◌, Option, Some, None, List, [], ◌∷◌, ◌++◌, length, map}
use Rattle.std.proofs.Common.{cond, refl, ap, sym, ◌∙◌, subst, arith, ℤ, if◌then◌else◌}
use Rattle.std.specs.Prelude.{nat_lt}
use Rattle.std.specs.List.{filter}
use Rattle.std.specs.Ordering.{int_eq}
use Rattle.std.proofs.lemmas.Bool.Decides.{nat_tests}
use Rattle.h264_dpb.specs.declared.entry.Entry.{Entry}
use Rattle.h264_dpb.specs.Bumping.{Step, in_front, is_next, least_with, least_count, left_of, written_at, written_by, bumped, made_room, is_in_use, marked_by}
use Rattle.h264_dpb.specs.Bumping.{marked}
use Rattle.h264_dpb.specs.Buffered.{references, AreUsed}
use Rattle.h264_dpb.proofs.Out.{chosen}
use Rattle.h264_dpb.proofs.Least.{Has, has-least}

module _ {N : Type 0} where
  used-turn : (b : Bool) (e : Entry N) (es : List (Entry N)) → is_in_use e ≡ b → AreUsed (filter is_in_use es) → AreUsed (filter is_in_use (e ∷ es))
  used-turn true e es h r = subst (λ (l : List (Entry N)). AreUsed l) (sym (chosen (is_in_use e) true (e ∷ filter is_in_use es) (filter is_in_use es) h)) (h, r)
  used-turn false e es h r = subst (λ (l : List (Entry N)). AreUsed l) (sym (chosen (is_in_use e) false (e ∷ filter is_in_use es) (filter is_in_use es) h)) r

  used-filter : (es : List (Entry N)) → AreUsed (filter is_in_use es)
  used-filter [] = tt
  used-filter (e ∷ es) = used-turn (is_in_use e) e es refl (used-filter es)

  pub used-marked : (held : N → Bool) (es : List (Entry N)) → AreUsed (marked held es)
  unfolding marked
  used-marked held es = used-filter (map (marked_by held) es)

  abbrev waiting_in : List (Entry N) → ℕ
  waiting_in [] = 0
  waiting_in (e ∷ es) = cond e.waiting 1 0 + waiting_in es

  few-waiting : (es : List (Entry N)) → waiting_in es ≤ length es
  few-waiting [] = omega arith
  few-waiting (e ∷ es) = by e.waiting (few-waiting es)
    where
      by : (b : Bool) → waiting_in es ≤ length es → cond b 1 0 + waiting_in es ≤ suc (length es)
      by true h = omega arith
      by false h = omega arith

  -- where none waits all are used for reference
  all-held : (es : List (Entry N)) → AreUsed es → waiting_in es ≡ 0 → length es ≤ references es
  all-held [] u h = omega arith
  all-held (e ∷ es) u h = by e.waiting e.reference u.0 h (λ k. all-held es u.1 k)
    where
      by : (w r : Bool) → (w || r) ≡ true → cond w 1 0 + waiting_in es ≡ 0 → (waiting_in es ≡ 0 → length es ≤ references es) →
          suc (length es) ≤ cond r 1 0 + references es
      by true r t h k = absurd (omega (arith, h))
      by false true t h k = let j = k (omega (arith, h)) in omega arith
      by false false t h k = cc

  none-waits : (es : List (Entry N)) → least_count es ≡ None → waiting_in es ≡ 0
  none-waits [] h = refl
  none-waits (e ∷ es) h = by e.waiting h (none-waits es)
    where
      by : (w : Bool) → (if w then Some (least_with e.count (least_count es)) else least_count es) ≡ None → (least_count es ≡ None → waiting_in es ≡ 0) →
          cond w 1 0 + waiting_in es ≡ 0
      by true h k = cc
      by false h k = let j = k h in omega arith

  -- what one output changes
  pub record Lessens (old new : List (Entry N)) : Type 0 where
    pub used : AreUsed new
    pub references_same : references new ≡ references old
    pub waiting_less : waiting_in new + 1 ≡ waiting_in old

  waiting-next : (c : ℤ) (e : Entry N) → is_next c e ≡ true → e.waiting ≡ true
  waiting-next c e h = by e.waiting (int_eq e.count c) h
    where
      by : (w s : Bool) → (w && s) ≡ true → w ≡ true
      by true s h = refl
      by false s h = h

  lessens-here : (e : Entry N) (es : List (Entry N)) (r : Bool) → e.reference ≡ r → e.waiting ≡ true → AreUsed es → Lessens (e ∷ es) (left_of e ++ es)
  lessens-here e es true r w u = subst (λ (l : List (Entry N)). Lessens (e ∷ es) (l ++ es)) (sym (chosen e.reference true _ _ r))
      (record { used = (r, u); references_same = refl; waiting_less = rw w (omega arith) })
  lessens-here e es false r w u = subst (λ (l : List (Entry N)). Lessens (e ∷ es) (l ++ es)) (sym (chosen e.reference false _ _ r))
      (record { used = u; references_same = rw r (omega arith); waiting_less = rw w (omega arith) })

  lessens-front : (e : Entry N) (es : List (Entry N)) (s t : Step N) → s ≡ in_front e t → is_in_use e ≡ true → Lessens es t.entries → Lessens (e ∷ es) s.entries
  lessens-front e es s t q u l = subst (λ (x : Step N). Lessens (e ∷ es) x.entries) (sym q) (record {
    used = (u, l.used);
    references_same = ap (λ m. cond e.reference 1 0 + m) l.references_same;
    waiting_less = let w = l.waiting_less in omega arith;
  })

  lessens-turn : (c : ℤ) (e : Entry N) (es : List (Entry N)) (b : Bool) → is_next c e ≡ b → AreUsed (e ∷ es) → Has c (e ∷ es) →
      (Has c es → Lessens es (written_at c es).entries) → Lessens (e ∷ es) (written_at c (e ∷ es)).entries
  lessens-turn c e es true n u h k = subst (λ (s : Step N). Lessens (e ∷ es) s.entries) (sym (chosen (is_next c e) true _ _ n))
      (lessens-here e es e.reference refl (waiting-next c e n) u.1)
  lessens-turn c e es false n u (inl h) k = let bad : true ≡ false = sym h ∙ n in cc
  lessens-turn c e es false n u (inr h) k = lessens-front e es (written_at c (e ∷ es)) (written_at c es) (chosen (is_next c e) false _ _ n) u.0 (k h)

  lessens : (c : ℤ) (es : List (Entry N)) → AreUsed es → Has c es → Lessens es (written_at c es).entries
  lessens c [] u h = absurd h
  lessens c (e ∷ es) u h = lessens-turn c e es (is_next c e) refl u h (λ k. lessens c es u.1 k)

  room-on : (n places : ℕ) (es : List (Entry N)) (o : Option ℤ) → least_count es ≡ o → AreUsed es → references es < places → places ≤ length es →
      waiting_in es ≤ suc n → ((es' : List (Entry N)) → waiting_in es' ≤ n → AreUsed es' → references es' < places →
      length (made_room n places es').entries < places) → length (made_room n places (written_by o es).entries).entries < places
  room-on n places es None l u r f w k = let h = all-held es u (none-waits es l) in absurd (omega (arith, h, r, f))
  room-on n places es (Some c) l u r f w k =
      let s = lessens c es u (has-least es c l) in
      let less = s.waiting_less in
      let same = s.references_same in
      k (written_at c es).entries (omega (arith, less, w)) s.used (omega (arith, same, r))

  room-turn : (n places : ℕ) (es : List (Entry N)) (b : Bool) → nat_lt (length es) places ≡ b → AreUsed es → references es < places → waiting_in es ≤ suc n →
      ((es' : List (Entry N)) → waiting_in es' ≤ n → AreUsed es' → references es' < places → length (made_room n places es').entries < places) →
      length (made_room (suc n) places es).entries < places
  unfolding made_room bumped
  room-turn n places es true t u r w k = subst (λ (s : Step N). length s.entries < places) (sym (chosen (nat_lt (length es) places) true _ _ t))
      (grind (arith, nat_tests))
  room-turn n places es false t u r w k =
      let full : places ≤ length es = grind (arith, nat_tests) in
      subst (λ (s : Step N). length s.entries < places) (sym (chosen (nat_lt (length es) places) false _ _ t))
      (room-on n places es (least_count es) refl u r full w k)

  room-made : (n places : ℕ) (es : List (Entry N)) → waiting_in es ≤ n → AreUsed es → references es < places → length (made_room n places es).entries < places
  unfolding made_room
  room-made zero places es w u r = let h = all-held es u (omega (arith, w)) in omega (arith, h, r)
  room-made (suc n) places es w u r = room-turn n places es (nat_lt (length es) places) refl u r w (room-made n places)

  -- a place is free then
  pub made_room-frees : (places : ℕ) (es : List (Entry N)) → AreUsed es → references es < places → length (made_room (length es) places es).entries < places
  made_room-frees places es u r = room-made (length es) places es (few-waiting es) u r
