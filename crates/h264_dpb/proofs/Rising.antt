-- The pictures of the buffer stay in decoding order, and no two have one number.
use Rattle.std.proofs.Common.{◌≡◌, ℕ, zero, suc, ◌+◌, ◌<◌, ◌≤◌, Bool, true, false, ◌||◌, Option, Some, None, List, [], ◌∷◌, ◌++◌, length, map, cond, refl, ap}
use Rattle.std.proofs.Common.{sym, ◌∙◌, subst, arith, ℤ, zero-add}
use Rattle.std.specs.Prelude.{nat_lt, nat_eq}
use Rattle.std.specs.List.{filter}
use Rattle.std.specs.Option.{is_none}
use Rattle.std.proofs.lemmas.Bool.Decides.{nat_tests}
use Rattle.std.proofs.lemmas.List.Sums.{sum_by-cons}
use Rattle.h264_dpb.specs.declared.entry.Entry.{Entry}
use Rattle.h264_dpb.specs.Bumping.{Step, is_next, is_below, least_count, left_of, written_at, written_by, bumped, made_room, placed, marked, marked_by}
use Rattle.h264_dpb.specs.Bumping.{is_in_use, stored_reference, stored_other, is_held, missing_in}
use Rattle.h264_dpb.specs.Buffered.{references}
use Rattle.h264_dpb.specs.Numbered.{AreRising}
use Rattle.h264_dpb.proofs.Out.{chosen}

module _ {N : Type 0} (number : N → ℕ) where
  pub rising-lower : (low low' high : ℕ) (es : List (Entry N)) → low' ≤ low → AreRising number low es high → AreRising number low' es high
  rising-lower low low' high [] p h = omega arith
  rising-lower low low' high (e ∷ es) p h = (omega (arith, h.0), h.1)

  pub rising-higher : (low high high' : ℕ) (es : List (Entry N)) → high ≤ high' → AreRising number low es high → AreRising number low es high'
  rising-higher low high high' [] p h = omega arith
  rising-higher low high high' (e ∷ es) p h = (h.0, rising-higher (number e.of + 1) high high' es p h.1)

  rising-left : (low high : ℕ) (e : Entry N) (es : List (Entry N)) (b : Bool) → e.reference ≡ b → low ≤ number e.of →
      AreRising number (number e.of + 1) es high → AreRising number low (left_of e ++ es) high
  rising-left low high e es true r p h = subst (λ (l : List (Entry N)). AreRising number low (l ++ es) high) (sym (chosen e.reference true _ _ r)) (p, h)
  rising-left low high e es false r p h = subst (λ (l : List (Entry N)). AreRising number low (l ++ es) high) (sym (chosen e.reference false _ _ r))
      (rising-lower (number e.of + 1) low high es (omega arith) h)

  rising-turn : (low high : ℕ) (c : ℤ) (e : Entry N) (es : List (Entry N)) (b : Bool) → is_next c e ≡ b → low ≤ number e.of →
      AreRising number (number e.of + 1) es high →
      AreRising number (number e.of + 1) (written_at c es).entries high → AreRising number low (written_at c (e ∷ es)).entries high
  rising-turn low high c e es true n p h r =
      subst (λ (s : Step N). AreRising number low s.entries high) (sym (chosen (is_next c e) true _ _ n)) (rising-left low high e es e.reference refl p h)
  rising-turn low high c e es false n p h r = subst (λ (s : Step N). AreRising number low s.entries high) (sym (chosen (is_next c e) false _ _ n)) (p, r)

  rising-written_at : (low high : ℕ) (c : ℤ) (es : List (Entry N)) → AreRising number low es high → AreRising number low (written_at c es).entries high
  rising-written_at low high c [] h = h
  rising-written_at low high c (e ∷ es) h = rising-turn low high c e es (is_next c e) refl h.0 h.1 (rising-written_at (number e.of + 1) high c es h.1)

  rising-written_by : (low high : ℕ) (o : Option ℤ) (es : List (Entry N)) → AreRising number low es high → AreRising number low (written_by o es).entries high
  rising-written_by low high None es h = h
  rising-written_by low high (Some c) es h = rising-written_at low high c es h

  rising-bumped : (low high : ℕ) (es : List (Entry N)) → AreRising number low es high → AreRising number low (bumped es).entries high
  unfolding bumped
  rising-bumped low high es h = rising-written_by low high (least_count es) es h

  rising-room-turn : (low high n places : ℕ) (es : List (Entry N)) (b : Bool) → nat_lt (length es) places ≡ b → AreRising number low es high →
      ((es' : List (Entry N)) → AreRising number low es' high → AreRising number low (made_room n places es').entries high) →
      AreRising number low (made_room (suc n) places es).entries high
  unfolding made_room
  rising-room-turn low high n places es true t h k =
      subst (λ (s : Step N). AreRising number low s.entries high) (sym (chosen (nat_lt (length es) places) true _ _ t)) h
  rising-room-turn low high n places es false t h k =
      subst (λ (s : Step N). AreRising number low s.entries high) (sym (chosen (nat_lt (length es) places) false _ _ t))
      (k (bumped es).entries (rising-bumped low high es h))

  pub rising-made_room : (low high n places : ℕ) (es : List (Entry N)) → AreRising number low es high →
      AreRising number low (made_room n places es).entries high
  unfolding made_room
  rising-made_room low high zero places es h = h
  rising-made_room low high (suc n) places es h = rising-room-turn low high n places es (nat_lt (length es) places) refl h (rising-made_room low high n places)

  rising-joins : (low high : ℕ) (e : Entry N) (es : List (Entry N)) → high ≤ number e.of → AreRising number low es high →
      AreRising number low (es ++ e ∷ []) (number e.of + 1)
  rising-joins low high e [] p h = (omega (arith, h), omega arith)
  rising-joins low high e (x ∷ es) p h = (h.0, rising-joins (number x.of + 1) high e es p h.1)

  rising-placed-turn : (low high n places : ℕ) (e : Entry N) (es : List (Entry N)) (a b : Bool) → nat_lt (length es) places ≡ a →
      is_below e.count (least_count es) ≡ b → high ≤ number e.of → AreRising number low es high →
      ((es' : List (Entry N)) → AreRising number low es' high → AreRising number low (placed n places e es').entries (number e.of + 1)) →
      AreRising number low (placed (suc n) places e es).entries (number e.of + 1)
  unfolding placed
  rising-placed-turn low high n places e es true b t u p h k =
      subst (λ (s : Step N). AreRising number low s.entries (number e.of + 1)) (sym (chosen (nat_lt (length es) places) true _ _ t))
      (rising-joins low high e es p h)
  rising-placed-turn low high n places e es false true t u p h k =
      subst (λ (s : Step N). AreRising number low s.entries (number e.of + 1))
      (sym (chosen (nat_lt (length es) places) false _ _ t ∙ chosen (is_below e.count (least_count es)) true _ _ u))
      (rising-higher low high (number e.of + 1) es (omega arith) h)
  rising-placed-turn low high n places e es false false t u p h k =
      subst (λ (s : Step N). AreRising number low s.entries (number e.of + 1))
      (sym (chosen (nat_lt (length es) places) false _ _ t ∙ chosen (is_below e.count (least_count es)) false _ _ u))
      (k (bumped es).entries (rising-bumped low high es h))

  rising-placed-last : (low high places : ℕ) (e : Entry N) (es : List (Entry N)) (a : Bool) → nat_lt (length es) places ≡ a → high ≤ number e.of →
      AreRising number low es high → AreRising number low (placed 0 places e es).entries (number e.of + 1)
  unfolding placed
  rising-placed-last low high places e es true t p h =
      subst (λ (s : Step N). AreRising number low s.entries (number e.of + 1)) (sym (chosen (nat_lt (length es) places) true _ _ t))
      (rising-joins low high e es p h)
  rising-placed-last low high places e es false t p h =
      subst (λ (s : Step N). AreRising number low s.entries (number e.of + 1)) (sym (chosen (nat_lt (length es) places) false _ _ t))
      (rising-higher low high (number e.of + 1) es (omega arith) h)

  pub rising-placed : (low high n places : ℕ) (e : Entry N) (es : List (Entry N)) → high ≤ number e.of → AreRising number low es high →
      AreRising number low (placed n places e es).entries (number e.of + 1)
  rising-placed low high zero places e es p h = rising-placed-last low high places e es (nat_lt (length es) places) refl p h
  rising-placed low high (suc n) places e es p h =
      rising-placed-turn low high n places e es (nat_lt (length es) places) (is_below e.count (least_count es)) refl refl p h
      (λ es' h'. rising-placed low high n places e es' p h')

  rising-marked-turn : (low high : ℕ) (held : N → Bool) (e : Entry N) (es : List (Entry N)) (b : Bool) → is_in_use (marked_by held e) ≡ b → low ≤ number e.of →
      AreRising number (number e.of + 1) (filter is_in_use (map (marked_by held) es)) high →
      AreRising number low (filter is_in_use (map (marked_by held) (e ∷ es))) high
  rising-marked-turn low high held e es true u p h =
      subst (λ (l : List (Entry N)). AreRising number low l high)
      (sym (chosen (is_in_use (marked_by held e)) true (marked_by held e ∷ filter is_in_use (map (marked_by held) es))
      (filter is_in_use (map (marked_by held) es)) u)) (p, h)
  rising-marked-turn low high held e es false u p h =
      subst (λ (l : List (Entry N)). AreRising number low l high)
      (sym (chosen (is_in_use (marked_by held e)) false (marked_by held e ∷ filter is_in_use (map (marked_by held) es))
      (filter is_in_use (map (marked_by held) es)) u))
      (rising-lower (number e.of + 1) low high (filter is_in_use (map (marked_by held) es)) (omega arith) h)

  pub rising-marked : (low high : ℕ) (held : N → Bool) (es : List (Entry N)) → AreRising number low es high → AreRising number low (marked held es) high
  unfolding marked
  rising-marked low high held [] h = h
  rising-marked low high held (e ∷ es) h =
      rising-marked-turn low high held e es (is_in_use (marked_by held e)) refl h.0 (rising-marked (number e.of + 1) high held es h.1)

  -- ---- what storing a picture leaves

  pub rising-reference : (low high places : ℕ) (e : Entry N) (es : List (Entry N)) → high ≤ number e.of → AreRising number low es high →
      AreRising number low (stored_reference places e es).entries (number e.of + 1)
  unfolding stored_reference
  rising-reference low high places e es p h =
      rising-joins low high e (made_room (length es) places es).entries p (rising-made_room low high (length es) places es h)

  pub rising-other : (low high places : ℕ) (e : Entry N) (es : List (Entry N)) → high ≤ number e.of → AreRising number low es high →
      AreRising number low (stored_other places e es).entries (number e.of + 1)
  unfolding stored_other
  rising-other low high places e es p h = rising-placed low high (length es) places e es p h

  -- ---- how many of them a test of names holds of

  abbrev pub counted : (N → Bool) → List (Entry N) → ℕ
  counted p [] = 0
  counted p (e ∷ es) = cond (p e.of) 1 0 + counted p es

  -- the references that marking leaves
  marked-turn : (held : N → Bool) (e : Entry N) (es : List (Entry N)) (b : Bool) → is_in_use (marked_by held e) ≡ b →
      references (filter is_in_use (map (marked_by held) es)) ≡ counted held es →
      references (filter is_in_use (map (marked_by held) (e ∷ es))) ≡ counted held (e ∷ es)
  marked-turn held e es true u h =
      ap (λ (l : List (Entry N)). references l)
      (chosen (is_in_use (marked_by held e)) true (marked_by held e ∷ filter is_in_use (map (marked_by held) es))
      (filter is_in_use (map (marked_by held) es)) u)
      ∙ ap (λ n. cond (held e.of) 1 0 + n) h
  marked-turn held e es false u h =
      ap (λ (l : List (Entry N)). references l)
      (chosen (is_in_use (marked_by held e)) false (marked_by held e ∷ filter is_in_use (map (marked_by held) es))
      (filter is_in_use (map (marked_by held) es)) u)
      ∙ h ∙ none e.waiting (held e.of) u
    where
      none : (waiting used : Bool) → (waiting || used) ≡ false → counted held es ≡ cond used 1 0 + counted held es
      none true used v = cc
      none false true v = cc
      none false false v = sym (zero-add (counted held es))

  pub marked-counted : (held : N → Bool) (es : List (Entry N)) → references (marked held es) ≡ counted held es
  unfolding marked
  marked-counted held [] = refl
  marked-counted held (e ∷ es) = marked-turn held e es (is_in_use (marked_by held e)) refl (marked-counted held es)

  cond-or : (a b : Bool) (m n : ℕ) → m ≤ n → cond (a || b) 1 0 + m ≤ cond a 1 0 + cond b 1 0 + n
  cond-or true b m n h = omega (arith, h)
  cond-or false true m n h = omega (arith, h)
  cond-or false false m n h = omega (arith, h)

  or_counted : (p q : N → Bool) (es : List (Entry N)) → counted (λ n. p n || q n) es ≤ counted p es + counted q es
  or_counted p q [] = omega arith
  or_counted p q (e ∷ es) =
      let more = cond-or (p e.of) (q e.of) (counted (λ n. p n || q n) es) (counted p es + counted q es) (or_counted p q es) in
      omega (arith, more)

  -- a number stands there once
  above : (m low high : ℕ) (es : List (Entry N)) → m < low → AreRising number low es high → counted (λ n. nat_eq m (number n)) es ≡ 0
  above m low high [] p h = refl
  above m low high (e ∷ es) p h =
      let other : nat_eq m (number e.of) ≡ false = let first = h.0 in grind (arith, nat_tests) in
      rw other (zero-add (counted (λ n. nat_eq m (number n)) es) ∙ above m (number e.of + 1) high es (omega (arith, h.0)) h.1)

  once : (m low high : ℕ) (es : List (Entry N)) → AreRising number low es high → counted (λ n. nat_eq m (number n)) es ≤ 1
  once m low high [] h = omega arith
  once m low high (e ∷ es) h = turn (nat_eq m (number e.of)) refl (once m (number e.of + 1) high es h.1)
    where
      turn : (b : Bool) → nat_eq m (number e.of) ≡ b → counted (λ n. nat_eq m (number n)) es ≤ 1 →
          cond (nat_eq m (number e.of)) 1 0 + counted (λ n. nat_eq m (number n)) es ≤ 1
      turn true t rest =
          let same : m ≡ number e.of = grind (arith, nat_tests) in
          let none = above m (number e.of + 1) high es (omega arith) h.1 in
          rw (t, none) (omega arith)
      turn false t rest = rw t (omega (arith, rest))

  no_names : (es : List (Entry N)) → counted (λ n. false) es ≡ 0
  no_names [] = refl
  no_names (e ∷ es) = zero-add (counted (λ n. false) es) ∙ no_names es

  counted-same : (p q : N → Bool) (es : List (Entry N)) → ((n : N) → p n ≡ q n) → counted p es ≡ counted q es
  counted-same p q [] same = refl
  counted-same p q (e ∷ es) same = rw (same e.of, counted-same p q es same) refl

  -- each of them that is held stands among what is held
  pub few : (low high : ℕ) (held : List (Option ℕ)) (es : List (Entry N)) → AreRising number low es high →
      counted (λ n. is_held held (number n)) es + missing_in held ≤ length held
  few low high [] es h = let none = no_names es in omega (arith, none)
  few low high (None ∷ held) es h =
      let rest = few low high held es h in
      let one : missing_in (None ∷ held) ≡ 1 + missing_in held = sum_by-cons (λ x. cond (is_none x) 1 0) None held in
      omega (arith, rest, one)
  few low high (Some m ∷ held) es h =
      let rest = few low high held es h in
      let one : missing_in (Some m ∷ held) ≡ 0 + missing_in held = sum_by-cons (λ x. cond (is_none x) 1 0) (Some m) held in
      let both = or_counted (λ n. nat_eq m (number n)) (λ n. is_held held (number n)) es in
      let single = once m low high es h in
      omega (arith, rest, one, both, single)

  counted-append : (p : N → Bool) (e : Entry N) (es : List (Entry N)) → counted p (es ++ e ∷ []) ≡ counted p es + cond (p e.of) 1 0
  counted-append p e [] = omega arith
  counted-append p e (x ∷ es) = let rest = counted-append p e es in omega (arith, rest)

  -- fewer where a later picture is held too
  pub few-other : (low : ℕ) (held : List (Option ℕ)) (e : Entry N) (es : List (Entry N)) → AreRising number low es (number e.of) →
      is_held held (number e.of) ≡ true → counted (λ n. is_held held (number n)) es + missing_in held < length held
  few-other low held e es h t =
      let all = few low (number e.of + 1) held (es ++ e ∷ []) (rising-joins low (number e.of) e es (omega arith) h) in
      let more = rw t at (counted-append (λ n. is_held held (number n)) e es) in
      omega (arith, all, more)
