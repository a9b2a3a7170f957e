-- Outputs until a place is free.
use Rattle.std.proofs.Common.{◌≡◌, ℕ, zero, suc, ◌<◌, ◌≤◌, Bool, true, false, IsTrue, Option, Some, None, List, [], ◌∷◌, ◌++◌, length, length-append, map}
use Rattle.std.proofs.Common.{refl, ap, sym, ◌∙◌, subst, arith, ℤ}
use Rattle.std.specs.Prelude.{nat_lt}
use Rattle.std.proofs.lemmas.Bool.Decides.{nat_tests}
use Rattle.h264_plane.specs.declared.frame.Frame.{Frame}
use Rattle.h264_dpb.specs.declared.entry.Entry.{Entry}
use Rattle.h264_dpb.specs.declared.entry.Placed.{Placed}
use Rattle.h264_dpb.specs.Bumping.{Step, leaves, joins, and_then, is_next, is_below, least_count, left_of, written_at, written_by, bumped, made_room, placed}
use Rattle.h264_dpb.specs.Bumping.{marked, marked_by, is_in_use}
use Rattle.std.specs.List.{filter}
use Rattle.h264_dpb.specs.Buffered.{AreReady, is_ready}
use Rattle.h264_dpb.proofs.Out.{chosen}
use Rattle.std.proofs.lemmas.Bool.{le-ltb}

is-lt : (m n : ℕ) → m < n → nat_lt m n ≡ true
is-lt m n h = grind (arith, nat_tests)

lt-of : (m n : ℕ) → nat_lt m n ≡ true → m < n
lt-of m n h = grind (arith, nat_tests)

module _ {N : Type 0} where
  pub made_room-free : (n places : ℕ) (es : List (Entry N)) → length es < places → made_room n places es ≡ leaves es
  unfolding made_room
  made_room-free zero places es h = refl
  made_room-free (suc n) places es h = chosen (nat_lt (length es) places) true _ _ (is-lt (length es) places h)

  pub made_room-next : (n m places : ℕ) (es : List (Entry N)) → n ≡ suc m → places ≤ length es →
      made_room n places es ≡ and_then (bumped es) (made_room m places)
  unfolding made_room
  made_room-next n m places es e h = ap (λ k. made_room k places es) e ∙ chosen (nat_lt (length es) places) false _ _ (le-ltb (length es) places h)

  pub made_room-last : (n places : ℕ) (es : List (Entry N)) → n ≡ 0 → made_room n places es ≡ leaves es
  unfolding made_room
  made_room-last n places es e = ap (λ k. made_room k places es) e

  pub placed-free : (n places : ℕ) (e : Entry N) (es : List (Entry N)) → length es < places → placed n places e es ≡ joins e es
  unfolding placed
  placed-free zero places e es h = chosen (nat_lt (length es) places) true _ _ (is-lt (length es) places h)
  placed-free (suc n) places e es h = chosen (nat_lt (length es) places) true _ _ (is-lt (length es) places h)

  pub placed-once : (n places : ℕ) (e : Entry N) (es : List (Entry N)) → 0 < n → places ≤ length es → is_below e.count (least_count es) ≡ true →
      (let s : Step N = record { written = e ∷ []; entries = es } in placed n places e es ≡ s)
  unfolding placed
  placed-once zero places e es s h b = absurd (omega (arith, s))
  placed-once (suc n) places e es s h b = chosen (nat_lt (length es) places) false _ _ (le-ltb (length es) places h) ∙
      chosen (is_below e.count (least_count es)) true _ _ b

  pub placed-next : (n m places : ℕ) (e : Entry N) (es : List (Entry N)) → n ≡ suc m → places ≤ length es → is_below e.count (least_count es) ≡ false →
      placed n places e es ≡ and_then (bumped es) (placed m places e)
  unfolding placed
  placed-next n m places e es i h b = ap (λ k. placed k places e es) i ∙ chosen (nat_lt (length es) places) false _ _ (le-ltb (length es) places h) ∙
      chosen (is_below e.count (least_count es)) false _ _ b

  pub placed-last : (n places : ℕ) (e : Entry N) (es : List (Entry N)) → n ≡ 0 → places ≤ length es →
      (let s : Step N = record { written = e ∷ []; entries = es } in placed n places e es ≡ s)
  unfolding placed
  placed-last n places e es i h = ap (λ k. placed k places e es) i ∙ chosen (nat_lt (length es) places) false _ _ (le-ltb (length es) places h)

-- what waits is still at its place
ready-left : (lent : ℕ → Option Frame) (e : Entry Placed) (es : List (Entry Placed)) (b : Bool) → e.reference ≡ b → AreReady lent es →
    AreReady lent (left_of e ++ es)
ready-left lent e es true r h = subst (λ (l : List (Entry Placed)). AreReady lent (l ++ es)) (sym (chosen e.reference true _ _ r)) (refl, h)
ready-left lent e es false r h = subst (λ (l : List (Entry Placed)). AreReady lent (l ++ es)) (sym (chosen e.reference false _ _ r)) h

ready-turn : (lent : ℕ → Option Frame) (c : ℤ) (e : Entry Placed) (es : List (Entry Placed)) (b : Bool) → is_next c e ≡ b → IsTrue (is_ready lent e) →
    AreReady lent es → AreReady lent (written_at c es).entries → AreReady lent (written_at c (e ∷ es)).entries
ready-turn lent c e es true n o h r = subst (λ (s : Step Placed). AreReady lent s.entries) (sym (chosen (is_next c e) true _ _ n))
    (ready-left lent e es e.reference refl h)
ready-turn lent c e es false n o h r = subst (λ (s : Step Placed). AreReady lent s.entries) (sym (chosen (is_next c e) false _ _ n)) (o, r)

ready-written_at : (lent : ℕ → Option Frame) (c : ℤ) (es : List (Entry Placed)) → AreReady lent es → AreReady lent (written_at c es).entries
ready-written_at lent c [] h = tt
ready-written_at lent c (e ∷ es) h = ready-turn lent c e es (is_next c e) refl h.0 h.1 (ready-written_at lent c es h.1)

ready-written_by : (lent : ℕ → Option Frame) (o : Option ℤ) (es : List (Entry Placed)) → AreReady lent es → AreReady lent (written_by o es).entries
ready-written_by lent None es h = h
ready-written_by lent (Some c) es h = ready-written_at lent c es h

pub ready-bumped : (lent : ℕ → Option Frame) (es new : List (Entry Placed)) → AreReady lent es → new ≡ (bumped es).entries → AreReady lent new
unfolding bumped
ready-bumped lent es new h e = subst (λ (l : List (Entry Placed)). AreReady lent l) (sym e) (ready-written_by lent (least_count es) es h)

ready-room-turn : (lent : ℕ → Option Frame) (n places : ℕ) (es : List (Entry Placed)) (b : Bool) → nat_lt (length es) places ≡ b → AreReady lent es →
    ((es' : List (Entry Placed)) → AreReady lent es' → AreReady lent (made_room n places es').entries) → AreReady lent (made_room (suc n) places es).entries
unfolding made_room
ready-room-turn lent n places es true t h k = subst (λ (s : Step Placed). AreReady lent s.entries) (sym (chosen (nat_lt (length es) places) true _ _ t)) h
ready-room-turn lent n places es false t h k =
    subst (λ (s : Step Placed). AreReady lent s.entries) (sym (chosen (nat_lt (length es) places) false _ _ t))
    (k (bumped es).entries (ready-bumped lent es (bumped es).entries h refl))

pub ready-made_room : (lent : ℕ → Option Frame) (n places : ℕ) (es : List (Entry Placed)) → AreReady lent es → AreReady lent (made_room n places es).entries
unfolding made_room
ready-made_room lent zero places es h = h
ready-made_room lent (suc n) places es h = ready-room-turn lent n places es (nat_lt (length es) places) refl h (ready-made_room lent n places)

pub ready-joins : (lent : ℕ → Option Frame) (e : Entry Placed) (es : List (Entry Placed)) → AreReady lent es → IsTrue (is_ready lent e) →
    AreReady lent (es ++ e ∷ [])
ready-joins lent e [] h r = (r, tt)
ready-joins lent e (x ∷ es) h r = (h.0, ready-joins lent e es h.1 r)

ready-placed-turn : (lent : ℕ → Option Frame) (n places : ℕ) (e : Entry Placed) (es : List (Entry Placed)) (a b : Bool) → nat_lt (length es) places ≡ a →
    is_below e.count (least_count es) ≡ b → AreReady lent es → IsTrue (is_ready lent e) →
    ((es' : List (Entry Placed)) → AreReady lent es' → AreReady lent (placed n places e es').entries) → AreReady lent (placed (suc n) places e es).entries
unfolding placed
ready-placed-turn lent n places e es true b t u h r k =
    subst (λ (s : Step Placed). AreReady lent s.entries) (sym (chosen (nat_lt (length es) places) true _ _ t)) (ready-joins lent e es h r)
ready-placed-turn lent n places e es false true t u h r k =
    subst (λ (s : Step Placed). AreReady lent s.entries)
    (sym (chosen (nat_lt (length es) places) false _ _ t ∙ chosen (is_below e.count (least_count es)) true _ _ u)) h
ready-placed-turn lent n places e es false false t u h r k =
    subst (λ (s : Step Placed). AreReady lent s.entries)
    (sym (chosen (nat_lt (length es) places) false _ _ t ∙ chosen (is_below e.count (least_count es)) false _ _ u))
    (k (bumped es).entries (ready-bumped lent es (bumped es).entries h refl))

ready-placed-last : (lent : ℕ → Option Frame) (places : ℕ) (e : Entry Placed) (es : List (Entry Placed)) (a : Bool) → nat_lt (length es) places ≡ a →
    AreReady lent es → IsTrue (is_ready lent e) → AreReady lent (placed 0 places e es).entries
unfolding placed
ready-placed-last lent places e es true t h r =
    subst (λ (s : Step Placed). AreReady lent s.entries) (sym (chosen (nat_lt (length es) places) true _ _ t)) (ready-joins lent e es h r)
ready-placed-last lent places e es false t h r = subst (λ (s : Step Placed). AreReady lent s.entries) (sym (chosen (nat_lt (length es) places) false _ _ t)) h

pub ready-placed : (lent : ℕ → Option Frame) (n places : ℕ) (e : Entry Placed) (es : List (Entry Placed)) → AreReady lent es → IsTrue (is_ready lent e) →
    AreReady lent (placed n places e es).entries
ready-placed lent zero places e es h r = ready-placed-last lent places e es (nat_lt (length es) places) refl h r
ready-placed lent (suc n) places e es h r =
    ready-placed-turn lent n places e es (nat_lt (length es) places) (is_below e.count (least_count es)) refl refl h r
    (λ es' h'. ready-placed lent n places e es' h' r)

-- marking leaves what waits
ready-marked-turn : (lent : ℕ → Option Frame) (held : Placed → Bool) (e : Entry Placed) (es : List (Entry Placed)) (b : Bool) → is_in_use (marked_by held e) ≡
    b → IsTrue (is_ready lent e) → AreReady lent (filter is_in_use (map (marked_by held) es)) →
    AreReady lent (filter is_in_use (map (marked_by held) (e ∷ es)))
ready-marked-turn lent held e es true u r h =
    subst (λ (l : List (Entry Placed)). AreReady lent l)
    (sym (chosen (is_in_use (marked_by held e)) true (marked_by held e ∷ filter is_in_use (map (marked_by held) es))
    (filter is_in_use (map (marked_by held) es)) u)) (r, h)
ready-marked-turn lent held e es false u r h =
    subst (λ (l : List (Entry Placed)). AreReady lent l)
    (sym (chosen (is_in_use (marked_by held e)) false (marked_by held e ∷ filter is_in_use (map (marked_by held) es))
    (filter is_in_use (map (marked_by held) es)) u)) h

pub ready-marked : (lent : ℕ → Option Frame) (held : Placed → Bool) (es : List (Entry Placed)) → AreReady lent es → AreReady lent (marked held es)
unfolding marked
ready-marked lent held [] h = tt
ready-marked lent held (e ∷ es) h = ready-marked-turn lent held e es (is_in_use (marked_by held e)) refl h.0 (ready-marked lent held es h.1)

-- a frame that is not used for reference takes a place where one is free
left-short : {N : Type 0} (e : Entry N) (b : Bool) → e.reference ≡ b → length (left_of e) ≤ 1
left-short e true r = subst (λ (l : List (Entry _)). length l ≤ 1) (sym (chosen e.reference true _ _ r)) (omega arith)
left-short e false r = subst (λ (l : List (Entry _)). length l ≤ 1) (sym (chosen e.reference false _ _ r)) (omega arith)

short-turn : {N : Type 0} (c : ℤ) (e : Entry N) (es : List (Entry N)) (b : Bool) → is_next c e ≡ b → length (written_at c es).entries ≤ length es →
    length (written_at c (e ∷ es)).entries ≤ suc (length es)
short-turn c e es true n h = subst (λ (s : Step _). length s.entries ≤ suc (length es)) (sym (chosen (is_next c e) true _ _ n))
    (let l = left-short e e.reference refl in let a = length-append (left_of e) es in omega arith)
short-turn c e es false n h = subst (λ (s : Step _). length s.entries ≤ suc (length es)) (sym (chosen (is_next c e) false _ _ n)) (omega (arith, h))

short-written_at : {N : Type 0} (c : ℤ) (es : List (Entry N)) → length (written_at c es).entries ≤ length es
short-written_at c [] = omega arith
short-written_at c (e ∷ es) = short-turn c e es (is_next c e) refl (short-written_at c es)

short-written_by : {N : Type 0} (o : Option ℤ) (es : List (Entry N)) → length (written_by o es).entries ≤ length es
short-written_by None es = omega arith
short-written_by (Some c) es = short-written_at c es

short-bumped : {N : Type 0} (es : List (Entry N)) → length (bumped es).entries ≤ length es
unfolding bumped
short-bumped es = short-written_by (least_count es) es

short-placed-turn : {N : Type 0} (n places : ℕ) (e : Entry N) (es : List (Entry N)) (a b : Bool) → nat_lt (length es) places ≡ a →
    is_below e.count (least_count es) ≡ b → length es ≤ places →
    ((es' : List (Entry N)) → length es' ≤ places → length (placed n places e es').entries ≤ places) → length (placed (suc n) places e es).entries ≤ places
unfolding placed
short-placed-turn n places e es true b t u h k =
    subst (λ (s : Step _). length s.entries ≤ places) (sym (chosen (nat_lt (length es) places) true _ _ t))
    (let a = length-append es (e ∷ []) in let l = lt-of (length es) places t in omega arith)
short-placed-turn n places e es false true t u h k =
    subst (λ (s : Step _). length s.entries ≤ places)
    (sym (chosen (nat_lt (length es) places) false _ _ t ∙ chosen (is_below e.count (least_count es)) true _ _ u)) h
short-placed-turn n places e es false false t u h k =
    subst (λ (s : Step _). length s.entries ≤ places)
    (sym (chosen (nat_lt (length es) places) false _ _ t ∙ chosen (is_below e.count (least_count es)) false _ _ u))
    (k (bumped es).entries (let s = short-bumped es in omega arith))

short-placed-last : {N : Type 0} (places : ℕ) (e : Entry N) (es : List (Entry N)) (a : Bool) → nat_lt (length es) places ≡ a → length es ≤ places →
    length (placed 0 places e es).entries ≤ places
unfolding placed
short-placed-last places e es true t h =
    subst (λ (s : Step _). length s.entries ≤ places) (sym (chosen (nat_lt (length es) places) true _ _ t))
    (let a = length-append es (e ∷ []) in let l = lt-of (length es) places t in omega arith)
short-placed-last places e es false t h = subst (λ (s : Step _). length s.entries ≤ places) (sym (chosen (nat_lt (length es) places) false _ _ t)) h

pub short-placed : {N : Type 0} (n places : ℕ) (e : Entry N) (es : List (Entry N)) → length es ≤ places → length (placed n places e es).entries ≤ places
short-placed zero places e es h = short-placed-last places e es (nat_lt (length es) places) refl h
short-placed (suc n) places e es h = short-placed-turn n places e es (nat_lt (length es) places) (is_below e.count (least_count es)) refl refl h
    (λ es' h'. short-placed n places e es' h')
