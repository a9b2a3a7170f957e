-- No step looks at a name.
use Rattle.std.proofs.Common.{◌≡◌, ℕ, zero, suc, Bool, true, false, ◌||◌, Option, Some, None, List, [], ◌∷◌, ◌++◌, map, length, refl, ap, sym, ◌∙◌, ℤ}
use Rattle.std.proofs.Common.{if◌then◌else◌}
use Rattle.std.specs.Prelude.{nat_lt}
use Rattle.std.specs.List.{filter}
use Rattle.std.proofs.lemmas.List.{map-append, length-map}
use Rattle.h264_dpb.specs.declared.entry.Entry.{Entry}
use Rattle.h264_dpb.specs.Bumping.{Step, leaves, joins, and_then, in_front, is_next, is_below, least_with, least_count, left_of, written_at, written_by}
use Rattle.h264_dpb.specs.Bumping.{bumped, made_room, placed, marked, marked_by, is_in_use, emptied, flushed, stored_reference, stored_other}
use Rattle.h264_dpb.specs.Renamed.{renamed, all_renamed, renamed_step}
use Rattle.h264_dpb.proofs.Out.{chosen}

module _ {N M : Type 0} (f : N → M) where
  least-renamed : (es : List (Entry N)) → least_count (all_renamed f es) ≡ least_count es
  least-renamed [] = refl
  least-renamed (e ∷ es) = ap (λ o. if e.waiting then Some (least_with e.count o) else o) (least-renamed es)

  left-renamed : (e : Entry N) (es : List (Entry N)) (b : Bool) → e.reference ≡ b → left_of (renamed f e) ++ all_renamed f es ≡ all_renamed f (left_of e ++ es)
  left-renamed e es true r = ap (λ l. l ++ all_renamed f es) (chosen e.reference true _ _ r) ∙
      sym (ap (λ l. all_renamed f (l ++ es)) (chosen e.reference true _ _ r))
  left-renamed e es false r = ap (λ l. l ++ all_renamed f es) (chosen e.reference false _ _ r) ∙
      sym (ap (λ l. all_renamed f (l ++ es)) (chosen e.reference false _ _ r))

  at-turn : (c : ℤ) (e : Entry N) (es : List (Entry N)) (b : Bool) → is_next c e ≡ b → written_at c (all_renamed f es) ≡ renamed_step f (written_at c es) →
      written_at c (all_renamed f (e ∷ es)) ≡ renamed_step f (written_at c (e ∷ es))
  at-turn c e es true n h = chosen (is_next c e) true _ _ n ∙
      ap (λ l. (let s : Step M = record { written = renamed f e ∷ []; entries = l } in s)) (left-renamed e es e.reference refl) ∙
      sym (ap (λ s. renamed_step f s) (chosen (is_next c e) true _ _ n))
  at-turn c e es false n h = chosen (is_next c e) false _ _ n ∙ ap (λ s. in_front (renamed f e) s) h ∙
      sym (ap (λ s. renamed_step f s) (chosen (is_next c e) false _ _ n))

  written_at-renamed : (c : ℤ) (es : List (Entry N)) → written_at c (all_renamed f es) ≡ renamed_step f (written_at c es)
  written_at-renamed c [] = refl
  written_at-renamed c (e ∷ es) = at-turn c e es (is_next c e) refl (written_at-renamed c es)

  written_by-renamed : (o : Option ℤ) (es : List (Entry N)) → written_by o (all_renamed f es) ≡ renamed_step f (written_by o es)
  written_by-renamed None es = refl
  written_by-renamed (Some c) es = written_at-renamed c es

  pub bumped-renamed : (es : List (Entry N)) → bumped (all_renamed f es) ≡ renamed_step f (bumped es)
  unfolding bumped
  bumped-renamed es = ap (λ o. written_by o (all_renamed f es)) (least-renamed es) ∙ written_by-renamed (least_count es) es

  then-renamed : (s : Step N) (t : Step M) (g : List (Entry M) → Step M) (h : List (Entry N) → Step N) → t ≡ renamed_step f s →
      ((es : List (Entry N)) → g (all_renamed f es) ≡ renamed_step f (h es)) → and_then t g ≡ renamed_step f (and_then s h)
  then-renamed s t g h e k =
      ap (λ x. and_then x g) e
      ∙ ap (λ (x : Step M). (let u : Step M = record { written = all_renamed f s.written ++ x.written; entries = x.entries } in u)) (k s.entries)
      ∙ ap (λ l. (let u : Step M = record { written = l; entries = all_renamed f (h s.entries).entries } in u))
      (sym (map-append (renamed f) s.written (h s.entries).written))

  room-turn : (n places : ℕ) (es : List (Entry N)) (b : Bool) → nat_lt (length es) places ≡ b →
      ((es : List (Entry N)) → made_room n places (all_renamed f es) ≡ renamed_step f (made_room n places es)) →
      made_room (suc n) places (all_renamed f es) ≡ renamed_step f (made_room (suc n) places es)
  unfolding made_room
  room-turn n places es true t k = chosen (nat_lt (length (all_renamed f es)) places) true _ _ (ap (λ m. nat_lt m places) (length-map es (renamed f)) ∙ t) ∙
      sym (ap (λ s. renamed_step f s) (chosen (nat_lt (length es) places) true _ _ t))
  room-turn n places es false t k = chosen (nat_lt (length (all_renamed f es)) places) false _ _ (ap (λ m. nat_lt m places) (length-map es (renamed f)) ∙ t) ∙
      then-renamed (bumped es) (bumped (all_renamed f es)) (made_room n places) (made_room n places) (bumped-renamed es) k ∙
      sym (ap (λ s. renamed_step f s) (chosen (nat_lt (length es) places) false _ _ t))

  pub made_room-renamed : (n places : ℕ) (es : List (Entry N)) → made_room n places (all_renamed f es) ≡ renamed_step f (made_room n places es)
  unfolding made_room
  made_room-renamed zero places es = refl
  made_room-renamed (suc n) places es = room-turn n places es (nat_lt (length es) places) refl (made_room-renamed n places)

  joins-renamed : (e : Entry N) (es : List (Entry N)) → joins (renamed f e) (all_renamed f es) ≡ renamed_step f (joins e es)
  joins-renamed e es = ap (λ l. (let s : Step M = leaves l in s)) (sym (map-append (renamed f) es (e ∷ [])))

  pub reference-renamed : (places : ℕ) (e : Entry N) (es : List (Entry N)) →
      stored_reference places (renamed f e) (all_renamed f es) ≡ renamed_step f (stored_reference places e es)
  unfolding stored_reference
  reference-renamed places e es = ap (λ n. and_then (made_room n places (all_renamed f es)) (joins (renamed f e))) (length-map es (renamed f)) ∙
      then-renamed (made_room (length es) places es) (made_room (length es) places (all_renamed f es)) (joins (renamed f e)) (joins e)
      (made_room-renamed (length es) places es) (joins-renamed e)

  marked-turn : (held : M → Bool) (e : Entry N) (es : List (Entry N)) (b : Bool) → (e.waiting || held (f e.of)) ≡ b →
      filter is_in_use (map (marked_by held) (all_renamed f es)) ≡ all_renamed f (filter is_in_use (map (marked_by (λ n. held (f n))) es)) →
      filter is_in_use (map (marked_by held) (all_renamed f (e ∷ es))) ≡ all_renamed f (filter is_in_use (map (marked_by (λ n. held (f n))) (e ∷ es)))
  marked-turn held e es true u h = chosen (e.waiting || held (f e.of)) true
      (marked_by held (renamed f e) ∷ filter is_in_use (map (marked_by held) (all_renamed f es))) _ u ∙ ap (λ l. marked_by held (renamed f e) ∷ l) h ∙
      sym (ap (λ l. all_renamed f l) (chosen (e.waiting || held (f e.of)) true
      (marked_by (λ n. held (f n)) e ∷ filter is_in_use (map (marked_by (λ n. held (f n))) es)) _ u))
  marked-turn held e es false u h = chosen (e.waiting || held (f e.of)) false
      (marked_by held (renamed f e) ∷ filter is_in_use (map (marked_by held) (all_renamed f es))) _ u ∙ h ∙
      sym (ap (λ l. all_renamed f l) (chosen (e.waiting || held (f e.of)) false
      (marked_by (λ n. held (f n)) e ∷ filter is_in_use (map (marked_by (λ n. held (f n))) es)) _ u))

  pub marked-renamed : (held : M → Bool) (es : List (Entry N)) → marked held (all_renamed f es) ≡ all_renamed f (marked (λ n. held (f n)) es)
  unfolding marked
  marked-renamed held [] = refl
  marked-renamed held (e ∷ es) = marked-turn held e es (e.waiting || held (f e.of)) refl (marked-renamed held es)

  placed-turn : (n places : ℕ) (e : Entry N) (es : List (Entry N)) (a b : Bool) → nat_lt (length es) places ≡ a → is_below e.count (least_count es) ≡ b →
      ((es : List (Entry N)) → placed n places (renamed f e) (all_renamed f es) ≡ renamed_step f (placed n places e es)) →
      placed (suc n) places (renamed f e) (all_renamed f es) ≡ renamed_step f (placed (suc n) places e es)
  unfolding placed
  placed-turn n places e es true b t u k =
      chosen (nat_lt (length (all_renamed f es)) places) true _ _ (ap (λ m. nat_lt m places) (length-map es (renamed f)) ∙ t)
      ∙ joins-renamed e es
      ∙ sym (ap (λ s. renamed_step f s) (chosen (nat_lt (length es) places) true _ _ t))
  placed-turn n places e es false true t u k =
      chosen (nat_lt (length (all_renamed f es)) places) false _ _ (ap (λ m. nat_lt m places) (length-map es (renamed f)) ∙ t)
      ∙ chosen (is_below e.count (least_count (all_renamed f es))) true _ _ (ap (is_below e.count) (least-renamed es) ∙ u)
      ∙ sym (ap (λ s. renamed_step f s) (chosen (nat_lt (length es) places) false _ _ t ∙ chosen (is_below e.count (least_count es)) true _ _ u))
  placed-turn n places e es false false t u k =
      chosen (nat_lt (length (all_renamed f es)) places) false _ _ (ap (λ m. nat_lt m places) (length-map es (renamed f)) ∙ t)
      ∙ chosen (is_below e.count (least_count (all_renamed f es))) false _ _ (ap (is_below e.count) (least-renamed es) ∙ u)
      ∙ then-renamed (bumped es) (bumped (all_renamed f es)) (placed n places (renamed f e)) (placed n places e) (bumped-renamed es) k
      ∙ sym (ap (λ s. renamed_step f s) (chosen (nat_lt (length es) places) false _ _ t ∙ chosen (is_below e.count (least_count es)) false _ _ u))

  placed-last : (places : ℕ) (e : Entry N) (es : List (Entry N)) (a : Bool) → nat_lt (length es) places ≡ a →
      placed 0 places (renamed f e) (all_renamed f es) ≡ renamed_step f (placed 0 places e es)
  unfolding placed
  placed-last places e es true t =
      chosen (nat_lt (length (all_renamed f es)) places) true _ _ (ap (λ m. nat_lt m places) (length-map es (renamed f)) ∙ t)
      ∙ joins-renamed e es
      ∙ sym (ap (λ s. renamed_step f s) (chosen (nat_lt (length es) places) true _ _ t))
  placed-last places e es false t =
      chosen (nat_lt (length (all_renamed f es)) places) false _ _ (ap (λ m. nat_lt m places) (length-map es (renamed f)) ∙ t)
      ∙ sym (ap (λ s. renamed_step f s) (chosen (nat_lt (length es) places) false _ _ t))

  placed-renamed : (n places : ℕ) (e : Entry N) (es : List (Entry N)) → placed n places (renamed f e) (all_renamed f es) ≡ renamed_step f (placed n places e es)
  placed-renamed zero places e es = placed-last places e es (nat_lt (length es) places) refl
  placed-renamed (suc n) places e es = placed-turn n places e es (nat_lt (length es) places) (is_below e.count (least_count es)) refl refl
      (placed-renamed n places e)

  pub other-renamed : (places : ℕ) (e : Entry N) (es : List (Entry N)) →
      stored_other places (renamed f e) (all_renamed f es) ≡ renamed_step f (stored_other places e es)
  unfolding stored_other
  other-renamed places e es = ap (λ n. placed n places (renamed f e) (all_renamed f es)) (length-map es (renamed f)) ∙ placed-renamed (length es) places e es

  pub room-renamed : (places : ℕ) (es : List (Entry N)) →
      made_room (length (all_renamed f es)) places (all_renamed f es) ≡ renamed_step f (made_room (length es) places es)
  room-renamed places es = ap (λ n. made_room n places (all_renamed f es)) (length-map es (renamed f)) ∙ made_room-renamed (length es) places es

  pub flushed-renamed : (write : Bool) (es : List (Entry N)) → flushed write (all_renamed f es) ≡ renamed_step f (flushed write es)
  unfolding flushed emptied
  flushed-renamed true es = ap (λ (s : Step M). (let u : Step M = record { written = s.written; entries = [] } in u)) (room-renamed 0 es)
  flushed-renamed false es = refl
