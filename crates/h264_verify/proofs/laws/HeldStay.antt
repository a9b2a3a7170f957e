-- Frames that are used for reference stay in the buffer.
use Rattle.std.proofs.Common.{◌≡◌, ℕ, zero, suc, ◌-◌, ◌==◌, ◌&&◌, ◌||◌, nat_lt, Bool, true, false, List, [], ◌∷◌, ◌++◌, map, length, Option, Some, None, ℤ}
use Rattle.std.proofs.Common.{refl, sym, ◌∙◌, subst, if◌then◌else◌, eqb-true}
use Rattle.std.specs.List.{filter, list_any}
use Rattle.std.proofs.lemmas.Bool.{and_from}
use Rattle.h264_marking.specs.Frames.{References}
use Rattle.h264_dpb.specs.declared.entry.Entry.{Entry}
use Rattle.h264_dpb.specs.Bumping.{Step, in_front, is_next, is_below, is_held, missing_in, is_in_use, least_count, left_of, written_at, written_by, bumped}
use Rattle.h264_dpb.specs.Bumping.{made_room, placed, marked, marked_by, stored_reference, stored_other}
use Rattle.h264_dpb.specs.Buffered.{Buffered}
use Rattle.h264_dpb.specs.Turns.{Shown, names, still, reference_turn, other_turn, missing_turn}
use Rattle.h264_verify.specs.Held.{is_kept, Stands}
use Rattle.h264_dpb.proofs.Truths.{true-or, or-true}
use Rattle.h264_verify.proofs.laws.HeldInBuffer.{or-on}

stands-left : (n : ℕ) (xs ys : List (Entry Shown)) → Stands n xs → Stands n (xs ++ ys)
stands-left n [] ys h = cc
stands-left n (x ∷ xs) ys h = or-on (is_kept n x) _ _ (stands-left n xs ys) h

stands-right : (n : ℕ) (xs ys : List (Entry Shown)) → Stands n ys → Stands n (xs ++ ys)
stands-right n [] ys h = h
stands-right n (x ∷ xs) ys h = or-true (is_kept n x) _ (stands-right n xs ys h)

left-by : (n : ℕ) (e : Entry Shown) (es : List (Entry Shown)) (b : Bool) → e.reference ≡ b → (b && e.of.picture == n || list_any (is_kept n) es) ≡ true →
    Stands n ((if b then record e { waiting = false } ∷ [] else []) ++ es)
left-by n e es true r h = or-on' (e.of.picture == n) h
  where
    or-on' : (x : Bool) → (x || list_any (is_kept n) es) ≡ true → (e.reference && x || list_any (is_kept n) es) ≡ true
    or-on' true k = subst (λ (q : Bool). (q && true || list_any (is_kept n) es) ≡ true) (sym r) refl
    or-on' false k = or-true (e.reference && false) _ k
left-by n e es false r h = h

stands-left_of : (n : ℕ) (e : Entry Shown) (es : List (Entry Shown)) → Stands n (e ∷ es) → Stands n (left_of e ++ es)
stands-left_of n e es h = by e.reference refl h
  where
    by : (b : Bool) → e.reference ≡ b → (e.reference && e.of.picture == n || list_any (is_kept n) es) ≡ true → Stands n (left_of e ++ es)
    by b r k = subst (λ (q : Bool). Stands n ((if q then record e { waiting = false } ∷ [] else []) ++ es)) (sym r)
        (left-by n e es b r (subst (λ (q : Bool). (q && e.of.picture == n || list_any (is_kept n) es) ≡ true) r k))

pick : (n : ℕ) (b : Bool) (x y : Step Shown) → Stands n x.entries → Stands n y.entries → Stands n (Step.entries (if b then x else y))
pick n true x y h k = h
pick n false x y h k = k

stands-at : (n : ℕ) (c : ℤ) (es : List (Entry Shown)) → Stands n es → Stands n (written_at c es).entries
stands-at n c [] h = h
stands-at n c (e ∷ es) h = pick n (is_next c e) (record { written = e ∷ []; entries = left_of e ++ es }) (in_front e (written_at c es))
    (stands-left_of n e es h) (or-on (is_kept n e) _ _ (stands-at n c es) h)

stands-by : (n : ℕ) (o : Option ℤ) (es : List (Entry Shown)) → Stands n es → Stands n (written_by o es).entries
stands-by n None es h = h
stands-by n (Some c) es h = stands-at n c es h

stands-bumped : (n : ℕ) (es : List (Entry Shown)) → Stands n es → Stands n (bumped es).entries
unfolding bumped
stands-bumped n es h = stands-by n (least_count es) es h

stands-room : (n m places : ℕ) (es : List (Entry Shown)) → Stands n es → Stands n (made_room m places es).entries
unfolding made_room
stands-room n zero places es h = h
stands-room n (suc m) places es h = pick n (nat_lt (length es) places) _ _ h (stands-room n m places (bumped es).entries (stands-bumped n es h))

stands-placed : (n m places : ℕ) (e : Entry Shown) (es : List (Entry Shown)) → Stands n es → Stands n (placed m places e es).entries
unfolding placed
stands-placed n zero places e es h = pick n (nat_lt (length es) places) _ _ (stands-left n es (e ∷ []) h) h
stands-placed n (suc m) places e es h = pick n (nat_lt (length es) places) _ _ (stands-left n es (e ∷ []) h)
    (pick n (is_below e.count (least_count es)) _ _ h (stands-placed n m places e (bumped es).entries (stands-bumped n es h)))

-- marking leaves those that are held
module _ (n : ℕ) (refs : References) (held : is_held (names refs) n ≡ true) where
  is-marked : (e : Entry Shown) → (e.of.picture == n) ≡ true → is_held (names refs) e.of.picture ≡ true
  is-marked e q = subst (λ (k : ℕ). is_held (names refs) k ≡ true) (sym (eqb-true _ _ q)) held

  stays-by : (e : Entry Shown) (es : List (Entry Shown)) (u : Bool) → is_in_use (marked_by (still refs) e) ≡ u → (same : (e.of.picture == n) ≡ true) →
      Stands n (if u then marked_by (still refs) e ∷ filter is_in_use (map (marked_by (still refs)) es) else filter is_in_use
      (map (marked_by (still refs)) es))
  stays-by e es true q same = true-or _ _ (and_from (is_held (names refs) e.of.picture) (e.of.picture == n) (is-marked e same) same)
  stays-by e es false q same = let t : is_in_use (marked_by (still refs) e) ≡ true = or-true e.waiting _ (is-marked e same) in let f : true ≡ false = sym t ∙
      q in cc

  stays-more : (e : Entry Shown) (es : List (Entry Shown)) (u : Bool) → is_in_use (marked_by (still refs) e) ≡ u →
      Stands n (filter is_in_use (map (marked_by (still refs)) es)) →
      Stands n (if u then marked_by (still refs) e ∷ filter is_in_use (map (marked_by (still refs)) es) else filter is_in_use
      (map (marked_by (still refs)) es))
  stays-more e es true q h = or-true (is_kept n (marked_by (still refs) e)) _ h
  stays-more e es false q h = h

  none : (a b : Bool) → (a && false || b) ≡ true → b ≡ true
  none true b j = j
  none false b j = j

  stays-on : (e : Entry Shown) (es : List (Entry Shown)) (b : Bool) → (e.of.picture == n) ≡ b → (e.reference && b || list_any (is_kept n) es) ≡ true →
      (Stands n es → Stands n (filter is_in_use (map (marked_by (still refs)) es))) → Stands n (filter is_in_use (map (marked_by (still refs)) (e ∷ es)))
  stays-on e es true q k f = stays-by e es (is_in_use (marked_by (still refs) e)) refl q
  stays-on e es false q k f = stays-more e es (is_in_use (marked_by (still refs) e)) refl (f (none e.reference (list_any (is_kept n) es) k))

  stands-marked : (es : List (Entry Shown)) → Stands n es → Stands n (marked (still refs) es)
  unfolding marked
  stands-marked [] h = cc
  stands-marked (e ∷ es) h = stays-on e es (e.of.picture == n) refl h (stands-marked es)

  pub stands-missing : (b : Buffered Shown) → Stands n b.entries → Stands n (missing_turn refs b).buffer.entries
  unfolding missing_turn
  stands-missing b h = stands-room n _ _ _ (stands-marked b.entries h)

  pub stands-reference : (e : Entry Shown) (b : Buffered Shown) → Stands n b.entries → Stands n (reference_turn e refs b).buffer.entries
  unfolding reference_turn stored_reference
  stands-reference e b h =
      let left = marked (still refs) b.entries in
      let places = b.size - missing_in (names refs) in
      stands-left n (made_room (length left) places left).entries (e ∷ []) (stands-room n (length left) places left (stands-marked b.entries h))

pub stands-other : (n : ℕ) (e : Entry Shown) (b : Buffered Shown) → Stands n b.entries → Stands n (other_turn e b).buffer.entries
unfolding other_turn stored_other
stands-other n e b h = stands-placed n _ _ e b.entries h

-- a reference picture that is stored stands there
pub stands-own : (n : ℕ) (e : Entry Shown) (refs : References) (b : Buffered Shown) → e.reference ≡ true → (e.of.picture == n) ≡ true →
    Stands n (reference_turn e refs b).buffer.entries
unfolding reference_turn stored_reference
stands-own n e refs b r q =
    let left = marked (still refs) b.entries in
    stands-right n (made_room (length left) (b.size - missing_in (names refs)) left).entries (e ∷ [])
    (true-or _ _ (and_from e.reference (e.of.picture == n) r q))
