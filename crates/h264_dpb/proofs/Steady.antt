-- What one more frame of a missing frame_num leaves as it is.
use Rattle.std.proofs.Common.{◌≡◌, ℕ, zero, suc, ◌-◌, ◌&&◌, ◌==◌, nat_lt, Bool, true, false, cond, List, [], ◌∷◌, map, length, refl, ap, sym, ◌∙◌, eqb-true}
use Rattle.std.proofs.lemmas.List.{length-map}
use Rattle.std.specs.List.{filter, list_all}
use Rattle.std.specs.Bool.{beq}
use Rattle.h264_marking.specs.Frames.{References}
use Rattle.h264_dpb.specs.declared.entry.Entry.{Entry}
use Rattle.h264_dpb.specs.declared.entry.Placed.{Placed}
use Rattle.h264_dpb.specs.Bumping.{Step, leaves, made_room, marked, marked_by, is_in_use, is_held, missing_in}
use Rattle.h264_dpb.specs.Buffered.{Buffered}
use Rattle.h264_dpb.specs.Renamed.{all_renamed, renamed}
use Rattle.h264_dpb.specs.Turns.{Shown, Turn, turn_of, stays, names, still, missing_turn}
use Rattle.h264_dpb.specs.Kept.{SameBuffer, shown_at}
use Rattle.h264_dpb.specs.Steady.{is_marked, is_steady}
use Rattle.h264_dpb.proofs.Renaming.{marked-renamed}
use Rattle.std.proofs.lemmas.Bool.{and_parts}

same-by : (a b : Bool) → beq a b ≡ true → b ≡ a
same-by true true h = refl
same-by false false h = refl
same-by true false h = cc
same-by false true h = cc

module _ {N : Type 0} (held : N → Bool) where
  marks-same : (es : List (Entry N)) → list_all (is_marked held) es ≡ true → filter is_in_use (map (marked_by held) es) ≡ es
  marks-same [] h = refl
  marks-same (e ∷ es) h =
      let p = and_parts (is_marked held e) (list_all (is_marked held) es) h in
      let q = and_parts (beq e.reference (held e.of)) (is_in_use e) p.0 in
      let rest = filter is_in_use (map (marked_by held) es) in
      ap (λ (r : Bool). let m : Entry N = record e { reference = r } in cond (is_in_use m) (m ∷ rest) rest) (same-by e.reference (held e.of) q.0)
      ∙ ap (λ (b : Bool). cond b (e ∷ rest) rest) q.1
      ∙ ap (λ (xs : List (Entry N)). e ∷ xs) (marks-same es p.1)

  marked-same : (es : List (Entry N)) → list_all (is_marked held) es ≡ true → marked held es ≡ es
  unfolding marked
  marked-same es h = marks-same es h

-- a place is free
free-already : {N : Type 0} (n places : ℕ) (es : List (Entry N)) → nat_lt (length es) places ≡ true → made_room n places es ≡ leaves es
unfolding made_room
free-already zero places es h = refl
free-already (suc n) places es h = rw h refl

pub steady-turn : (refs : References) (b : Buffered Shown) (kept : Buffered Placed) → SameBuffer b kept → is_steady (names refs) kept ≡ true →
    missing_turn refs b ≡ stays b
unfolding missing_turn
steady-turn refs b kept same h =
    let missing = missing_in (names refs) in
    let p = and_parts (kept.missing == missing && nat_lt (length kept.entries) (kept.size - (missing - 1)))
    (list_all (is_marked (λ n. is_held (names refs) n.picture)) kept.entries) h in
    let q = and_parts (kept.missing == missing) (nat_lt (length kept.entries) (kept.size - (missing - 1))) p.0 in
    let stay : marked (still refs) b.entries ≡ b.entries = ap (marked (still refs)) same.entries ∙ marked-renamed shown_at (still refs) kept.entries ∙
    ap (all_renamed shown_at) (marked-same (λ n. still refs (shown_at n)) kept.entries p.1) ∙ sym same.entries in
    let lengths : length b.entries ≡ length kept.entries = ap length same.entries ∙ length-map kept.entries (renamed shown_at) in
    let free : nat_lt (length b.entries) (b.size - (missing - 1)) ≡ true = ap (λ (n : ℕ). nat_lt n (b.size - (missing - 1))) lengths ∙
    ap (λ (n : ℕ). nat_lt (length kept.entries) (n - (missing - 1))) same.size ∙ q.1 in
    ap (λ (es : List (Entry Shown)). turn_of (made_room (length es) (b.size - (missing - 1)) es) missing b.size) stay
    ∙ ap (λ (s : Step Shown). turn_of s missing b.size) (free-already (length b.entries) (b.size - (missing - 1)) b.entries free)
    ∙ ap (λ (n : ℕ). let t : Turn = record { written = []; buffer = record { entries = b.entries; missing = n; size = b.size } } in t)
    (sym (eqb-true kept.missing missing q.0) ∙ sym same.missing)
