-- A step at the places follows a turn of pictures: what is written is the turn's, and what is kept is what it leaves.
use Rattle.std.proofs.Common.{◌≡◌, ℕ, ◌+◌, ◌-◌, Bool, true, false, Option, List, length, refl, ap, sym, ◌∙◌, subst, arith}
use Rattle.h264_marking.specs.Frames.{References}
use Rattle.h264_dpb.specs.declared.entry.Entry.{Entry}
use Rattle.h264_dpb.specs.declared.entry.Placed.{Placed}
use Rattle.h264_dpb.specs.declared.entry.Picture.{Picture}
use Rattle.h264_dpb.specs.declared.entry.Kind.{Kind}
use Rattle.h264_dpb.specs.declared.entry.Kind.TheVariants as kinds
use Rattle.h264_dpb.specs.Bumping.{Step, is_held, missing_in, marked, flushed}
use Rattle.h264_dpb.specs.Renamed.{renamed, renamed_step}
use Rattle.h264_dpb.specs.Numbered.{AreRising, number_of}
use Rattle.h264_dpb.specs.Buffered.{Buffered, reference_step, other_step, missing_step, stored_by, missing_by, still as still_in, entry_of as entry_in}
use Rattle.h264_dpb.proofs.Out.{chosen}
use Rattle.h264_dpb.proofs.Rising.{rising-marked, rising-made_room, rising-reference, rising-other}
use Rattle.h264_dpb.specs.declared.ended.Ended.{Ended}
use Rattle.h264_dpb.specs.Turns.{Shown, Turn, names, still, entry_of, flush_turn, reference_turn, other_turn, missing_turn, store_turn}
use Rattle.h264_dpb.specs.Kept.{Each, SameBuffer, kind_of, placed_at, shown_at, waiting_in}
use Rattle.h264_dpb.proofs.Every.{both-reference, both-other, both-made_room, each-marked}
use Rattle.h264_dpb.proofs.Counting.{counts-reference, counts-other, counts-made_room, counts-marked}
use Rattle.h264_dpb.proofs.OutputSteps.{reference-is, other-is, missing-is, flush-is}

pub record Follows (step : Step Placed) (missing size : ℕ) (t : Turn) : Type 0 where
  pub is : (let s : Step Shown = record { written = t.written; entries = t.buffer.entries } in s ≡ renamed_step shown_at step)
  pub missing_is : t.buffer.missing ≡ missing
  pub size_is : t.buffer.size ≡ size

-- ---- the turns

pub flushed-follows : (b : Buffered Shown) (kept : Buffered Placed) (write : Bool) (size : ℕ) → SameBuffer b kept →
    Follows (flushed write kept.entries) 0 size (flush_turn write size b)
unfolding flush_turn
flushed-follows b kept write size same = record { is = flush-is b kept same write; missing_is = refl; size_is = refl }

pub missing-follows : (b : Buffered Shown) (kept : Buffered Placed) (refs : References) (pic : Picture) → SameBuffer b kept → pic.held.now ≡ names refs →
    Follows (stored_by kinds.Missing pic kept) (missing_in (names refs)) kept.size (missing_turn refs b)
unfolding missing_turn
missing-follows b kept refs pic same named = record {
  is = missing-is b kept same refs (missing_in (names refs)) ∙
      sym (ap (λ (l : List (Option ℕ)). renamed_step shown_at (missing_step (λ n. is_held l n.picture) (missing_in l) kept)) named);
  missing_is = refl;
  size_is = same.size;
}

-- a picture that is stored
pub record IsStored (p : Ended) (place : ℕ) (refs : References) (pic : Picture) : Type 0 where
  pub kind : pic.kind ≡ kind_of p.reference
  pub of : pic.of ≡ placed_at p place
  pub count : pic.count ≡ p.count
  pub named : pic.held.now ≡ names refs

entry-is : (p : Ended) (place : ℕ) (refs : References) (pic : Picture) (r : Bool) → IsStored p place refs pic → p.reference ≡ r →
    entry_of p ≡ renamed shown_at (entry_in pic r)
entry-is p place refs pic r h e = rw (h.of, h.count, e) refl

stored-by-kind : (p : Ended) (place : ℕ) (refs : References) (pic : Picture) (b : Buffered Shown) (kept : Buffered Placed) (r : Bool) →
    IsStored p place refs pic → SameBuffer b kept → p.reference ≡ r →
    Follows (stored_by (kind_of r) pic kept) (missing_by (kind_of r) pic kept) kept.size (store_turn p refs b)
unfolding store_turn reference_turn other_turn
stored-by-kind p place refs pic b kept true h same e =
    subst (λ (t : Turn). Follows (stored_by kinds.Reference pic kept) (missing_in pic.held.now) kept.size t) (sym (chosen p.reference true _ _ e)) (record {
      is =
          ap (λ (x : Entry Shown). reference_step x (still refs) (missing_in (names refs)) b) (entry-is p place refs pic true h e)
          ∙ reference-is b kept same (entry_in pic true) refs (missing_in (names refs))
          ∙ sym (ap (λ (l : List (Option ℕ)). renamed_step shown_at (reference_step (entry_in pic true) (λ n. is_held l n.picture) (missing_in l) kept))
          h.named);
      missing_is = sym (ap (λ l. missing_in l) h.named);
      size_is = same.size;
    })
stored-by-kind p place refs pic b kept false h same e =
    subst (λ (t : Turn). Follows (stored_by kinds.Other pic kept) kept.missing kept.size t) (sym (chosen p.reference false _ _ e)) (record {
      is =
          ap (λ (x : Entry Shown). other_step x b) (entry-is p place refs pic false h e)
          ∙ other-is b kept same (entry_in pic false);
      missing_is = same.missing;
      size_is = same.size;
    })

pub stored-follows : (p : Ended) (place : ℕ) (refs : References) (pic : Picture) (b : Buffered Shown) (kept : Buffered Placed) → IsStored p place refs pic →
    SameBuffer b kept → Follows (stored_by pic.kind pic kept) (missing_by pic.kind pic kept) kept.size (store_turn p refs b)
stored-follows p place refs pic b kept h same =
    subst (λ (k : Kind). Follows (stored_by k pic kept) (missing_by k pic kept) kept.size (store_turn p refs b)) (sym h.kind)
    (stored-by-kind p place refs pic b kept p.reference h same refl)

-- ---- frames at their places

module _ (P : Placed → Type 0) where
  pub missing-each : (pic : Picture) (kept : Buffered Placed) → Each P kept.entries → Each P (stored_by kinds.Missing pic kept).written ×
      Each P (stored_by kinds.Missing pic kept).entries
  missing-each pic kept each = both-made_room P _ _ (marked (still_in pic) kept.entries) (each-marked P (still_in pic) kept.entries each)

  stored-each-by : (pic : Picture) (kept : Buffered Placed) (r : Bool) → P pic.of → Each P kept.entries → Each P (stored_by (kind_of r) pic kept).written ×
      Each P (stored_by (kind_of r) pic kept).entries
  stored-each-by pic kept true own each = both-reference P _ (entry_in pic true) (marked (still_in pic) kept.entries) own
      (each-marked P (still_in pic) kept.entries each)
  stored-each-by pic kept false own each = both-other P _ (entry_in pic false) kept.entries own each

  pub stored-each : (p : Ended) (place : ℕ) (refs : References) (pic : Picture) (kept : Buffered Placed) → IsStored p place refs pic → P (placed_at p place) →
      Each P kept.entries → Each P (stored_by pic.kind pic kept).written × Each P (stored_by pic.kind pic kept).entries
  stored-each p place refs pic kept h own each =
      subst (λ (k : Kind). Each P (stored_by k pic kept).written × Each P (stored_by k pic kept).entries) (sym h.kind)
      (stored-each-by pic kept p.reference (subst P (sym h.of) own) each)

-- ---- how many are written

pub missing-counts : (pic : Picture) (kept : Buffered Placed) →
    length (stored_by kinds.Missing pic kept).written + waiting_in (stored_by kinds.Missing pic kept).entries ≡ waiting_in kept.entries
missing-counts pic kept = counts-made_room (length (marked (still_in pic) kept.entries)) (kept.size - (missing_in pic.held.now - 1))
    (marked (still_in pic) kept.entries) ∙ counts-marked (still_in pic) kept.entries

stored-counts-by : (pic : Picture) (kept : Buffered Placed) (r : Bool) →
    length (stored_by (kind_of r) pic kept).written + waiting_in (stored_by (kind_of r) pic kept).entries ≡ waiting_in kept.entries + 1
stored-counts-by pic kept true = counts-reference (kept.size - missing_in pic.held.now) (entry_in pic true) (marked (still_in pic) kept.entries) refl ∙
    ap (λ n. n + 1) (counts-marked (still_in pic) kept.entries)
stored-counts-by pic kept false = counts-other (kept.size - kept.missing) (entry_in pic false) kept.entries refl

pub stored-counts : (p : Ended) (place : ℕ) (refs : References) (pic : Picture) (kept : Buffered Placed) → IsStored p place refs pic →
    length (stored_by pic.kind pic kept).written + waiting_in (stored_by pic.kind pic kept).entries ≡ waiting_in kept.entries + 1
stored-counts p place refs pic kept h = subst
    (λ (k : Kind). length (stored_by k pic kept).written + waiting_in (stored_by k pic kept).entries ≡ waiting_in kept.entries + 1) (sym h.kind)
    (stored-counts-by pic kept p.reference)

-- ---- their order

pub missing-rising : (pic : Picture) (kept : Buffered Placed) (high : ℕ) → AreRising number_of 0 kept.entries high →
    AreRising number_of 0 (stored_by kinds.Missing pic kept).entries high
missing-rising pic kept high h = rising-made_room number_of 0 high _ _ (marked (still_in pic) kept.entries)
    (rising-marked number_of 0 high (still_in pic) kept.entries h)

stored-rising-by : (pic : Picture) (kept : Buffered Placed) (r : Bool) → AreRising number_of 0 kept.entries pic.of.picture →
    AreRising number_of 0 (stored_by (kind_of r) pic kept).entries (pic.of.picture + 1)
stored-rising-by pic kept true h = rising-reference number_of 0 pic.of.picture _ (entry_in pic true) (marked (still_in pic) kept.entries) (omega arith)
    (rising-marked number_of 0 pic.of.picture (still_in pic) kept.entries h)
stored-rising-by pic kept false h = rising-other number_of 0 pic.of.picture _ (entry_in pic false) kept.entries (omega arith) h

pub stored-rising : (p : Ended) (place : ℕ) (refs : References) (pic : Picture) (kept : Buffered Placed) → IsStored p place refs pic →
    AreRising number_of 0 kept.entries p.picture → AreRising number_of 0 (stored_by pic.kind pic kept).entries (p.picture + 1)
stored-rising p place refs pic kept h r =
    let number : pic.of.picture ≡ p.picture = ap (λ (n : Placed). n.picture) h.of in
    subst (λ (n : ℕ). AreRising number_of 0 (stored_by pic.kind pic kept).entries (n + 1)) number
    (subst (λ (k : Kind). AreRising number_of 0 (stored_by k pic kept).entries (pic.of.picture + 1)) (sym h.kind)
    (stored-rising-by pic kept p.reference (subst (λ (n : ℕ). AreRising number_of 0 kept.entries n) (sym number) r)))
