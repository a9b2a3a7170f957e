-- From what the places hold to pictures alone: what is written, and what is kept.
use Rattle.std.proofs.Common.{◌≡◌, ℕ, ◌-◌, Bool, Option, Result, Ok, Err, List, [], ◌∷◌, ◌++◌, length, refl, ap, sym, ◌∙◌, subst, OnOk}
use Rattle.std.proofs.lemmas.List.{length-map}
use Rattle.h264_base.specs.declared.stop.Stop.{Stop}
use Rattle.h264_base.specs.Call.{Call, span}
use Rattle.h264_plane.specs.declared.frame.Frame.{Frame}
use Rattle.h264_marking.specs.Frames.{References}
use Rattle.h264_dpb.specs.declared.entry.Entry.{Entry}
use Rattle.h264_dpb.specs.declared.entry.Placed.{Placed}
use Rattle.h264_dpb.specs.Bumping.{Step, is_held, marked, stored_reference, stored_other, flushed}
use Rattle.h264_dpb.specs.Renamed.{renamed, all_renamed, renamed_step}
use Rattle.h264_dpb.specs.Shown.{frame_call}
use Rattle.h264_dpb.specs.Writing.{LendsNone, calls_with, calls_of, Writes}
use Rattle.h264_dpb.specs.Buffered.{Buffered, Steps, reference_step, other_step, missing_step, room_step}
use Rattle.h264_dpb.proofs.Renaming.{marked-renamed, reference-renamed, other-renamed, room-renamed, flushed-renamed}
use Rattle.h264_dpb.specs.Turns.{Shown, names, still}
use Rattle.h264_dpb.specs.Kept.{Each, IsAtPlace, SameBuffer, shown_at, shown_calls}

-- the calls of frames at their places are those of their pictures
pub calls-are : (frames : ℕ → Frame) (lent : ℕ → Option Frame) (written : List (Entry Placed)) → Each (IsAtPlace frames lent) written →
    calls_of lent written ≡ shown_calls frames (all_renamed shown_at written)
calls-are frames lent [] h = refl
calls-are frames lent (e ∷ es) h =
    ap (λ (o : Option Frame). calls_with o e ++ calls_of lent es) h.0.0
    ∙ ap (λ (l : List Call). frame_call e.count (frames e.of.picture) e.of.rectangle ∷ l) (calls-are frames lent es h.1)

-- nothing is told of frames that are not lent
pub calls-none : (lent : ℕ → Option Frame) (written : List (Entry Placed)) → LendsNone lent → calls_of lent written ≡ []
calls-none lent [] n = refl
calls-none lent (e ∷ es) n = ap (λ (o : Option Frame). calls_with o e ++ calls_of lent es) (n e.of.place) ∙ calls-none lent es n

pub passed-over : {X S : Type 0} (took : S → List Call → Type 0) (failures : S → ℕ) (lent : ℕ → Option Frame) (step : Step Placed)
    (new : List (Entry Placed)) (s s' : S) (result : Result X Stop) → LendsNone lent → Steps (span took failures s s') lent step new result →
    Writes took failures [] s s' result
passed-over {X} took failures lent step new s s' (Ok x) n h =
    subst (λ (l : List Call). Writes {X = X} took failures l s s' (Ok x)) (calls-none lent step.written n) (record { writes = (h.steps.1, h.steps.2) })
passed-over {X} took failures lent step new s s' (Err e) n h =
    subst (λ (l : List Call). Writes {X = X} took failures l s s' (Err e)) (calls-none lent step.written n) (record { writes = h.steps })

-- is it still held?
abbrev pub held_by : References → Placed → Bool
held_by refs n = is_held (names refs) n.picture

module _ (b : Buffered Shown) (kept : Buffered Placed) (same : SameBuffer b kept) where
  pub reference-is : (e : Entry Placed) (refs : References) (missing : ℕ) → reference_step (renamed shown_at e) (still refs) missing b ≡
      renamed_step shown_at (reference_step e (held_by refs) missing kept)
  reference-is e refs missing =
      ap (λ (n : ℕ). stored_reference (n - missing) (renamed shown_at e) (marked (still refs) b.entries)) same.size
      ∙ ap (λ (es : List (Entry Shown)). stored_reference (kept.size - missing) (renamed shown_at e) (marked (still refs) es)) same.entries
      ∙ ap (λ (es : List (Entry Shown)). stored_reference (kept.size - missing) (renamed shown_at e) es) (marked-renamed shown_at (still refs) kept.entries)
      ∙ reference-renamed shown_at (kept.size - missing) e (marked (held_by refs) kept.entries)

  pub other-is : (e : Entry Placed) → other_step (renamed shown_at e) b ≡ renamed_step shown_at (other_step e kept)
  other-is e =
      ap (λ (n : ℕ). stored_other (n - b.missing) (renamed shown_at e) b.entries) same.size
      ∙ ap (λ (n : ℕ). stored_other (kept.size - n) (renamed shown_at e) b.entries) same.missing
      ∙ ap (λ (es : List (Entry Shown)). stored_other (kept.size - kept.missing) (renamed shown_at e) es) same.entries
      ∙ other-renamed shown_at (kept.size - kept.missing) e kept.entries

  pub missing-is : (refs : References) (missing : ℕ) → missing_step (still refs) missing b ≡ renamed_step shown_at (missing_step (held_by refs) missing kept)
  missing-is refs missing =
      ap (λ (n : ℕ). room_step (n - (missing - 1)) (marked (still refs) b.entries)) same.size
      ∙ ap (λ (es : List (Entry Shown)). room_step (kept.size - (missing - 1)) (marked (still refs) es)) same.entries
      ∙ ap (λ (es : List (Entry Shown)). room_step (kept.size - (missing - 1)) es) (marked-renamed shown_at (still refs) kept.entries)
      ∙ room-renamed shown_at (kept.size - (missing - 1)) (marked (held_by refs) kept.entries)

  pub flush-is : (write : Bool) → flushed write b.entries ≡ renamed_step shown_at (flushed write kept.entries)
  flush-is write = ap (λ (es : List (Entry Shown)). flushed write es) same.entries ∙ flushed-renamed shown_at write kept.entries

-- A step at the places was made, which is this step of pictures.
module _ {X S : Type 0} (took : S → List Call → Type 0) (failures : S → ℕ) (lent : ℕ → Option Frame) (step : Step Placed) (t : Step Shown)
    (is : t ≡ renamed_step shown_at step) where
  pub written-is : (new : List (Entry Placed)) (s s' : S) (result : Result X Stop) (frames : ℕ → Frame) →
      Steps (span took failures s s') lent step new result → Each (IsAtPlace frames lent) step.written →
      Writes took failures (shown_calls frames t.written) s s' result
  written-is new s s' result frames h each = by result h
    where
      calls : calls_of lent step.written ≡ shown_calls frames t.written
      calls = calls-are frames lent step.written each ∙ ap (λ (u : Step Shown). shown_calls frames u.written) (sym is)

      by : (result : Result X Stop) → Steps (span took failures s s') lent step new result → Writes took failures (shown_calls frames t.written) s s' result
      by (Ok x) h = subst (λ (l : List Call). Writes took failures l s s' (Ok x)) calls (record { writes = (h.steps.1, h.steps.2) })
      by (Err e) h = subst (λ (l : List Call). Writes {X = X} took failures l s s' (Err e)) calls (record { writes = h.steps })

  pub entries-are : (new : List (Entry Placed)) (s s' : S) (x : X) → Steps (span took failures s s') lent step new (Ok x) → t.entries ≡ all_renamed shown_at new
  entries-are new s s' x h = ap (λ (u : Step Shown). u.entries) is ∙ ap (all_renamed shown_at) (sym h.steps.0)

pub count-is : (step : Step Placed) (t : Step Shown) → t ≡ renamed_step shown_at step → length t.written ≡ length step.written
count-is step t is = ap (λ (u : Step Shown). length u.written) is ∙ length-map step.written (renamed shown_at)

-- ---- on an answer

pub on-ok : {X P Q : Type 0} (result : Result X Stop) → (P → Q) → OnOk result P → OnOk result Q
on-ok (Ok x) f h = f h
on-ok (Err e) f h = tt

pub on-both : {X P Q R : Type 0} (result : Result X Stop) → (P → Q → R) → OnOk result P → OnOk result Q → OnOk result R
on-both (Ok x) f h k = f h k
on-both (Err e) f h k = tt
