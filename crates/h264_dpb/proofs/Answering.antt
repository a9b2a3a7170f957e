-- What the buffer's calls answer.
use Rattle.std.proofs.Common.{◌≡◌, ℕ, ◌+◌, ◌-◌, ◌<◌, ◌≤◌, Bool, true, false, Option, Result, Ok, Err, List, [], length, refl, ap, sym, ◌∙◌, subst, arith}
use Rattle.std.proofs.Common.{OnOk, not, if◌then◌else◌}
use Rattle.std.proofs.lemmas.List.{length-map}
use Rattle.h264_base.specs.declared.stop.Stop.{Stop}
use Rattle.h264_base.specs.Call.{Call, span}
use Rattle.h264_plane.specs.declared.frame.Frame.{Frame}
use Rattle.h264_marking.specs.Frames.{References}
use Rattle.h264_dpb.specs.declared.entry.Entry.{Entry}
use Rattle.h264_dpb.specs.declared.entry.Placed.{Placed}
use Rattle.h264_dpb.specs.declared.entry.Picture.{Picture}
use Rattle.h264_dpb.specs.declared.entry.Kind.{Kind}
use Rattle.h264_dpb.specs.declared.entry.Kind.TheVariants as kinds
use Rattle.h264_dpb.specs.Bumping.{Step, flushed, is_held, missing_in}
use Rattle.h264_dpb.specs.Renamed.{all_renamed}
use Rattle.h264_dpb.specs.Numbered.{AreRising, number_of}
use Rattle.h264_dpb.specs.Writing.{Writes}
use Rattle.h264_dpb.specs.Buffered.{Buffered, Steps, StaysWithin, HasRoomBy, stored_by, missing_by, still as still_in, entry_of as entry_in}
use Rattle.h264_dpb.specs.declared.ended.Ended.{Ended}
use Rattle.h264_dpb.specs.declared.output.Output.{Output}
use Rattle.h264_dpb.specs.Turns.{Shown, Turn, names, stays, empties, flush_turn, way_turn, missing_turn, store_turn}
use Rattle.h264_dpb.specs.Kept.{Each, IsAtPlace, KeepsBuffer, HasFrames, IsOrdered, kind_of, placed_at, shown_at, shown_calls, waiting_in}
use Rattle.h264_dpb.proofs.Draining.{all-written}
use Rattle.h264_dpb.proofs.OutputSteps.{written-is, entries-are, count-is}
use Rattle.h264_dpb.proofs.Out.{chosen}
use Rattle.h264_dpb.proofs.Rising.{few, few-other, marked-counted}
use Rattle.h264_dpb.proofs.Following.{Follows, IsStored, flushed-follows, missing-follows, stored-follows, missing-each, stored-each, missing-counts}
use Rattle.h264_dpb.proofs.Following.{stored-counts, missing-rising, stored-rising}
use Rattle.h264_base.proofs.Steps.{tells-none}

abbrev pub of_turn : Turn → Step Shown
of_turn t = record { written = t.written; entries = t.buffer.entries }

-- ---- a step that follows a turn

module _ {X S : Type 0} (took : S → List Call → Type 0) (failures : S → ℕ) (lent : ℕ → Option Frame) (step : Step Placed) (missing size : ℕ) (t : Turn)
    (f : Follows step missing size t) where
  pub turn-written : (new : List (Entry Placed)) (s s' : S) (result : Result X Stop) (frames : ℕ → Frame) →
      Steps (span took failures s s') lent step new result → Each (IsAtPlace frames lent) step.written →
      Writes took failures (shown_calls frames t.written) s s' result
  turn-written new s s' result frames h each = written-is took failures lent step (of_turn t) f.is new s s' result frames h each

  -- what is kept after it
  pub turn-kept : (new : Output) (s s' : S) (x : X) (old written joins waited : ℕ) → Steps (span took failures s s') lent step new.buffer.entries (Ok x) →
      new.buffer.missing ≡ missing → new.buffer.size ≡ size → old ≡ written → length step.written + waiting_in step.entries ≡ waited + joins →
      new.frames ≡ old + (waited + joins - waiting_in new.buffer.entries) → KeepsBuffer t.buffer (written + length t.written) new
  turn-kept new s s' x old written joins waited h m z o counts frames = record {
    same = record {
      entries = entries-are took failures lent step (of_turn t) f.is new.buffer.entries s s' x h;
      missing = f.missing_is ∙ sym m;
      size = f.size_is ∙ sym z;
    };
    count =
        let n = count-is step (of_turn t) f.is in
        let w : waiting_in new.buffer.entries ≡ waiting_in step.entries = ap (λ (l : List (Entry Placed)). waiting_in l) h.steps.0 in
        omega (arith, n, w, o, counts, frames);
  }

-- the order of what it leaves
module _ {X S : Type 0} (took : S → List Call → Type 0) (failures : S → ℕ) (lent : ℕ → Option Frame) (step : Step Placed) where
  pub step-ordered : (new : Output) (s s' : S) (x : X) (old joins waited high next : ℕ) →
      Steps (span took failures s s') lent step new.buffer.entries (Ok x) → AreRising number_of 0 step.entries next → StaysWithin new.buffer →
      length step.written + waiting_in step.entries ≡ waited + joins → new.frames ≡ old + (waited + joins - waiting_in new.buffer.entries) →
      old + waited ≤ high → high + joins ≤ next → IsOrdered next new
  step-ordered new s s' x old joins waited high next h rising within counts frames few up = record {
    rising = subst (λ (l : List (Entry Placed)). AreRising number_of 0 l next) (sym h.steps.0) rising;
    within = within;
    count =
        let w : waiting_in new.buffer.entries ≡ waiting_in step.entries = ap (λ (l : List (Entry Placed)). waiting_in l) h.steps.0 in
        omega (arith, w, counts, frames, few, up);
  }

  pub step-each : (P : Placed → Type 0) (new : List (Entry Placed)) (s s' : S) (x : X) → Steps (span took failures s s') lent step new (Ok x) →
      Each P step.entries → Each P new
  step-each P new s s' x h each = subst (λ (l : List (Entry Placed)). Each P l) (sym h.steps.0) each

-- ---- the buffer is emptied

none-written : (es : List (Entry Placed)) → length (flushed false es).written ≡ 0
unfolding flushed
none-written es = refl

pub flush-writes : (es : List (Entry Placed)) (write : Bool) → length (flushed write es).written ≡ (if write then waiting_in es else 0)
flush-writes es true = all-written es
flush-writes es false = none-written es

pub flush-kept : (b : Buffered Shown) (old new : Output) (write : Bool) (size written : ℕ) → KeepsBuffer b written old →
    (let u : Buffered Placed = record { entries = []; missing = 0; size = size } in new.buffer ≡ u) → new.frames ≡
    old.frames + (if write then waiting_in old.buffer.entries else 0) →
    KeepsBuffer (flush_turn write size b).buffer (written + length (flush_turn write size b).written) new
unfolding flush_turn flushed
flush-kept b old new write size written k e f = record {
  same = record {
    entries = sym (ap (λ (u : Buffered Placed). all_renamed shown_at u.entries) e);
    missing = sym (ap (λ (u : Buffered Placed). u.missing) e);
    size = sym (ap (λ (u : Buffered Placed). u.size) e);
  };
  count =
      let n = count-is (flushed write old.buffer.entries) (of_turn (flush_turn write size b)) (flushed-follows b old.buffer write size k.same).is in
      let w = flush-writes old.buffer.entries write in
      let c = k.count in
      omega (arith, n, w, c, f);
}

pub flush-added : (old n : ℕ) (es : List (Entry Placed)) (write b : Bool) → write ≡ b → n ≡ waiting_in es → b ≡ true →
    old + n ≡ old + (if write then waiting_in es else 0)
flush-added old n es write b e w t = ap (λ m. old + m) (w ∙ sym (ap (λ (x : Bool). if x then waiting_in es else 0) (e ∙ t)))

pub flush-same : (old : ℕ) (es : List (Entry Placed)) (write : Bool) → write ≡ false → old ≡ old + (if write then waiting_in es else 0)
flush-same old es write e = let z : old ≡ old + 0 = omega arith in z ∙ sym (ap (λ (x : Bool). old + (if x then waiting_in es else 0)) e)

-- ---- the way of a picture

module _ (p : Ended) (b : Buffered Shown) where
  way-is : empties p ≡ true → way_turn p b ≡ flush_turn (not p.drops) p.size b
  unfolding way_turn
  way-is e = chosen (empties p) true (flush_turn (not p.drops) p.size b) (stays b) e

  way-is-none : empties p ≡ false → way_turn p b ≡ stays b
  unfolding way_turn
  way-is-none e = chosen (empties p) false (flush_turn (not p.drops) p.size b) (stays b) e

  pub way-writes : {X S : Type 0} (took : S → List Call → Type 0) (failures : S → ℕ) (frames : ℕ → Frame) (s s' : S) (result : Result X Stop) → empties p ≡
      true → Writes took failures (shown_calls frames (flush_turn (not p.drops) p.size b).written) s s' result →
      Writes took failures (shown_calls frames (way_turn p b).written) s s' result
  way-writes took failures frames s s' result e h = subst (λ (t : Turn). Writes took failures (shown_calls frames t.written) s s' result) (sym (way-is e)) h

  pub way-keeps : {X : Type 0} (written : ℕ) (new : Output) (result : Result X Stop) → empties p ≡ true →
      OnOk result (KeepsBuffer (flush_turn (not p.drops) p.size b).buffer (written + length (flush_turn (not p.drops) p.size b).written) new) →
      OnOk result (KeepsBuffer (way_turn p b).buffer (written + length (way_turn p b).written) new)
  way-keeps written new result e h = subst (λ (t : Turn). OnOk result (KeepsBuffer t.buffer (written + length t.written) new)) (sym (way-is e)) h

  pub way-stays : (written : ℕ) (new : Output) → empties p ≡ false → KeepsBuffer b written new →
      KeepsBuffer (way_turn p b).buffer (written + length (way_turn p b).written) new
  way-stays written new e k = subst (λ (t : Turn). KeepsBuffer t.buffer (written + length t.written) new) (sym (way-is-none e))
      (record { same = k.same; count = let c = k.count in omega (arith, c) })

  pub way-none : {S : Type 0} (took : S → List Call → Type 0) (failures : S → ℕ) (frames : ℕ → Frame) (s : S) → empties p ≡ false →
      Writes {X = Unit {0}} took failures (shown_calls frames (way_turn p b).written) s s (Ok tt)
  way-none took failures frames s e = subst (λ (t : Turn). Writes {X = Unit {0}} took failures (shown_calls frames t.written) s s (Ok tt))
      (sym (way-is-none e)) (record { writes = (tells-none took s, refl) })

-- ---- the frame of a missing number

module _ {X S : Type 0} (took : S → List Call → Type 0) (failures : S → ℕ) (lent : ℕ → Option Frame) (pic : Picture) (old new : Output) (s s' : S)
    (result : Result X Stop) (is : pic.kind ≡ kinds.Missing)
    (steps : Steps (span took failures s s') lent (stored_by pic.kind pic old.buffer) new.buffer.entries result) where
  missing-steps : Steps (span took failures s s') lent (stored_by kinds.Missing pic old.buffer) new.buffer.entries result
  missing-steps = subst (λ (k : Kind). Steps (span took failures s s') lent (stored_by k pic old.buffer) new.buffer.entries result) is steps

  pub missed-writes : (refs : References) → pic.held.now ≡ names refs → (frames : ℕ → Frame) (b : Buffered Shown) (written : ℕ) → KeepsBuffer b written old →
      HasFrames frames lent old → Writes took failures (shown_calls frames (missing_turn refs b).written) s s' result
  missed-writes refs named frames b written k h =
      turn-written took failures lent (stored_by kinds.Missing pic old.buffer) (missing_in (names refs)) old.buffer.size (missing_turn refs b)
      (missing-follows b old.buffer refs pic k.same named) new.buffer.entries s s' result frames missing-steps
      (missing-each (IsAtPlace frames lent) pic old.buffer h.each).0

  pub missed-keeps : (refs : References) → pic.held.now ≡ names refs → OnOk result (new.buffer.missing ≡ missing_by pic.kind pic old.buffer) →
      new.buffer.size ≡ old.buffer.size → OnOk result (new.frames ≡ old.frames + (waiting_in old.buffer.entries + 0 - waiting_in new.buffer.entries)) →
      (b : Buffered Shown) (written : ℕ) → KeepsBuffer b written old →
      OnOk result (KeepsBuffer (missing_turn refs b).buffer (written + length (missing_turn refs b).written) new)
  missed-keeps refs named m z f b written k = by result missing-steps m f
    where
      by : (result : Result X Stop) → Steps (span took failures s s') lent (stored_by kinds.Missing pic old.buffer) new.buffer.entries result →
          OnOk result (new.buffer.missing ≡ missing_by pic.kind pic old.buffer) →
          OnOk result (new.frames ≡ old.frames + (waiting_in old.buffer.entries + 0 - waiting_in new.buffer.entries)) →
          OnOk result (KeepsBuffer (missing_turn refs b).buffer (written + length (missing_turn refs b).written) new)
      by (Ok x) h m f =
          let counts = missing-counts pic old.buffer in
          let plus : length (stored_by kinds.Missing pic old.buffer).written + waiting_in (stored_by kinds.Missing pic old.buffer).entries ≡
          waiting_in old.buffer.entries + 0 = omega (arith, counts) in
          let number : new.buffer.missing ≡ missing_in (names refs) = m ∙ ap (λ (k : Kind). missing_by k pic old.buffer) is ∙ ap (λ l. missing_in l) named in
          turn-kept took failures lent (stored_by kinds.Missing pic old.buffer) (missing_in (names refs)) old.buffer.size (missing_turn refs b)
          (missing-follows b old.buffer refs pic k.same named) new s s' x old.frames written 0 (waiting_in old.buffer.entries) h number z k.count plus f
      by (Err e) h m f = tt

  pub missed-frames : (frames : ℕ → Frame) → HasFrames frames lent old → OnOk result (HasFrames frames lent new)
  missed-frames frames h = by result missing-steps
    where
      by : (result : Result X Stop) → Steps (span took failures s s') lent (stored_by kinds.Missing pic old.buffer) new.buffer.entries result →
          OnOk result (HasFrames frames lent new)
      by (Ok x) t = record {
        each = step-each took failures lent (stored_by kinds.Missing pic old.buffer) (IsAtPlace frames lent) new.buffer.entries s s' x t
            (missing-each (IsAtPlace frames lent) pic old.buffer h.each).1;
      }
      by (Err e) t = tt

  pub missed-ordered : (StaysWithin old.buffer → OnOk result (StaysWithin new.buffer)) →
      OnOk result (new.frames ≡ old.frames + (waiting_in old.buffer.entries + 0 - waiting_in new.buffer.entries)) → (next : ℕ) → IsOrdered next old →
      OnOk result (IsOrdered next new)
  missed-ordered w f next o = by result missing-steps (w o.within) f
    where
      by : (result : Result X Stop) → Steps (span took failures s s') lent (stored_by kinds.Missing pic old.buffer) new.buffer.entries result →
          OnOk result (StaysWithin new.buffer) → OnOk result (new.frames ≡ old.frames + (waiting_in old.buffer.entries + 0 - waiting_in new.buffer.entries)) →
          OnOk result (IsOrdered next new)
      by (Ok x) h within f =
          let counts = missing-counts pic old.buffer in
          let plus : length (stored_by kinds.Missing pic old.buffer).written + waiting_in (stored_by kinds.Missing pic old.buffer).entries ≡
          waiting_in old.buffer.entries + 0 = omega (arith, counts) in
          step-ordered took failures lent (stored_by kinds.Missing pic old.buffer) new s s' x old.frames 0 (waiting_in old.buffer.entries) next next h
          (missing-rising pic old.buffer next o.rising) within plus f o.count (omega arith)
      by (Err e) h within f = tt

held-count : (refs : References) (l : List (Option ℕ)) → l ≡ names refs → length l ≡ length refs.frames
held-count refs l e = ap (λ (l : List (Option ℕ)). length l) e ∙ length-map refs.frames (λ f. f.picture)

pub miss-room : (refs : References) (pic : Picture) (old : Output) → pic.kind ≡ kinds.Missing → pic.held.now ≡ names refs →
    (next : ℕ) → AreRising number_of 0 old.buffer.entries next → 0 < missing_in (names refs) → length refs.frames ≤ old.buffer.size →
    HasRoomBy pic.kind pic old.buffer
miss-room refs pic old is named next rising some few' =
    subst (λ (k : Kind). HasRoomBy k pic old.buffer) (sym is) (
      subst (λ (l : List (Option ℕ)). 0 < missing_in l) (sym named) some,
      (let all = few number_of 0 next pic.held.now old.buffer.entries rising in
          let count = marked-counted number_of (still_in pic) old.buffer.entries in
          let size = held-count refs pic.held.now named in
          omega (arith, all, count, size, few')),
    )

-- ---- a picture

pub stored-as : (p : Ended) (place : ℕ) (refs : References) (pic : Picture) → pic.kind ≡ kind_of p.reference → pic.of ≡ placed_at p place →
    pic.count ≡ p.count → pic.held.now ≡ names refs → IsStored p place refs pic
stored-as p place refs pic k o c n = record { kind = k; of = o; count = c; named = n }

pub store-room : (p : Ended) (place : ℕ) (refs : References) (pic : Picture) (old : Output) → IsStored p place refs pic →
    AreRising number_of 0 old.buffer.entries p.picture → (p.reference ≡ true → is_held (names refs) p.picture ≡ true) → length refs.frames ≤ old.buffer.size →
    HasRoomBy pic.kind pic old.buffer
store-room p place refs pic old s rising held few' = subst (λ (k : Kind). HasRoomBy k pic old.buffer) (sym s.kind) (by p.reference refl)
  where
    number : pic.of.picture ≡ p.picture
    number = ap (λ (n : Placed). n.picture) s.of

    by : (r : Bool) → p.reference ≡ r → HasRoomBy (kind_of r) pic old.buffer
    by true e =
        let own : is_held pic.held.now pic.of.picture ≡ true = ap (λ (l : List (Option ℕ)). is_held l pic.of.picture) s.named ∙
        ap (λ n. is_held (names refs) n) number ∙ held e in
        let all = few-other number_of 0 pic.held.now (entry_in pic true) old.buffer.entries
        (subst (λ (n : ℕ). AreRising number_of 0 old.buffer.entries n) (sym number) rising) own in
        let count = marked-counted number_of (still_in pic) old.buffer.entries in
        let size = held-count refs pic.held.now s.named in
        omega (arith, all, count, size, few')
    by false e = tt

module _ {X S : Type 0} (took : S → List Call → Type 0) (failures : S → ℕ) (lent : ℕ → Option Frame) (p : Ended) (place : ℕ) (refs : References)
    (pic : Picture) (old new : Output) (s s' : S) (result : Result X Stop) (stored : IsStored p place refs pic)
    (steps : Steps (span took failures s s') lent (stored_by pic.kind pic old.buffer) new.buffer.entries result) where
  abbrev step : Step Placed
  step = stored_by pic.kind pic old.buffer

  pub store-writes : (frames : ℕ → Frame) (b : Buffered Shown) (written : ℕ) → KeepsBuffer b written old → HasFrames frames lent old →
      IsAtPlace frames lent (placed_at p place) → Writes took failures (shown_calls frames (store_turn p refs b).written) s s' result
  store-writes frames b written k h own = turn-written took failures lent step (missing_by pic.kind pic old.buffer) old.buffer.size (store_turn p refs b)
      (stored-follows p place refs pic b old.buffer stored k.same) new.buffer.entries s s' result frames steps
      (stored-each (IsAtPlace frames lent) p place refs pic old.buffer stored own h.each).0

  pub store-keeps : OnOk result (new.buffer.missing ≡ missing_by pic.kind pic old.buffer) → new.buffer.size ≡ old.buffer.size →
      OnOk result (new.frames ≡ old.frames + (waiting_in old.buffer.entries + 1 - waiting_in new.buffer.entries)) →
      (b : Buffered Shown) (written : ℕ) → KeepsBuffer b written old →
      OnOk result (KeepsBuffer (store_turn p refs b).buffer (written + length (store_turn p refs b).written) new)
  store-keeps m z f b written k = by result steps m f
    where
      by : (result : Result X Stop) → Steps (span took failures s s') lent step new.buffer.entries result →
          OnOk result (new.buffer.missing ≡ missing_by pic.kind pic old.buffer) →
          OnOk result (new.frames ≡ old.frames + (waiting_in old.buffer.entries + 1 - waiting_in new.buffer.entries)) →
          OnOk result (KeepsBuffer (store_turn p refs b).buffer (written + length (store_turn p refs b).written) new)
      by (Ok x) h m f = turn-kept took failures lent step (missing_by pic.kind pic old.buffer) old.buffer.size (store_turn p refs b)
          (stored-follows p place refs pic b old.buffer stored k.same) new s s' x old.frames written 1 (waiting_in old.buffer.entries) h m z k.count
          (stored-counts p place refs pic old.buffer stored) f
      by (Err e) h m f = tt

  pub store-frames : (frames : ℕ → Frame) → HasFrames frames lent old → IsAtPlace frames lent (placed_at p place) → OnOk result (HasFrames frames lent new)
  store-frames frames h own = by result steps
    where
      by : (result : Result X Stop) → Steps (span took failures s s') lent step new.buffer.entries result → OnOk result (HasFrames frames lent new)
      by (Ok x) t = record {
        each = step-each took failures lent step (IsAtPlace frames lent) new.buffer.entries s s' x t
            (stored-each (IsAtPlace frames lent) p place refs pic old.buffer stored own h.each).1;
      }
      by (Err e) t = tt

  pub store-ordered : (StaysWithin old.buffer → OnOk result (StaysWithin new.buffer)) →
      OnOk result (new.frames ≡ old.frames + (waiting_in old.buffer.entries + 1 - waiting_in new.buffer.entries)) → IsOrdered p.picture old →
      OnOk result (IsOrdered (p.picture + 1) new)
  store-ordered w f o = by result steps (w o.within) f
    where
      by : (result : Result X Stop) → Steps (span took failures s s') lent step new.buffer.entries result → OnOk result (StaysWithin new.buffer) →
          OnOk result (new.frames ≡ old.frames + (waiting_in old.buffer.entries + 1 - waiting_in new.buffer.entries)) →
          OnOk result (IsOrdered (p.picture + 1) new)
      by (Ok x) h within f = step-ordered took failures lent step new s s' x old.frames 1 (waiting_in old.buffer.entries) p.picture (p.picture + 1) h
          (stored-rising p place refs pic old.buffer stored o.rising) within (stored-counts p place refs pic old.buffer stored) f o.count (omega arith)
      by (Err e) h within f = tt
