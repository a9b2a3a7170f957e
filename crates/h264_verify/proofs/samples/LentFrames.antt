-- What is kept of the buffer while frames stay at their places.
use Rattle.std.proofs.Common.{◌≡◌, ◌≢◌, ℕ, ◌+◌, ◌-◌, ◌<◌, true, IsTrue, List, [], ◌∷◌, length, Option, Some, None, ap, sym, ◌∙◌, subst, arith}
use Rattle.std.specs.Option.{option_map_or}
use Rattle.std.specs.Prelude.{IfSome}
use Rattle.h264_near.specs.Coded.{CodedMacroblock}
use Rattle.h264_plane.specs.declared.frame.Frame.{Frame}
use Rattle.h264_picture.specs.declared.sequence.Sequence.{Sequence}
use Rattle.h264_picture.specs.declared.work.Work.{Work}
use Rattle.h264_picture.specs.Holds.{HoldsMacroblocks, HoldsIn, Serves, ServesIn, IsActive}
use Rattle.h264_picture.specs.Places.{lent, first_place, purpose_of, KeepsFrames as KeepsLent}
use Rattle.h264_dpb.specs.declared.entry.Entry.{Entry}
use Rattle.h264_dpb.specs.declared.entry.Placed.{Placed}
use Rattle.h264_dpb.specs.declared.output.Output.{Output}
use Rattle.h264_dpb.specs.Turns.{Turn}
use Rattle.h264_dpb.specs.Numbered.{is_taken}
use Rattle.h264_dpb.specs.Buffered.{AreReady, is_ready}
use Rattle.h264_dpb.specs.Kept.{Each, IsAtPlace, HasFrames, KeepsBuffer, IsOrdered, IsReady, is_occupied, place_of}
use Rattle.h264_dpb.proofs.Finding.{lent-at, early-at, taken-at}
use Rattle.h264_verify.specs.declared.decoder.Decoder.{Decoder}
use Rattle.h264_verify.specs.Keeping.{KeepsOutput, HasFormat, IsNear, IsReference, place_by}
use Rattle.h264_dpb.proofs.Truths.{is-same, true-or, or-true}
use Rattle.h264_verify.specs.Telling.{Family, IsFamilyFor}
use Rattle.h264_verify.proofs.samples.FamiliesByPurpose.{family-kept, lends-none, ready-unlent}

-- ---- frames stay where they are lent

-- each frame of the buffer is lent as it was
abbrev pub KeepsPlaces : (ℕ → Option Frame) → (ℕ → Option Frame) → List (Entry Placed) → Type 0
KeepsPlaces old new es = (p : ℕ) → is_taken es p ≡ true → old p ≢ None → new p ≡ old p

pub some-not : {A : Type 0} (o : Option A) (x : A) → o ≡ Some x → o ≢ None
some-not o x e h = let k : Some x ≡ None = sym e ∙ h in cc

module _ (frames : ℕ → Frame) (old new : ℕ → Option Frame) where
  head-lent : (e : Entry Placed) (es : List (Entry Placed)) → KeepsPlaces old new (e ∷ es) → IsAtPlace frames old e.of → new e.of.place ≡ old e.of.place
  head-lent e es k h = k e.of.place (true-or _ _ (is-same e.of.place)) (some-not _ _ h.0)

  pub each-lent : (es : List (Entry Placed)) → KeepsPlaces old new es → Each (IsAtPlace frames old) es → Each (IsAtPlace frames new) es
  each-lent [] k h = tt
  each-lent (e ∷ es) k h = ((head-lent e es k h.0 ∙ h.0.0, h.0.1), each-lent es (λ p t n. k p (or-true _ _ t) n) h.1)

  pub ready-lent : (es : List (Entry Placed)) → KeepsPlaces old new es → Each (IsAtPlace frames old) es → AreReady old es → AreReady new es
  ready-lent [] k h r = tt
  ready-lent (e ∷ es) k h r = (
    subst (λ (o : Option Frame). IsTrue (is_ready (λ (p : ℕ). o) e)) (sym (head-lent e es k h.0)) r.0,
    ready-lent es (λ p t n. k p (or-true _ _ t) n) h.1 r.1,
  )

-- the buffer is the same, and its frames are lent as they were
frames-lent : (frames : Family) (old new : Work) (output : Output) → KeepsPlaces (lent old) (lent new) output.buffer.entries →
    IfSome frames (λ f. HasFrames f (lent old) output) → IfSome frames (λ f. HasFrames f (lent new) output)
frames-lent None old new output keeps h = tt
frames-lent (Some f) old new output keeps h = record { each = each-lent f (lent old) (lent new) output.buffer.entries keeps h.each }

-- each can be shown
pub all-ready : (frames : Family) (old new : Work) (output : Output) → IsFamilyFor (purpose_of new) frames →
    KeepsPlaces (lent old) (lent new) output.buffer.entries → IfSome frames (λ f. HasFrames f (lent old) output) → IsReady (lent old) output →
    IsReady (lent new) output
all-ready None old new output made keeps h r = ready-unlent (lent new) output (lends-none new made)
all-ready (Some f) old new output made keeps h r =
    record { ready = ready-lent f (lent old) (lent new) output.buffer.entries keeps h.each r.ready }

pub output-kept : (frames : Family) (t : Turn) (next : ℕ) (old new : Decoder) → KeepsOutput frames t next old → new.output ≡ old.output →
    purpose_of new.work ≡ purpose_of old.work → KeepsPlaces (lent old.work) (lent new.work) old.output.buffer.entries → HasFormat new.format new.work →
    KeepsOutput frames t next new
output-kept frames t next old new k same purpose keeps format =
    let made = family-kept frames old.work new.work purpose k.made in
    record {
      buffer = subst (λ (o : Output). KeepsBuffer t.buffer (length t.written) o) (sym same) k.buffer;
      made = made;
      frames_are = subst (λ (o : Output). IfSome frames (λ f. HasFrames f (lent new.work) o)) (sym same)
          (frames-lent frames old.work new.work old.output keeps k.frames_are);
      ordered = subst (λ (o : Output). IsOrdered next o) (sym same) k.ordered;
      ready = subst (λ (o : Output). IsReady (lent new.work) o) (sym same) (all-ready frames old.work new.work old.output made keeps k.frames_are k.ready);
      format = format;
    }

-- a work that holds a picture's macroblocks has room for them
serves-active : (width size : ℕ) (ms : List CodedMacroblock) (o : Option Sequence) → IsActive (HoldsIn width size ms) o → IsActive (ServesIn width size) o
serves-active width size ms None h = absurd h
serves-active width size ms (Some s) h = record { row = h.keeps.sized; columns = h.columns; macroblocks = h.macroblocks }

pub holds-serves : (width size : ℕ) (ms : List CodedMacroblock) (work : Work) → HoldsMacroblocks width size ms work → Serves width size work
holds-serves width size ms work h = serves-active width size ms work.active h

-- ---- reference pictures

by-place : (d : Decoder) (n place : ℕ) → place_of d.output n ≡ Some place → place_by d n ≡ place - first_place d.work
by-place d n place e = ap (λ (o : Option ℕ). option_map_or (λ (p : ℕ). p - first_place d.work) o 0) e

pub near-is : (d : Decoder) (n place : ℕ) → IsNear d n place → place ≡ first_place d.work + place_by d n
near-is d n place h = let e = by-place d n place h.found in let f = h.from in omega (arith, e, f)

pub if-some : (P : ℕ → Type 0) (o : Option ℕ) (place : ℕ) → o ≡ Some place → IfSome o P → P place
if-some P None place e h = cc
if-some P (Some x) place e h = let k : x ≡ place = cc in subst P k h

pub near-reference : (frames : ℕ → Frame) (count : ℕ) (d : Decoder) (n place : ℕ) → HasFrames frames (lent d.work) d.output → IsOrdered count d.output →
    IsNear d n place → IsReference frames count d n
near-reference frames count d n place f o h = record {
  before = if-some (λ (p : ℕ). n < count) (place_of d.output n) place h.found (early-at 0 count d.output.buffer.entries n o.rising);
  near = let e = by-place d n place h.found in let t = h.near in let g = h.from in omega (arith, e, t, g);
  lent_is = subst (λ (p : ℕ). lent d.work p ≡ Some (frames n)) (near-is d n place h)
      (if-some (λ (p : ℕ). lent d.work p ≡ Some (frames n)) (place_of d.output n) place h.found
      (lent-at frames (lent d.work) d.output.buffer.entries n f.each));
}

pub near-taken : (d : Decoder) (n place : ℕ) → IsNear d n place → is_occupied place d.output ≡ true
near-taken d n place h = if-some (λ (p : ℕ). is_occupied p d.output ≡ true) (place_of d.output n) place h.found (taken-at d.output.buffer.entries n)

-- the buffer and the first place are the same
pub same-place : (old new : Decoder) (n : ℕ) → new.output ≡ old.output → first_place new.work ≡ first_place old.work → place_by new n ≡ place_by old n
same-place old new n o f =
    ap (λ (x : Output). option_map_or (λ (p : ℕ). p - first_place new.work) (place_of x n) 0) o
    ∙ ap (λ (first : ℕ). option_map_or (λ (p : ℕ). p - first) (place_of old.output n) 0) f

pub reference-kept : (frames : ℕ → Frame) (count : ℕ) (old new : Decoder) (n : ℕ) → new.output ≡ old.output → first_place new.work ≡ first_place old.work →
    KeepsLent old.work new.work → IsReference frames count old n → IsReference frames count new n
reference-kept frames count old new n o f k h =
    let e = same-place old new n o f in
    let at : first_place new.work + place_by new n ≡ first_place old.work + place_by old n = omega (arith, e, f) in
    let near = h.near in
    record {
      before = h.before;
      near = omega (arith, e, near);
      lent_is = subst (λ (p : ℕ). lent new.work p ≡ Some (frames n)) (sym at) (k _ (some-not _ _ h.lent_is) ∙ h.lent_is);
    }
