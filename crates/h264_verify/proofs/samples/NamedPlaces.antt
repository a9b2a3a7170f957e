-- The pictures that the list of a slice names have their places among those of the active sequence.
use Rattle.std.proofs.Common.{◌≡◌, ℕ, zero, suc, ◌+◌, ◌-◌, ◌<◌, ◌≤◌, ◌==◌, ◌&&◌, ◌||◌, not, Bool, true, false, List, [], ◌∷◌, map, length, get_or}
use Rattle.std.proofs.Common.{Option, Some, None, Result, Ok, Err, IfOk, refl, ap, sym, ◌∙◌, subst, arith, if◌then◌else◌}
use Rattle.std.proofs.lemmas.Bool.{not-true}
use Rattle.std.proofs.lemmas.Bool.Decides.{nat_tests}
use Rattle.std.specs.List.{list_any, slice_get, AllByRecursion}
use Rattle.std.specs.Option.{option_and_then}
use Rattle.std.specs.Result.{result_unwrap_or}
use Rattle.h264_plane.specs.declared.frame.Frame.{Frame}
use Rattle.h264_header.specs.declared.header.SliceKind.{SliceKind}
use Rattle.h264_header.specs.declared.header.SliceKind.TheVariants as kinds
use Rattle.h264_header.specs.Picture.{is_idr}
use Rattle.h264_marking.specs.declared.frame.ReferenceFrame.{ReferenceFrame}
use Rattle.h264_marking.specs.declared.frame.Numbering.{Numbering}
use Rattle.h264_marking.specs.Frames.{References}
use Rattle.h264_marking.specs.Ended.{numbering_of}
use Rattle.h264_lists.specs.declared.slot.RefSlot.{RefSlot}
use Rattle.h264_lists.specs.declared.slot.RefSlot.TheVariants.{NoPicture, Held}
use Rattle.h264_lists.specs.Built.{AreOf, built}
use Rattle.h264_lists.proofs.Held.{built-held}
use Rattle.h264_vectors.specs.declared.slice.SliceContext.{SliceContext}
use Rattle.h264_picture.specs.declared.sequence.Sequence.{Sequence}
use Rattle.h264_picture.specs.declared.work.Work.{Work}
use Rattle.h264_picture.specs.declared.frames.Frames.{Frames}
use Rattle.h264_picture.specs.declared.frames.TheConstants.{PLACES}
use Rattle.h264_recon.specs.Table.{table}
use Rattle.h264_picture.specs.Context.{picture_in, slice_context}
use Rattle.h264_picture.specs.Lent.{lent_in, frames_in}
use Rattle.h264_picture.specs.Places.{lent, first_place, places, MakesFrames, is_active_place, IsReleased}
use Rattle.h264_dpb.specs.declared.entry.Entry.{Entry}
use Rattle.h264_dpb.specs.declared.entry.Placed.{Placed}
use Rattle.h264_dpb.specs.Bumping.{is_picture, is_held}
use Rattle.h264_dpb.specs.Renamed.{all_renamed}
use Rattle.h264_dpb.specs.Numbered.{place_in}
use Rattle.h264_dpb.specs.Turns.{Shown, Turn, names}
use Rattle.h264_dpb.specs.Kept.{shown_at}
use Rattle.h264_dpb.proofs.Finding.{lent-at}
use Rattle.h264_picture.proofs.Canvases.{below-places}
use Rattle.h264_verify.specs.declared.decoder.Decoder.{Decoder}
use Rattle.h264_verify.specs.Held.{Stands}
use Rattle.h264_verify.specs.Pictures.{CodedSlice, CodedPicture, joined_to, last_slice, held_in}
use Rattle.h264_verify.specs.Lists.{list_of, list_in, context_in, named_in}
use Rattle.h264_verify.specs.Buffering.{within_newest}
use Rattle.h264_verify.specs.Data.{coded_so_far}
use Rattle.h264_verify.specs.Decoding.{number_of}
use Rattle.h264_verify.specs.Slices.{is_i}
use Rattle.h264_verify.specs.Sound.{AreSound}
use Rattle.h264_verify.specs.Keeping.{KeepsOutput, HasPlace, SlicesSome, BeginsFrames, is_typed}
use Rattle.h264_dpb.proofs.Truths.{is-same, true-or, or-true}
use Rattle.h264_verify.proofs.samples.LentFrames.{if-some}
use Rattle.h264_verify.proofs.samples.FamiliesByPurpose.{some-of}
use Rattle.h264_verify.proofs.samples.SliceSamples.{context-number}
use Rattle.h264_verify.proofs.laws.HeldPictures.{among-within}
use Rattle.h264_verify.specs.Telling.{Family}

-- ---- the place of a frame in the buffer

place-on : (e : Entry Placed) (es : List (Entry Placed)) (n : ℕ) (b : Bool) → (e.of.picture == n) ≡ b →
    (e.reference && b || list_any (λ (x : Entry Shown). x.reference && x.of.picture == n) (all_renamed shown_at es)) ≡ true →
    (Stands n (all_renamed shown_at es) → (place : ℕ) × (place_in es n ≡ Some place)) → (place : ℕ) × (place_in (e ∷ es) n ≡ Some place)
place-on e es n true q h f = (e.of.place, ap (λ (b : Bool). if b then Some e.of.place else place_in es n) q)
place-on e es n false q h f = let r = f (rest e.reference _ h) in (r.0, ap (λ (b : Bool). if b then Some e.of.place else place_in es n) q ∙ r.1)
  where
    rest : (a b : Bool) → (a && false || b) ≡ true → b ≡ true
    rest true b k = k
    rest false b k = k

-- a frame that stands in it has one
place-some : (es : List (Entry Placed)) (n : ℕ) → Stands n (all_renamed shown_at es) → (place : ℕ) × (place_in es n ≡ Some place)
place-some [] n h = cc
place-some (e ∷ es) n h = place-on e es n _ refl h (place-some es n)

-- ---- a frame that is lent, once the frames of the sequence before are gone

-- it is at one of the places of the active sequence
record IsActiveAt (work : Work) (p : ℕ) : Type 0 where
  from : first_place work ≤ p
  to : p < first_place work + places work
  near : p < first_place work + PLACES

active-by : (work : Work) (p : ℕ) (f : Frame) (b : Bool) → is_active_place work.base p ≡ b → IsReleased work →
    (if b then lent_in (option_and_then (λ (s : Sequence). frames_in s.canvas) work.active) (p - work.base) else lent_in work.older
    (p - (PLACES - work.base))) ≡ Some f →
    IsActiveAt work p
active-by work p f true t r e =
    let k = below-places work.active (p - work.base) f e in
    let a : (work.base ≤ p) × (p - work.base < 17) = grind (arith, nat_tests) in
    record { from = a.0; to = let l = a.0 in omega (arith, k, l); near = let l = a.0 in let m = a.1 in omega (arith, l, m) }
active-by work p f false t r e = let g : None ≡ Some f = sym (ap (λ (o : Option Frames). lent_in o (p - (PLACES - work.base))) r) ∙ e in cc

-- a frame that stands in the buffer has a place among them
placed-one : (frames : ℕ → Frame) (t : Turn) (next : ℕ) (d : Decoder) (n : ℕ) → KeepsOutput (Some frames) t next d → IsReleased d.work →
    Stands n t.buffer.entries → HasPlace d n
placed-one frames t next d n o r s =
    let p = place-some d.output.buffer.entries n (subst (λ (es : List (Entry Shown)). Stands n es) o.buffer.same.entries s) in
    let is = if-some (λ (q : ℕ). lent d.work q ≡ Some (frames n)) (place_in d.output.buffer.entries n) p.0 p.1
    (lent-at frames (lent d.work) d.output.buffer.entries n o.frames_are.each) in
    let a = active-by d.work p.0 (frames n) _ refl r is in
    record { place = p.0; near = record { found = p.1; from = a.from; to = a.to; near = a.near } }

pub held-place : (frames : Family) (t : Turn) (next : ℕ) (d : Decoder) (n : ℕ) → MakesFrames d.work → KeepsOutput frames t next d → IsReleased d.work →
    Stands n t.buffer.entries → HasPlace d n
held-place None t next d n m o r s = some-of (HasPlace d n) None d.work o.made m tt
held-place (Some frames) t next d n m o r s = placed-one frames t next d n o r s

-- ---- what a list names

-- the picture of this frame is held
abbrev IsHeld : List ReferenceFrame → ReferenceFrame → Type 0
IsHeld all f = (n : ℕ) → f.picture ≡ Some n → is_held (map (λ (g : ReferenceFrame). g.picture) all) n ≡ true

each-held : (all fs : List ReferenceFrame) →
    ((n : ℕ) → is_held (map (λ (g : ReferenceFrame). g.picture) fs) n ≡ true → is_held (map (λ (g : ReferenceFrame). g.picture) all) n ≡ true) →
    AllByRecursion (IsHeld all) fs
each-held all [] up = tt
each-held all (f ∷ fs) up = (
  λ n e. up n (true-or _ _ (ap (λ (o : Option ℕ). is_picture n o) e ∙ is-same n)),
  each-held all fs (λ n h. up n (or-true (is_picture n f.picture) _ h)),
)

of-ok : (P : ReferenceFrame → Type 0) (r : Result (List RefSlot) ℕ) → IfOk r (AreOf P) → AreOf P (result_unwrap_or r [])
of-ok P (Ok slots) h = h
of-ok P (Err bit) h = tt

list-held : (kind : SliceKind) (c : Numbering) (refs : References) → AreOf (IsHeld refs.frames) (result_unwrap_or (list_of kind c refs) [])
list-held kinds.I c refs = tt
list-held (kinds.P list) c refs = of-ok (IsHeld refs.frames) (built c list refs.frames)
    (built-held c list refs.frames (IsHeld refs.frames) (each-held refs.frames refs.frames (λ n h. h)))

slot-of : (P : ReferenceFrame → Type 0) (slots : List RefSlot) (k n : ℕ) → AreOf P slots → option_and_then picture_in (slice_get slots k) ≡ Some n →
    (f : ReferenceFrame) × P f × (f.picture ≡ Some n)
slot-of P [] k n h e = cc
slot-of P (NoPicture ∷ slots) zero n h e = cc
slot-of P (Held f ∷ slots) zero n h e = (f, h.0, e)
slot-of P (NoPicture ∷ slots) (suc k) n h e = slot-of P slots k n h e
slot-of P (Held f ∷ slots) (suc k) n h e = slot-of P slots k n h.1 e

table-at : {A : Type 0} (m k : ℕ) (f : ℕ → A) (d : A) → k < m → get_or (table m f) k d ≡ f k
unfolding table
table-at zero k f d l = absurd (omega (arith, l))
table-at (suc m) zero f d l = refl
table-at (suc m) (suc k) f d l = table-at m k (λ i. f (suc i)) d (omega (arith, l))

-- the picture in a place of it
named-slot : (pictures : List CodedPicture) (s : CodedSlice) (k n : ℕ) → k < 16 → get_or (named_in pictures s) k None ≡ Some n →
    option_and_then picture_in (slice_get (list_in pictures s) k) ≡ Some n
unfolding slice_context
named-slot pictures s k n small e = sym (table-at 16 k (λ (i : ℕ). option_and_then picture_in (slice_get (list_in pictures s) i)) None small) ∙ e

-- is held
named-held : (pictures : List CodedPicture) (s : CodedSlice) (k n : ℕ) → k < 16 → get_or (named_in pictures s) k None ≡ Some n →
    is_held (names (held_in pictures)) n ≡ true
named-held pictures s k n small e =
    let x = slot-of (IsHeld (held_in pictures).frames) (list_in pictures s) k n
    (list-held s.header.kind.value (numbering_of s.sps s.header) (held_in pictures)) (named-slot pictures s k n small e) in
    x.1 n x.2

-- a slice of an IDR picture names none
not-idr : (pictures : List CodedPicture) (s : CodedSlice) (k n : ℕ) → is_typed s.header ≡ true → k < 16 → get_or (named_in pictures s) k None ≡ Some n →
    is_idr s.header ≡ false
not-idr pictures s k n typed small e = by s.header.kind.value refl
  where
    no-slot : (slots : List RefSlot) → slots ≡ [] → option_and_then picture_in (slice_get slots k) ≡ Some n → ⊥
    no-slot slots q h = let g : ◌≡◌ {A = Option ℕ} None (Some n) = sym (ap (λ (l : List RefSlot). option_and_then picture_in (slice_get l k)) q) ∙ h in cc

    by : (kind : SliceKind) → s.header.kind.value ≡ kind → is_idr s.header ≡ false
    by kinds.I q = absurd (no-slot (list_in pictures s)
        (ap (λ (x : SliceKind). result_unwrap_or (list_of x (numbering_of s.sps s.header) (held_in pictures)) []) q) (named-slot pictures s k n small e))
    by (kinds.P list) q = not-true (is_idr s.header) (sym (ap (λ (x : SliceKind). is_i x || not (is_idr s.header)) q) ∙ typed)

-- ---- before slice data are read

module _ (frames : Family) (s : CodedSlice) (d : Decoder) (typed : is_typed s.header ≡ true) where
  named-place : (begins : Bool) (pictures : List CodedPicture) → AreSound false (joined_to begins s pictures) → BeginsFrames frames begins s pictures d →
      MakesFrames d.work → (k n : ℕ) → k < 16 → get_or (named_in (joined_to begins s pictures) s) k None ≡ Some n → HasPlace d n
  named-place true pictures sound b m k n small e =
      let stands = among-within false (record { first = s; later = [] }) pictures sound n (named-held (joined_to true s pictures) s k n small e) in
      held-place frames (within_newest (joined_to true s pictures)) (length pictures) d n m b.output
      (b.picture.settled (not-idr (joined_to true s pictures) s k n typed small e)).released stands
  named-place false [] sound b m k n small e = absurd b
  named-place false (p ∷ ps) sound b m k n small e =
      let stands = among-within false (record p { later = s ∷ p.later }) ps sound n (named-held (joined_to false s (p ∷ ps)) s k n small e) in
      let first : is_idr p.first.header ≡ false = sym sound.0.last ∙ not-idr (joined_to false s (p ∷ ps)) s k n typed small e in
      held-place frames (within_newest (p ∷ ps)) (length ps) d n m b.output (b.picture.settled first).released stands

  -- the macroblocks before it are held
  abbrev HoldsBy : Bool → List CodedPicture → Type 0
  HoldsBy begins pictures = (references : List (Option ℕ)) (number : ℕ) → number ≡ length (coded_so_far begins pictures) →
      (MakesFrames d.work → (k n : ℕ) → k < 16 → get_or references k None ≡ Some n → HasPlace d n) → SlicesSome number references d

  slices-by : (begins : Bool) (pictures : List CodedPicture) → BeginsFrames frames begins s pictures d → HoldsBy begins pictures
  slices-by true pictures b = λ references number e h. record { width = _; size = _; macroblocks = []; holds = b.picture.so_far.holds; next = e; named = h }
  slices-by false [] b = absurd b
  slices-by false (p ∷ ps) b = λ references number e
      h. record { width = _; size = _; macroblocks = (last_slice p).macroblocks; holds = b.picture.so_far.holds; next = e; named = h }

  pub slices-some : (begins : Bool) (pictures : List CodedPicture) (c : SliceContext) → c ≡ context_in (joined_to begins s pictures) s →
      number_of s ≡ length (coded_so_far begins pictures) → AreSound false (joined_to begins s pictures) → BeginsFrames frames begins s pictures d →
      SlicesSome c.number c.references d
  slices-some begins pictures c is next sound b =
      slices-by begins pictures b c.references c.number
      (ap (λ (x : SliceContext). x.number) is ∙ context-number s.pps s (list_in (joined_to begins s pictures) s) ∙ next)
      (λ m k n small e. named-place begins pictures sound b m k n small (ap (λ (x : SliceContext). get_or x.references k None) (sym is) ∙ e))
