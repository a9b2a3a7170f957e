-- A picture that has ended takes its place in the buffer.
use Rattle.std.proofs.Common.{◌≡◌, ℕ, ◌+◌, ◌*◌, ◌<◌, ◌≤◌, not, Bool, true, false, IsTrue, List, ◌∷◌, ◌++◌, length, Option, Some, None, Result, Ok}
use Rattle.std.specs.Prelude.{IfSome}
use Rattle.std.proofs.Common.{Err, OnOk, refl, ap, sym, ◌∙◌, subst, arith, length-append, if◌then◌else◌}
use Rattle.h264_verify.specs.declared.state.Depth.TheVariants as depths
use Rattle.h264_plane.specs.declared.frame.Frame.{Frame}
use Rattle.h264_plane.specs.Frames.{IsFrame}
use Rattle.h264_sps.specs.declared.sps.Sps.{Sps}
use Rattle.h264_picture.specs.declared.work.Work.{Work}
use Rattle.h264_picture.specs.Buffer.{buffer_size}
use Rattle.h264_picture.specs.Places.{lent, first_place, places, purpose_of, MakesFrames}
use Rattle.h264_picture.specs.Places.{is_active_place, HasSize, IsFrameOf, IsReleased, KeepsFrames as KeepsLent}
use Rattle.h264_marking.specs.Frames.{References}
use Rattle.h264_dpb.specs.declared.output.Output.{Output}
use Rattle.h264_dpb.specs.declared.ended.Ended.{Ended}
use Rattle.h264_dpb.specs.Ending.{ended_of}
use Rattle.h264_dpb.specs.Rectangles.{rectangle_of}
use Rattle.h264_header.specs.Picture.{is_idr}
use Rattle.h264_dpb.specs.Buffered.{Buffered, AreReady}
use Rattle.h264_dpb.specs.Turns.{Shown, empties, flush_turn, way_turn, store_turn, reference_turn, other_turn, stays, turn_then, end_turn, entry_of}
use Rattle.h264_dpb.specs.Kept.{Each, KeepsBuffer, HasFrames, IsAtPlace, IsOrdered, IsReady, IsEmpty, placed_at, size_of}
use Rattle.h264_dpb.specs.Shown.{fits, fits_in}
use Rattle.h264_verify.specs.declared.decoder.Decoder.{Decoder}
use Rattle.h264_verify.specs.declared.decoder.Format.{Format}
use Rattle.h264_verify.specs.Pictures.{CodedPicture, held_after, last_slice, picture_size}
use Rattle.h264_verify.specs.Buffering.{ended_picture, within_newest, after_all, told_frames, told_picture}
use Rattle.h264_verify.specs.Keeping.{HasFormat, IsRoomFor, IsSized, KeepsFrames}
use Rattle.h264_verify.specs.Memory.{format_of}
use Rattle.h264_verify.proofs.samples.LentFrames.{each-lent, all-ready}
use Rattle.h264_verify.proofs.samples.FamiliesByPurpose.{made-for, family-kept, lends-none}
use Rattle.h264_verify.proofs.samples.PictureEndFrame.{with_one, with_frame, frame-at, with-agrees, with-family, frames-agree, rectangle-fits}
use Rattle.h264_verify.proofs.samples.PictureEndFrame.{making, is-making, is-decoded, decoded-as}
use Rattle.h264_base.specs.Call.{Call, span}
use Rattle.h264_base.specs.declared.stop.Stop.{Stop}
use Rattle.h264_picture.specs.Making.{Making, HoldsSamples, IsDecodedIn}
use Rattle.h264_picture.specs.Holds.{Serves}
use Rattle.h264_dpb.specs.Writing.{Writes}
use Rattle.h264_verify.specs.Decoding.{IsDecoded}
use Rattle.h264_verify.specs.Telling.{Decodes, HasFrame, IsFamilyFor, calls_to_show, took_with, Family}
use Rattle.h264_verify.specs.Outcome.{Outcome, ◌>>=◌, tells, Plays}
use Rattle.h264_verify.specs.Course.{Steps, ◌>>◌}
use Rattle.h264_verify.specs.CourseOutcome.{outcome_of}
use Rattle.h264_verify.proofs.language.OutcomesPlayed.{plays-on, plays-stops}
use Rattle.h264_verify.proofs.samples.ToldFrames.{IsLentFor, decodes-plays, end-outcome, writes-plays}
use Rattle.h264_base.proofs.Plain.{first-false}

buffer-some : (sps : Sps) → 0 < buffer_size sps
unfolding buffer_size
buffer-some sps = omega arith

buffer-most : (sps : Sps) → buffer_size sps ≤ 16
unfolding buffer_size
buffer-most sps = omega arith

-- what the buffer is told of it
pub ended-number : (p : CodedPicture) (ps : List CodedPicture) (e : Ended) → e ≡ ended_picture p ps → e.picture ≡ length ps
unfolding ended_of
ended-number p ps e is = ap (λ (x : Ended). x.picture) is

ended-rectangle : (p : CodedPicture) (ps : List CodedPicture) (e : Ended) → e ≡ ended_picture p ps → e.rectangle ≡ rectangle_of p.first.sps
unfolding ended_of
ended-rectangle p ps e is = ap (λ (x : Ended). x.rectangle) is

ended-size : (p : CodedPicture) (ps : List CodedPicture) (e : Ended) → e ≡ ended_picture p ps → e.size ≡ buffer_size p.first.sps
unfolding ended_of
ended-size p ps e is = ap (λ (x : Ended). x.size) is

pub ended-few : (p : CodedPicture) (ps : List CodedPicture) (e : Ended) → e ≡ ended_picture p ps → (0 < e.size) × (e.size ≤ 16)
ended-few p ps e is = (
  subst (λ (n : ℕ). 0 < n) (sym (ended-size p ps e is)) (buffer-some p.first.sps),
  subst (λ (n : ℕ). n ≤ 16) (sym (ended-size p ps e is)) (buffer-most p.first.sps),
)

ended-idr : (p : CodedPicture) (ps : List CodedPicture) (e : Ended) → e ≡ ended_picture p ps → e.idr ≡ is_idr p.first.header
unfolding ended_of
ended-idr p ps e is = ap (λ (x : Ended). x.idr) is

-- how many places the buffer has then
way-sized : (e : Ended) (b : Buffered Shown) (n : ℕ) → (empties e ≡ true → e.size ≡ n) → (empties e ≡ false → b.size ≡ n) → (way_turn e b).buffer.size ≡ n
unfolding way_turn flush_turn
way-sized e b n f g = by (empties e) refl
  where
    by : (x : Bool) → empties e ≡ x → (if x then flush_turn (not e.drops) e.size b else stays b).buffer.size ≡ n
    by true h = f h
    by false h = g h

store-sized : (e : Ended) (refs : References) (b : Buffered Shown) → (store_turn e refs b).buffer.size ≡ b.size
unfolding store_turn reference_turn other_turn
store-sized e refs b = by e.reference
  where
    by : (x : Bool) → (if x then reference_turn (entry_of e) refs b else other_turn (entry_of e) b).buffer.size ≡ b.size
    by true = refl
    by false = refl

-- The picture has ended, and its frame is lent at its place, where frames are made.
abbrev pub IsFramed : Family → CodedPicture → Option Frame → Type 0
IsFramed None p o = Unit {0}
IsFramed (Some frames) p o = IsFrameOf p.first.sps.frame_size.width p.first.sps.frame_size.height o

-- it is, where the work has made it
pub framed-by : (frames : Family) (p : CodedPicture) (o : Option Frame) (work : Work) → IsFamilyFor (purpose_of work) frames →
    (MakesFrames work → IsFrameOf p.first.sps.frame_size.width p.first.sps.frame_size.height o) → IsFramed frames p o
framed-by None p o work m f = tt
framed-by (Some frames) p o work m f = f (made-for (purpose_of work) frames m)

pub ordered-then : (frames : Family) (p : CodedPicture) (ps : List CodedPicture) (old : Decoder) (e : Ended) → e ≡ ended_picture p ps →
    KeepsFrames frames true false (p ∷ ps) old → IsOrdered e.picture old.output
ordered-then frames p ps old e is k = subst (λ (n : ℕ). IsOrdered n old.output) (sym (ended-number p ps e is)) k.output.ordered

-- the frames of the buffer are lent, and this one is
pub frames-then : (frames : Family) (p : CodedPicture) (ps : List CodedPicture) (old : Decoder) → KeepsFrames frames true false (p ∷ ps) old →
    (work : Work) → KeepsLent old.work work → purpose_of work ≡ purpose_of old.work → (o : Option Frame) → IsFramed frames p o →
    IsLentFor (with_frame frames (length ps) o) (lent work) old.output
frames-then None p ps old k work kept purpose o h = lends-none work (family-kept None old.work work purpose k.output.made)
frames-then (Some frames) p ps old k work kept purpose None h = absurd h
frames-then (Some frames) p ps old k work kept purpose (Some f) h =
    frames-agree frames (with_one frames (length ps) f) (lent work) (length ps) old.output (with-agrees (Some frames) (length ps) (Some f))
    k.output.ordered.rising
    (record { each = each-lent frames (lent old.work) (lent work) old.output.buffer.entries (λ q t n. kept q n) k.output.frames_are.each })

pub ready-then : (frames : Family) (p : CodedPicture) (ps : List CodedPicture) (old : Decoder) → KeepsFrames frames true false (p ∷ ps) old →
    (work : Work) → KeepsLent old.work work → purpose_of work ≡ purpose_of old.work → IsReady (lent work) old.output
ready-then frames p ps old k work kept purpose =
    all-ready frames old.work work old.output (family-kept frames old.work work purpose k.output.made) (λ q t n. kept q n) k.output.frames_are k.output.ready

-- Its place, once the frames of the sequence before are let go of.
pub record Settled (e : Ended) (old mid new : Decoder) (work : Work) (o : Option Frame) : Type 0 where
  pub work_is : mid.work ≡ work
  pub place_is : mid.place ≡ old.place
  pub format_is : mid.format ≡ old.format
  pub lent_is : lent work old.place ≡ o
  pub first : first_place work ≡ first_place old.work
  pub stays_if : empties e ≡ false → new ≡ mid
  pub others : new ≡ record mid { work = new.work }
  pub on : (q : ℕ) → is_active_place (first_place mid.work) q ≡ true → lent new.work q ≡ lent mid.work q
  pub emptied : empties e ≡ true → IsEmpty mid.output
  pub purpose : purpose_of work ≡ purpose_of old.work
  pub purpose_then : purpose_of new.work ≡ purpose_of mid.work

module _ (p : CodedPicture) (ps : List CodedPicture) (old : Decoder) (e : Ended) (is : e ≡ ended_picture p ps) (mid new : Decoder) (work : Work)
    (o : Option Frame) (s : Settled e old mid new work o) where
  output-is : new.output ≡ mid.output
  output-is = ap (λ (d : Decoder). d.output) s.others

  pub purpose-then : purpose_of new.work ≡ purpose_of old.work
  purpose-then = s.purpose_then ∙ ap (λ (w : Work). purpose_of w) s.work_is ∙ s.purpose

  lent-then : is_active_place (first_place old.work) old.place ≡ true → lent new.work new.place ≡ o
  lent-then active =
      ap (λ (d : Decoder). lent new.work d.place) s.others ∙ ap (λ (q : ℕ). lent new.work q) s.place_is
      ∙ s.on old.place (subst (λ (w : Work). is_active_place (first_place w) old.place ≡ true) (sym s.work_is)
      (subst (λ (b : ℕ). is_active_place b old.place ≡ true) (sym s.first) active))
      ∙ ap (λ (w : Work). lent w old.place) s.work_is ∙ s.lent_is

  by-empty : (P : Output → Work → Type 0) → ((out : Output) (w : Work) → IsEmpty out → P out w) → P mid.output mid.work → P new.output new.work
  by-empty P none h = pick (empties e) refl
    where
      pick : (b : Bool) → empties e ≡ b → P new.output new.work
      pick true t = subst (λ (out : Output). P out new.work) (sym output-is) (none mid.output new.work (s.emptied t))
      pick false t = subst (λ (d : Decoder). P d.output d.work) (sym (s.stays_if t)) h

  frames-on : (made : ℕ → Frame) → HasFrames made (lent work) mid.output → HasFrames made (lent new.work) new.output
  frames-on made h = by-empty (λ out w. HasFrames made (lent w) out)
      (λ out w n. record { each = subst (λ (es : _). Each (IsAtPlace made (lent w)) es) (sym n.none) tt })
      (subst (λ (w : Work). HasFrames made (lent w) mid.output) (sym s.work_is) h)

  pub ready-now : IsReady (lent work) mid.output → IsReady (lent new.work) new.output
  ready-now h = by-empty (λ out w. IsReady (lent w) out) (λ out w n. record { ready = subst (λ (es : _). AreReady (lent w) es) (sym n.none) tt })
      (subst (λ (w : Work). IsReady (lent w) mid.output) (sym s.work_is) h)

  pub frames-now : (made : Family) → IsFamilyFor (purpose_of old.work) made → IsLentFor made (lent work) mid.output →
      IsLentFor made (lent new.work) new.output
  frames-now None m h = lends-none new.work (family-kept None old.work new.work purpose-then m)
  frames-now (Some made) m h = frames-on made h

-- it stands there
pub at-place : (frames : Family) (p : CodedPicture) (ps : List CodedPicture) (old : Decoder) (e : Ended) → e ≡ ended_picture p ps →
    KeepsFrames frames true false (p ∷ ps) old → (mid new : Decoder) (work : Work) (o : Option Frame) → IsFramed frames p o →
    Settled e old mid new work o → IfSome (with_frame frames (length ps) o) (λ f. IsAtPlace f (lent new.work) (placed_at e new.place))
at-place None p ps old e is k mid new work o h s = tt
at-place (Some frames) p ps old e is k mid new work None h s = absurd h
at-place (Some frames) p ps old e is k mid new work (Some f) h s =
    let made = with_one frames (length ps) f in
    let named : made e.picture ≡ f = ap made (ended-number p ps e is) ∙ frame-at frames (length ps) f in (
      lent-then p ps old e is mid new work (Some f) s k.picture.placed.active ∙ ap Some (sym named),
      subst (λ (g : Frame). IsTrue (fits e.rectangle g)) (sym named)
          (ap (λ (r : _). fits r f) (ended-rectangle p ps e is) ∙ rectangle-fits p.first.sps f h),
    )

-- and can be shown
pub shown-then : (frames : Family) (p : CodedPicture) (ps : List CodedPicture) (old : Decoder) (e : Ended) → e ≡ ended_picture p ps →
    KeepsFrames frames true false (p ∷ ps) old → (mid new : Decoder) (work : Work) (o : Option Frame) → IsFramed frames p o →
    Settled e old mid new work o → IsTrue (fits_in e.rectangle (lent new.work new.place))
shown-then None p ps old e is k mid new work o h s =
    ap (λ (x : Option Frame). fits_in e.rectangle x)
    (lends-none new.work (family-kept None old.work new.work (purpose-then p ps old e is mid new work o s) k.output.made) new.place)
shown-then (Some frames) p ps old e is k mid new work None h s = absurd h
shown-then (Some frames) p ps old e is k mid new work (Some f) h s =
    ap (λ (x : Option Frame). fits_in e.rectangle x) (lent-then p ps old e is mid new work (Some f) s k.picture.placed.active)
    ∙ (ap (λ (r : _). fits r f) (ended-rectangle p ps e is) ∙ rectangle-fits p.first.sps f h)

-- how large the pictures are
pub size-of : (frames : Family) (p : CodedPicture) (ps : List CodedPicture) (d : Decoder) → KeepsFrames frames true false (p ∷ ps) d →
    HasSize p.first.sps.frame_size.width p.first.sps.frame_size.height d.work
size-of frames p ps d k = let room : IsRoomFor (format_of p.first.sps) d.work =
    subst (λ (o : Option Format). HasFormat o d.work) k.picture.format k.output.format in room.size

-- a buffer that was emptied, or not, has the places of its sequence
pub way-places : (frames : Family) (p : CodedPicture) (ps : List CodedPicture) (old : Decoder) (e : Ended) → e ≡ ended_picture p ps →
    KeepsFrames frames true false (p ∷ ps) old → (way_turn e (within_newest (p ∷ ps)).buffer).buffer.size ≡ buffer_size p.first.sps
way-places frames p ps old e is k = way-sized e (within_newest (p ∷ ps)).buffer (buffer_size p.first.sps) (λ t. ended-size p ps e is) (λ t.
    let not-idr : is_idr p.first.header ≡ false = sym (ended-idr p ps e is) ∙ first-false e.idr e.resets t in
    k.output.buffer.same.size ∙ subst (λ (o : Option Format). IsSized o old.output) k.picture.format (k.picture.settled not-idr).sized)

-- the picture stands in the buffer
pub stored-frames : {X E : Type 0} (frames : Family) (p : CodedPicture) (ps : List CodedPicture) (old last : Decoder) (e : Ended) (held : References)
    (out : Output) (r : Result X E) → e ≡ ended_picture p ps → held ≡ held_after (p ∷ ps) →
    KeepsFrames frames true false (p ∷ ps) old → (o' : Option Frame) → purpose_of last.work ≡ purpose_of old.work → last.format ≡ old.format →
    IsRoomFor (format_of p.first.sps) last.work → IsReleased last.work →
    OnOk r (KeepsBuffer (store_turn e held (way_turn e (within_newest (p ∷ ps)).buffer).buffer).buffer
    ((length (within_newest (p ∷ ps)).written + length (way_turn e (within_newest (p ∷ ps)).buffer).written) + length
    (store_turn e held (way_turn e (within_newest (p ∷ ps)).buffer).buffer).written) out) →
    IfSome (with_frame frames (length ps) o') (λ f. OnOk r (HasFrames f (lent last.work) out)) → OnOk r (IsOrdered (e.picture + 1) out) →
    OnOk r (IsReady (lent last.work) out) →
    OnOk r (KeepsFrames (with_frame frames (length ps) o') true true (p ∷ ps) (record last { output = out }))
stored-frames frames p ps old last e held out (Err x) is h k o' purpose same room released b fr o a = tt
stored-frames frames p ps old last e held out (Ok x) is h k o' purpose same room released b fr o a =
    let t = within_newest (p ∷ ps) in
    let turn = end_turn e held t.buffer in
    let count : (length t.written + length (way_turn e t.buffer).written) + length (store_turn e held (way_turn e t.buffer).buffer).written ≡
    length (t.written ++ turn.written) = let l = length-append t.written turn.written in
    let m = length-append (way_turn e t.buffer).written (store_turn e held (way_turn e t.buffer).buffer).written in omega (arith, l, m) in
    let kept : KeepsBuffer (turn_then t (end_turn e held)).buffer (length (turn_then t (end_turn e held)).written) out =
    subst (λ (n : ℕ). KeepsBuffer turn.buffer n out) count b in
    let all : KeepsBuffer (after_all (p ∷ ps)).buffer (length (after_all (p ∷ ps)).written) out =
    subst (λ (x : Ended). KeepsBuffer (turn_then t (end_turn x (held_after (p ∷ ps)))).buffer
    (length (turn_then t (end_turn x (held_after (p ∷ ps)))).written) out) is
    (subst (λ (x : References). KeepsBuffer (turn_then t (end_turn e x)).buffer (length (turn_then t (end_turn e x)).written) out) h kept) in
    let format : last.format ≡ Some (format_of p.first.sps) = same ∙ k.picture.format in
    let number : e.picture + 1 ≡ length (p ∷ ps) = let n = ended-number p ps e is in omega (arith, n) in
    record {
      format = format;
      output = record {
        buffer = all;
        made = with-family (purpose_of last.work) frames (length ps) o' (family-kept frames old.work last.work purpose k.output.made);
        frames_are = fr;
        ordered = subst (λ (n : ℕ). IsOrdered n out) number o;
        ready = a;
        format = subst (λ (x : Option Format). HasFormat x last.work) (sym format) room;
      };
      picture = record {
        released = released;
        sized = subst (λ (x : Option Format). IsSized x out) (sym format)
            (sym b.same.size ∙ store-sized e held (way_turn e t.buffer).buffer ∙ way-places frames p ps old e is k);
      };
    }

-- its frame is decoded
has-one : (frames : ℕ → Frame) (p : CodedPicture) (ps : List CodedPicture) (old : Decoder) (k : KeepsFrames (Some frames) true false (p ∷ ps) old) (f : Frame) →
    IsFrame f (16 * p.first.sps.frame_size.width) (16 * p.first.sps.frame_size.height) →
    IsDecodedIn old.work (making frames p ps old k.picture) (last_slice p).macroblocks (Some f) → HasFrame (Some (with_one frames (length ps) f)) (p ∷ ps)
has-one frames p ps old k f sized d =
    subst (λ (g : Frame). IsDecoded (with_one frames (length ps) f) p ps g) (sym (frame-at frames (length ps) f))
    (decoded-as frames (with_one frames (length ps) f) p ps f (length ps) (omega arith) (with-agrees (Some frames) (length ps) (Some f))
    (is-decoded frames p ps old k.picture f sized (size-of (Some frames) p ps old k) d))

pub has-frame : (frames : Family) (p : CodedPicture) (ps : List CodedPicture) (old : Decoder) (k : KeepsFrames frames true false (p ∷ ps) old)
    (o : Option Frame) → IsFramed frames p o →
    ((making : Making) → HoldsSamples p.first.sps.frame_size.width (picture_size p.first.sps) making (last_slice p).macroblocks old.work →
    IsDecodedIn old.work making (last_slice p).macroblocks o) → HasFrame (with_frame frames (length ps) o) (p ∷ ps)
has-frame None p ps old k o h d = tt
has-frame (Some frames) p ps old k None h d = absurd h
has-frame (Some frames) p ps old k (Some f) h d =
    has-one frames p ps old k f h
    (d (making frames p ps old k.picture) (k.picture.so_far.frames_are.samples _ (is-making frames p ps old k.picture)))

-- What the end of a picture tells, in its two steps.
module _ {S : Type 0} (made : Family) (took : S → List Call → Type 0) (failures : S → ℕ) (p : CodedPicture) (ps : List CodedPicture) (e : Ended)
    (held : References) (is : e ≡ ended_picture p ps) (h : held ≡ held_after (p ∷ ps)) (b : Buffered Shown) (d : HasFrame made (p ∷ ps)) where
  abbrev by_turns : Ended → References → Outcome (Unit {0})
  by_turns x r = tells (Decodes (p ∷ ps)) >>= λ _. outcome_of (told_frames depths.Full (way_turn x b).written) >>= λ _. outcome_of
      (told_frames depths.Full (store_turn x r (way_turn x b).buffer).written)

  turns-are : outcome_of (told_picture depths.Full (p ∷ ps) >> told_frames depths.Full (end_turn (ended_picture p ps) (held_after (p ∷ ps)) b).written) ≡
      by_turns e held
  turns-are =
      end-outcome (p ∷ ps) (way_turn (ended_picture p ps) b).written
      (store_turn (ended_picture p ps) (held_after (p ∷ ps)) (way_turn (ended_picture p ps) b).buffer).written
      ∙ ap (λ (x : Ended). by_turns x (held_after (p ∷ ps))) (sym is) ∙ ap (λ (r : References). by_turns e r) (sym h)

  abbrev told_steps : Steps
  told_steps = told_picture depths.Full (p ∷ ps) >> told_frames depths.Full (end_turn (ended_picture p ps) (held_after (p ∷ ps)) b).written

  decoded-first : (s s' : S) (r : Result (Unit {0}) Stop) →
      Plays (span (took_with made took) failures s s') (λ (x : Unit {0}). x)
      (outcome_of (told_frames depths.Full (way_turn e b).written) >>= λ _. outcome_of
      (told_frames depths.Full (store_turn e held (way_turn e b).buffer).written)) r →
      Plays (span (took_with made took) failures s s') (λ (x : Unit {0}). x) (outcome_of told_steps) r
  decoded-first s s' r q = subst (λ (o : Outcome (Unit {0})). Plays (span (took_with made took) failures s s') (λ (x : Unit {0}). x) o r) (sym turns-are)
      (plays-on (took_with made took) failures (λ (x : Unit {0}). x) (λ (x : Unit {0}). x) (tells (Decodes (p ∷ ps))) _ s s s' tt r
      (decodes-plays made took failures s (p ∷ ps) d) q)

  pub way-stops : (s s' : S) (x : Stop) → Writes {X = Unit {0}} took failures (calls_to_show made (way_turn e b).written) s s' (Err x) →
      Plays (span (took_with made took) failures s s') (λ (x : Unit {0}). x) (outcome_of told_steps) (Err x)
  way-stops s s' x w = decoded-first s s' (Err x)
      (plays-stops (took_with made took) failures (λ (x : Unit {0}). x) (λ (x : Unit {0}). x) (outcome_of (told_frames depths.Full (way_turn e b).written))
      _ s s' x (writes-plays made took failures (way_turn e b).written s s' (Err x) w))

  pub way-on : (s s' s'' : S) (u : Unit {0}) (r : Result (Unit {0}) Stop) →
      Writes {X = Unit {0}} took failures (calls_to_show made (way_turn e b).written) s s' (Ok u) →
      Plays (span (took_with made took) failures s' s'') (λ (x : Unit {0}). x)
      (outcome_of (told_frames depths.Full (store_turn e held (way_turn e b).buffer).written)) r →
      Plays (span (took_with made took) failures s s'') (λ (x : Unit {0}). x) (outcome_of told_steps) r
  way-on s s' s'' u r w q = decoded-first s s'' r
      (plays-on (took_with made took) failures (λ (x : Unit {0}). x) (λ (x : Unit {0}). x) (outcome_of (told_frames depths.Full (way_turn e b).written)) _ s
      s' s'' u r (writes-plays made took failures (way_turn e b).written s s' (Ok u) w) q)

  pub way-store : (s s' s'' : S) (u : Unit {0}) (r : Result (Unit {0}) Stop) →
      Writes {X = Unit {0}} took failures (calls_to_show made (way_turn e b).written) s s' (Ok u) →
      Writes {X = Unit {0}} took failures (calls_to_show made (store_turn e held (way_turn e b).buffer).written) s' s'' r →
      Plays (span (took_with made took) failures s s'') (λ (x : Unit {0}). x) (outcome_of told_steps) r
  way-store s s' s'' u r w q = way-on s s' s'' u r w (writes-plays made took failures _ s' s'' r q)

-- as many frames are held as the buffer has places
pub few-stored : (frames : Family) (p : CodedPicture) (ps : List CodedPicture) (old : Decoder) (e : Ended) → e ≡ ended_picture p ps →
    KeepsFrames frames true false (p ∷ ps) old →
    (out last : Output) (written held : ℕ) → KeepsBuffer (way_turn e (within_newest (p ∷ ps)).buffer).buffer written out → last ≡ out →
    held ≤ buffer_size p.first.sps → held ≤ size_of last
few-stored frames p ps old e is k out last written held b l few =
    let places : size_of last ≡ buffer_size p.first.sps = ap size_of l ∙ sym b.same.size ∙ way-places frames p ps old e is k in
    omega (arith, places, few)

-- the frames of the sequence before are gone
pub released-then : (frames : Family) (p : CodedPicture) (ps : List CodedPicture) (old mid new : Decoder) (e : Ended) → e ≡ ended_picture p ps →
    KeepsFrames frames true false (p ∷ ps) old → (IsReleased old.work → IsReleased mid.work) → (empties e ≡ true → IsReleased new.work) →
    (empties e ≡ false → new ≡ mid) → IsReleased new.work
released-then frames p ps old mid new e is k on released stays-if = pick (empties e) refl
  where
    pick : (b : Bool) → empties e ≡ b → IsReleased new.work
    pick true t = released t
    pick false t = subst (λ (d : Decoder). IsReleased d.work) (sym (stays-if t))
        (on (k.picture.settled (sym (ended-idr p ps e is) ∙ first-false e.idr e.resets t)).released)

pub room-then : (frames : Family) (p : CodedPicture) (ps : List CodedPicture) (old : Decoder) (work : Work) → KeepsFrames frames true false (p ∷ ps) old →
    ((width size : ℕ) → Serves width size old.work → Serves width size work) →
    ((width height : ℕ) → HasSize width height old.work → HasSize width height work) → places work ≡ places old.work → IsRoomFor (format_of p.first.sps) work
room-then frames p ps old work k serves size places-are =
    let room : IsRoomFor (format_of p.first.sps) old.work = subst (λ (o : Option Format). HasFormat o old.work) k.picture.format k.output.format in
    record { serves = serves _ _ room.serves; size = size _ _ room.size; places = places-are ∙ room.places }
