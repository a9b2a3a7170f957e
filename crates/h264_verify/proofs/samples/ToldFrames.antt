-- Frames that a sink is told, as a part of what comes to pass.
use Rattle.std.specs.Prelude.{IfSome}
use Rattle.std.proofs.Common.{IfErr, OnOk, ◌≡◌, ℕ, List, [], ◌∷◌, ◌++◌, map, Option, Some, None, Result, Ok, Err, refl, ap, sym, ◌∙◌, subst, append_assoc}
use Rattle.h264_base.specs.Call.{Call, span, Tells as CallsTell, TellsFront as CallsFront}
use Rattle.h264_base.specs.declared.stop.Stop.{Stop}
use Rattle.h264_base.specs.declared.stop.Stop.TheVariants.{No, Outside, Memory, Read, Write}
use Rattle.h264_verify.specs.declared.state.Depth.TheVariants as depths
use Rattle.h264_plane.specs.declared.frame.Frame.{Frame}
use Rattle.h264_dpb.specs.declared.entry.Entry.{Entry}
use Rattle.h264_dpb.specs.declared.output.Output.{Output}
use Rattle.h264_dpb.specs.Turns.{Shown}
use Rattle.h264_dpb.specs.Kept.{HasFrames, shown_call, shown_calls}
use Rattle.h264_dpb.specs.Writing.{LendsNone, Writes, WritesBy}
use Rattle.h264_verify.specs.Pictures.{CodedPicture}
use Rattle.h264_verify.specs.Telling.{Told, Said, Decodes, Shows, calls_to_show, calls_of, HasFrame, AreDecoded, took_with, Tells, TellsFront, Family}
use Rattle.h264_verify.specs.Outcome.{Outcome, ◌>>=◌, tells, with_calls, Plays, PlaysBy}
use Rattle.h264_verify.proofs.language.Courses.{course-bind}
use Rattle.h264_verify.specs.Course.{Steps, ◌>>=◌ as ◌then◌, ◌>>◌}
use Rattle.h264_verify.specs.Course as course
use Rattle.h264_verify.specs.Buffering.{told_frames, told_picture}
use Rattle.h264_verify.specs.CourseOutcome.{outcome_of}

-- frames are lent where they are made, and none where they are not
abbrev pub IsLentFor : Family → (ℕ → Option Frame) → Output → Type 0
IsLentFor None lent output = LendsNone lent
IsLentFor (Some frames) lent output = HasFrames frames lent output

shows-call : (frames : Family) (written : List (Entry Shown)) → calls_of frames (map Shows written) ≡ calls_to_show frames written
shows-call None [] = refl
shows-call None (e ∷ es) = shows-call None es
shows-call (Some frames) [] = refl
shows-call (Some frames) (e ∷ es) = ap (λ (l : List Call). shown_call frames e ∷ l) (shows-call (Some frames) es)

calls-shown : (frames : Family) (told : List Told) (written : List (Entry Shown)) →
    calls_of frames (told ++ map Shows written) ≡ calls_of frames told ++ calls_to_show frames written
calls-shown frames [] written = shows-call frames written
calls-shown frames (Said c ∷ told) written = ap (λ (l : List Call). c ∷ l) (calls-shown frames told written)
calls-shown frames (Decodes ps ∷ told) written = calls-shown frames told written
calls-shown frames (Shows e ∷ told) written = ap (λ (l : List Call). calls_to_show frames (e ∷ []) ++ l) (calls-shown frames told written)
    ∙ sym (append_assoc (calls_to_show frames (e ∷ [])) (calls_of frames told) (calls_to_show frames written))

shows-decoded : (frames : Family) (written : List (Entry Shown)) → AreDecoded frames (map Shows written)
shows-decoded frames [] = tt
shows-decoded frames (e ∷ es) = shows-decoded frames es

decoded-shown : (frames : Family) (told : List Told) (written : List (Entry Shown)) → AreDecoded frames told → AreDecoded frames (told ++ map Shows written)
decoded-shown frames [] written h = shows-decoded frames written
decoded-shown frames (Said c ∷ told) written h = decoded-shown frames told written h
decoded-shown frames (Decodes ps ∷ told) written h = (h.0, decoded-shown frames told written h.1)
decoded-shown frames (Shows e ∷ told) written h = decoded-shown frames told written h

pub tells-shown : {S : Type 0} (frames : Family) (took : S → List Call → Type 0) (s s' : S) (written : List (Entry Shown)) →
    CallsTell took s s' (calls_to_show frames written) → Tells (took_with frames took) s s' (map Shows written)
unfolding took_with
tells-shown frames took s s' written t =
    record {
      told = λ before h. (
        decoded-shown frames before written h.0,
        subst (took s') (sym (calls-shown frames before written)) (t.told (calls_of frames before) h.1),
      );
    }

-- entries whose calls are the first of these
record Cut (frames : Family) (written : List (Entry Shown)) (front : List Call) : Type 0 where
  first : List (Entry Shown)
  last : List (Entry Shown)
  whole : written ≡ first ++ last
  calls : calls_to_show frames first ≡ front

cut : (frames : Family) (written : List (Entry Shown)) (front rest : List Call) → calls_to_show frames written ≡ front ++ rest → Cut frames written front
cut None written [] rest h = record { first = []; last = written; whole = refl; calls = refl }
cut None written (c ∷ front) rest h = cc
cut (Some frames) written [] rest h = record { first = []; last = written; whole = refl; calls = refl }
cut (Some frames) [] (c ∷ front) rest h = cc
cut (Some frames) (e ∷ es) (c ∷ front) rest h =
    let head : shown_call frames e ≡ c = cc in
    let tail : shown_calls frames es ≡ front ++ rest = cc in
    let k = cut (Some frames) es front rest tail in
    record {
      first = e ∷ k.first;
      last = k.last;
      whole = ap (λ (l : List (Entry Shown)). e ∷ l) k.whole;
      calls = ap (λ (l : List Call). shown_call frames e ∷ l) k.calls ∙ ap (λ (x : Call). x ∷ front) head;
    }

shows-both : (xs ys : List (Entry Shown)) → map Shows (xs ++ ys) ≡ map Shows xs ++ map Shows ys
shows-both [] ys = refl
shows-both (x ∷ xs) ys = ap (λ (l : List Told). Shows x ∷ l) (shows-both xs ys)

pub front-shown : {S : Type 0} (frames : Family) (took : S → List Call → Type 0) (s s' : S) (written : List (Entry Shown)) →
    CallsFront took s s' (calls_to_show frames written) → TellsFront (took_with frames took) s s' (map Shows written)
front-shown frames took s s' written k =
    let c = cut frames written k.front k.rest k.whole in
    record {
      front = map Shows c.first;
      rest = map Shows c.last;
      whole = ap (λ (l : List (Entry Shown)). map Shows l) c.whole ∙ shows-both c.first c.last;
      tells = tells-shown frames took s s' c.first (subst (CallsTell took s s') (sym c.calls) k.tells);
    }

pub shows-outcome : (written : List (Entry Shown)) →
    (let o : Outcome (Unit {0}) = record { calls = map Shows written; answer = Ok tt } in outcome_of (told_frames depths.Full written) ≡ o)
shows-outcome [] = refl
shows-outcome (e ∷ es) = ap (λ (o : Outcome (Unit {0})). with_calls (Shows e ∷ []) o) (shows-outcome es)

abbrev all_shown : List (Entry Shown) → Outcome (Unit {0})
all_shown written = record { calls = map Shows written; answer = Ok tt }

-- frames that were written
pub writes-plays : {S : Type 0} (frames : Family) (took : S → List Call → Type 0) (failures : S → ℕ) (written : List (Entry Shown)) (s s' : S)
    (r : Result (Unit {0}) Stop) → Writes took failures (calls_to_show frames written) s s' r →
    Plays (span (took_with frames took) failures s s') (λ (x : Unit {0}). x) (outcome_of (told_frames depths.Full written)) r
writes-plays {S} frames took failures written s s' r w =
    subst (λ (o : Outcome (Unit {0})). Plays (span (took_with frames took) failures s s') (λ (x : Unit {0}). x) o r) (sym (shows-outcome written))
    (record { plays = by r w.writes })
  where
    by : (r : Result (Unit {0}) Stop) → WritesBy took failures (calls_to_show frames written) s s' r →
        PlaysBy (span (took_with frames took) failures s s') (λ (x : Unit {0}). x) (all_shown written) r
    by (Ok x) h = (refl, tells-shown frames took s s' written h.0, h.1)
    by (Err Write) h = (front-shown frames took s s' written h.1, h.2)
    by (Err Memory) h = let e : Memory ≡ Write = h.0 in cc
    by (Err Read) h = let e : Read ≡ Write = h.0 in cc
    by (Err (No bit rule)) h = let e : No bit rule ≡ Write = h.0 in cc
    by (Err (Outside bit feature)) h = let e : Outside bit feature ≡ Write = h.0 in cc

pub writes-kept : {S : Type 0} (took : S → List Call → Type 0) (failures : S → ℕ) (calls : List Call) (s s' : S) (r : Result (Unit {0}) Stop) →
    Writes took failures calls s s' r → OnOk r (failures s' ≡ failures s)
writes-kept {S} took failures calls s s' r w = by r w.writes
  where
    by : (r : Result (Unit {0}) Stop) → WritesBy took failures calls s s' r → OnOk r (failures s' ≡ failures s)
    by (Ok x) h = h.1
    by (Err e) h = tt

pub writes-alone : {S : Type 0} (took : S → List Call → Type 0) (failures : S → ℕ) (calls : List Call) (s s' : S) (r : Result (Unit {0}) Stop) →
    Writes took failures calls s s' r → IfErr r (λ e. e ≡ Write)
writes-alone {S} took failures calls s s' r w = by r w.writes
  where
    by : (r : Result (Unit {0}) Stop) → WritesBy took failures calls s s' r → IfErr r (λ e. e ≡ Write)
    by (Ok x) h = tt
    by (Err e) h = h.0

-- frames that wait are written where they are lent; where no frames are made, none is lent, and nothing is written
pub written-by : {S X : Type 0} (frames : Family) (took : S → List Call → Type 0) (failures : S → ℕ) (lent : ℕ → Option Frame) (output : Output)
    (written : List (Entry Shown)) (s s' : S) (r : Result X Stop) → IsLentFor frames lent output →
    ((f : ℕ → Frame) → HasFrames f lent output → Writes took failures (shown_calls f written) s s' r) →
    (LendsNone lent → Writes took failures [] s s' r) → Writes took failures (calls_to_show frames written) s s' r
written-by None took failures lent output written s s' r n some none = none n
written-by (Some frames) took failures lent output written s s' r h some none = some frames h

-- likewise with what is so of the frames
pub written-with : {S X : Type 0} (P : (ℕ → Frame) → Type 0) (frames : Family) (took : S → List Call → Type 0) (failures : S → ℕ)
    (lent : ℕ → Option Frame) (output : Output) (written : List (Entry Shown)) (s s' : S) (r : Result X Stop) → IsLentFor frames lent output →
    IfSome frames P → ((f : ℕ → Frame) → HasFrames f lent output → P f → Writes took failures (shown_calls f written) s s' r) →
    (LendsNone lent → Writes took failures [] s s' r) → Writes took failures (calls_to_show frames written) s s' r
written-with P None took failures lent output written s s' r n p some none = none n
written-with P (Some frames) took failures lent output written s s' r h p some none = some frames h p

-- ---- a picture that is decoded

calls-decoded : (frames : Family) (told : List Told) (pictures : List CodedPicture) → calls_of frames (told ++ Decodes pictures ∷ []) ≡ calls_of frames told
calls-decoded frames [] pictures = refl
calls-decoded frames (Said c ∷ told) pictures = ap (λ (l : List Call). c ∷ l) (calls-decoded frames told pictures)
calls-decoded frames (Decodes ps ∷ told) pictures = calls-decoded frames told pictures
calls-decoded frames (Shows e ∷ told) pictures = ap (λ (l : List Call). calls_to_show frames (e ∷ []) ++ l) (calls-decoded frames told pictures)

decoded-one : (frames : Family) (told : List Told) (pictures : List CodedPicture) → HasFrame frames pictures → AreDecoded frames told →
    AreDecoded frames (told ++ Decodes pictures ∷ [])
decoded-one frames [] pictures d h = (d, tt)
decoded-one frames (Said c ∷ told) pictures d h = decoded-one frames told pictures d h
decoded-one frames (Decodes ps ∷ told) pictures d h = (h.0, decoded-one frames told pictures d h.1)
decoded-one frames (Shows e ∷ told) pictures d h = decoded-one frames told pictures d h

decodes-tell : {S : Type 0} (frames : Family) (took : S → List Call → Type 0) (s : S) (pictures : List CodedPicture) → HasFrame frames pictures →
    Tells (took_with frames took) s s (Decodes pictures ∷ [])
unfolding took_with
decodes-tell frames took s pictures d = record {
  told =
      λ before h. (decoded-one frames before pictures d h.0, subst (took s) (sym (calls-decoded frames before pictures)) h.1);
}

pub decodes-plays : {S : Type 0} (frames : Family) (took : S → List Call → Type 0) (failures : S → ℕ) (s : S) (pictures : List CodedPicture) →
    HasFrame frames pictures → Plays (span (took_with frames took) failures s s) (λ (x : Unit {0}). x) (tells (Decodes pictures)) (Ok tt)
decodes-plays frames took failures s pictures d = record { plays = (refl, decodes-tell frames took s pictures d, refl) }

shown-both : (xs ys : List (Entry Shown)) → told_frames depths.Full (xs ++ ys) ≡ (told_frames depths.Full xs >> told_frames depths.Full ys)
unfolding ◌then◌
shown-both [] ys = refl
shown-both (x ∷ xs) ys = ap (λ (c : Steps). course.Tells (Shows x) c) (shown-both xs ys)

-- it is decoded, and then frames are written in two steps
pub end-outcome : (pictures : List CodedPicture) (xs ys : List (Entry Shown)) →
    outcome_of (told_picture depths.Full pictures >> told_frames depths.Full (xs ++ ys)) ≡
    (tells (Decodes pictures) >>= λ _. outcome_of (told_frames depths.Full xs) >>= λ _. outcome_of (told_frames depths.Full ys))
end-outcome pictures xs ys =
    course-bind (told_picture depths.Full pictures) (λ _. told_frames depths.Full (xs ++ ys))
    ∙ ap (λ (o : Outcome (Unit {0})). tells (Decodes pictures) >>= λ _. o)
    (ap outcome_of (shown-both xs ys) ∙ course-bind (told_frames depths.Full xs) (λ _. told_frames depths.Full ys))
