-- The frame of a picture that ends.
use Rattle.std.proofs.Common.{◌≡◌, ℕ, Bool, true, false, List, [], ◌∷◌, length, Option, Some, None, Result, Ok, refl, subst, sym, ap, ◌∙◌, if◌then◌else◌, Err}
use Rattle.std.proofs.Common.{◌==◌, eqb-true, ◌<◌, ◌≤◌, ◌^◌, arith}
use Rattle.h264_verify.specs.declared.state.Depth.{Depth}
use Rattle.h264_verify.specs.declared.state.Depth.TheVariants as depths
use Rattle.h264_base.specs.Call.{Call, span}
use Rattle.h264_base.specs.declared.stop.Stop.{Stop}
use Rattle.h264_dpb.specs.declared.ended.Ended.{Ended}
use Rattle.h264_marking.specs.Frames.{References}
use Rattle.h264_verify.specs.declared.decoder.Decoder.{Decoder}
use Rattle.h264_verify.specs.declared.slices.PicturesSoFar.{PicturesSoFar}
use Rattle.h264_verify.specs.declared.picture.OpenPicture.{OpenPicture}
use Rattle.h264_verify.specs.Telling.{took_with, frame_span, Family}
use Rattle.h264_verify.specs.History.{History}
use Rattle.h264_verify.specs.Pictures.{CodedPicture, last_slice, picture_size, bit_after, goes_on, open_of, runs_of, held_after}
use Rattle.h264_verify.specs.Buffering.{ended_picture, end_frames}
use Rattle.h264_header.specs.Picture.{is_reference}
use Rattle.h264_picture.specs.Buffer.{buffer_size}
use Rattle.h264_dpb.specs.Bumping.{is_held}
use Rattle.h264_dpb.specs.Turns.{names}
use Rattle.h264_verify.specs.Sound.{AreSound}
use Rattle.h264_verify.proofs.laws.SoundPictures.{ended-sound-of, after-few, after-among}
use Rattle.h264_verify.specs.Keeping.{KeepsFrames, KeepsSlices, KeepsSomeEnd, KeepsSomeFrames, HoldsOpen, HoldsEnd, held_by}
use Rattle.h264_verify.specs.Outcome.{Outcome, answers, gives, Plays}
use Rattle.h264_verify.specs.Order.{whole_picture}
use Rattle.h264_base.specs.declared.stop.Stop.TheVariants.{No}
use Rattle.h264_base.specs.declared.rule.Rule.TheVariants.{Incomplete}
use Rattle.h264_verify.specs.Course.{Steps, nothing, ◌>>=◌}
use Rattle.h264_dpb.specs.Ending.{ended_of}
use Rattle.h264_verify.specs.CourseOutcome.{outcome_of}
use Rattle.h264_verify.specs.Framing.{EndsFrames, closing}
use Rattle.h264_verify.proofs.samples.FamiliesAgree.{agree-none}
use Rattle.h264_verify.proofs.language.OutcomesPlayed.{gives-plays}
use Rattle.h264_verify.proofs.kept.WhereMade.{MakesNone, some-made, full-made, quiet-made}

-- the picture that may go on, by what is kept of it
pub record IsOpen (on : Bool) (pictures : List CodedPicture) (o : OpenPicture) : Type 0 where
  pub p : CodedPicture
  pub ps : List CodedPicture
  pub goes : on ≡ true
  pub are : pictures ≡ p ∷ ps
  pub end : o.ended ≡ ended_picture p ps

pub is-open : (on : Bool) (pictures : List CodedPicture) (kept : Option OpenPicture) (o : OpenPicture) → kept ≡ Some o →
    HoldsOpen (open_of on pictures) kept → HoldsEnd pictures kept → IsOpen on pictures o
is-open on [] kept o e h k = absurd (subst (HoldsOpen None) e h)
is-open false (p ∷ ps) kept o e h k = absurd (subst (HoldsOpen None) e h)
is-open true (p ∷ ps) kept o e h k = record { p = p; ps = ps; goes = refl; are = refl; end = subst (HoldsEnd (p ∷ ps)) e k }

-- nothing goes on
pub none-open : (on : Bool) (pictures : List CodedPicture) (kept : Option OpenPicture) → kept ≡ None → HoldsOpen (open_of on pictures) kept →
    (frames : Family) (d : Decoder) → KeepsFrames frames on false pictures d → KeepsFrames frames on true pictures d ×
    ((if on then end_frames depths.Full pictures else nothing) ≡ nothing)
none-open on [] kept e h frames d k = (record { format = tt; output = k.output; picture = k.picture }, by on)
  where
    by : (b : Bool) → (if b then end_frames depths.Full [] else nothing) ≡ nothing
    by true = refl
    by false = refl
none-open true (p ∷ ps) kept e h frames d k = absurd (subst (HoldsOpen (Some p)) e h)
none-open false (p ∷ ps) kept e h frames d k = (record { format = k.format; output = k.output; picture = k.picture }, refl)

held-open : (on : Bool) (pictures : List CodedPicture) (p : CodedPicture) (ps : List CodedPicture) (held : References) → on ≡ true → pictures ≡ p ∷ ps →
    held ≡ held_by true on pictures → held ≡ held_after (p ∷ ps)
held-open true pictures p ps held g e h = h ∙ ap held_after e
held-open false pictures p ps held g e h = cc

pub held-end : (before : History) (slices : PicturesSoFar) (o : OpenPicture) (i : IsOpen (goes_on before) (runs_of before) o) → KeepsSlices before true slices →
    slices.held ≡ held_after (i.p ∷ i.ps)
held-end before slices o i k = held-open (goes_on before) (runs_of before) i.p i.ps slices.held i.goes i.are k.kept.held

-- the frames that are held then
end-sound : (before : History) (slices : PicturesSoFar) (o : OpenPicture) (i : IsOpen (goes_on before) (runs_of before) o) → KeepsSlices before true slices →
    AreSound true (i.p ∷ i.ps)
end-sound before slices o i k = subst (λ (ps : List CodedPicture). AreSound true ps) i.are (ended-sound-of (goes_on before) (runs_of before) k.sound)

end-few : (before : History) (slices : PicturesSoFar) (o : OpenPicture) (i : IsOpen (goes_on before) (runs_of before) o) → KeepsSlices before true slices →
    length slices.held.frames ≤ buffer_size i.p.first.sps
end-few before slices o i k = subst (λ (r : References). length r.frames ≤ buffer_size i.p.first.sps) (sym (held-end before slices o i k))
    (after-few i.p i.ps (end-sound before slices o i k))

ended-among : (p : CodedPicture) (ps : List CodedPicture) (e : Ended) (held : References) → e ≡ ended_picture p ps → held ≡ held_after (p ∷ ps) →
    AreSound true (p ∷ ps) → e.reference ≡ true → is_held (names held) e.picture ≡ true
unfolding ended_of
ended-among p ps e held is h s r =
    let reference : e.reference ≡ is_reference p.first.header = ap (λ (x : Ended). x.reference) is in
    let number : e.picture ≡ length ps = ap (λ (x : Ended). x.picture) is in
    subst (λ (n : ℕ). is_held (names held) n ≡ true) (sym number)
    (subst (λ (x : References). is_held (names x) (length ps) ≡ true) (sym h) (after-among p ps s (sym reference ∙ r)))

pub some-end : (slices : PicturesSoFar) (decoder : Option Decoder) (d : Decoder) (o : OpenPicture) → decoder ≡ Some d → slices.picture ≡ Some o →
    KeepsSomeFrames true slices decoder → KeepsSomeEnd o.ended slices.held d
some-end slices decoder d o is e k =
    let frames = some-made _ k.depth decoder d is k.keeps in
    let i = is-open (goes_on k.before) (runs_of k.before) slices.picture o e k.slices_are.kept.picture k.slices_are.kept.end in
    record {
      frames = k.frames;
      p = i.p;
      ps = i.ps;
      is = i.end;
      few = end-few k.before slices o i k.slices_are;
      marked = ended-among i.p i.ps o.ended slices.held i.end (held-end k.before slices o i k.slices_are) (end-sound k.before slices o i k.slices_are);
      keeps = subst (λ (ps : List CodedPicture). KeepsFrames k.frames true false ps d) i.are
          (subst (λ (on : Bool). KeepsFrames k.frames on false (runs_of k.before) d) i.goes frames.1);
    }

-- the picture that goes on has ended
module _ {S : Type 0} (took : S → List Call → Type 0) (failures : S → ℕ) (frames : Family) (new : Option Decoder) (s s' : S) (r : Result (Unit {0}) Stop)
  where
    pub ends-open : (on : Bool) (pictures : List CodedPicture) (o : OpenPicture) (i : IsOpen on pictures o) →
        EndsFrames depths.Full (frame_span took failures frames s s') (closing true true (i.p ∷ i.ps))
        (outcome_of (end_frames depths.Full (i.p ∷ i.ps))) new r →
        EndsFrames depths.Full (frame_span took failures frames s s') (closing on true pictures)
        (outcome_of (if on then end_frames depths.Full pictures else nothing)) new r
    ends-open on pictures o i h =
        subst (λ (b : Bool). EndsFrames depths.Full (frame_span took failures frames s s') (closing b true pictures)
        (outcome_of (if b then end_frames depths.Full pictures else nothing)) new r) (sym i.goes)
        (subst (λ (ps : List CodedPicture). EndsFrames depths.Full (frame_span took failures frames s s') (closing true true ps)
        (outcome_of (end_frames depths.Full ps)) new r) (sym i.are) h)

pub keeps-open : (frames : Family) (on : Bool) (pictures : List CodedPicture) (o : OpenPicture) (d : Decoder) (i : IsOpen on pictures o) →
    KeepsFrames frames on false pictures d → KeepsFrames frames true false (i.p ∷ i.ps) d
keeps-open frames on pictures o d i k = subst (λ (ps : List CodedPicture). KeepsFrames frames true false ps d) i.are
    (subst (λ (b : Bool). KeepsFrames frames b false pictures d) i.goes k)

is-met : (b : Bool) (bit : ℕ) → answers {A = Unit {0}} (Ok tt) ≡ (if b then gives {A = Unit {0}} tt else answers {A = Unit {0}} (Err (No bit Incomplete))) →
    b ≡ true
is-met true bit e = refl
is-met false bit e = let r : ◌≡◌ {A = Result (Unit {0}) Stop} (Ok tt) (Err (No bit Incomplete)) = ap (λ (o : Outcome (Unit {0})). o.answer) e in cc

whole-of : (p : CodedPicture) (ps : List CodedPicture) → answers {A = Unit {0}} (Ok tt) ≡ outcome_of (whole_picture (p ∷ ps)) →
    length (last_slice p).macroblocks ≡ picture_size p.first.sps
whole-of p ps e = eqb-true _ _ (is-met (length (last_slice p).macroblocks == picture_size p.first.sps) (bit_after (last_slice p).unit) e)

-- all its macroblocks are coded
pub is-whole : (on : Bool) (pictures : List CodedPicture) (o : OpenPicture) (i : IsOpen on pictures o) → answers {A = Unit {0}} (Ok tt) ≡
    outcome_of (if on then whole_picture pictures else nothing) → length (last_slice i.p).macroblocks ≡ picture_size i.p.first.sps
is-whole on pictures o i e =
    whole-of i.p i.ps (subst (λ (ps : List CodedPicture). answers {A = Unit {0}} (Ok tt) ≡ outcome_of (whole_picture ps)) i.are
    (subst (λ (b : Bool). answers {A = Unit {0}} (Ok tt) ≡ outcome_of (if b then whole_picture pictures else nothing)) i.goes e))

-- nothing ends
pub none-ends : {S : Type 0} (took : S → List Call → Type 0) (failures : S → ℕ) (frames : Family) (d : Decoder) (s : S) (on : Bool)
    (pictures : List CodedPicture) (kept : Option OpenPicture) → kept ≡ None → HoldsOpen (open_of on pictures) kept → KeepsFrames frames on false pictures d →
    EndsFrames depths.Full (frame_span took failures frames s s) (closing on true pictures)
    (outcome_of (if on then end_frames depths.Full pictures else nothing))
    (Some d) (Ok tt)
none-ends took failures frames d s on pictures kept e h k =
    let n = none-open on pictures kept e h frames d k in
    record {
      made = frames;
      same = agree-none _ frames;
      plays = subst (λ (steps : Steps). Plays (span (took_with frames took) failures s s) (λ (x : Unit {0}). x) (outcome_of steps) (Ok tt)) (sym n.1)
          (gives-plays (took_with frames took) failures (λ (x : Unit {0}). x) tt s);
      keeps = full-made _ depths.Full d refl n.0;
    }

-- the number of a picture that ends is below that of pictures
pub few-end : (slices : PicturesSoFar) (o : OpenPicture) (decoder : Option Decoder) → slices.picture ≡ Some o → KeepsSomeFrames true slices decoder →
    slices.pictures ≤ 2 ^ 42 → o.ended.picture < 2 ^ 62
unfolding ended_of
few-end slices o decoder e k h =
    let i = is-open (goes_on k.before) (runs_of k.before) slices.picture o e k.slices_are.kept.picture k.slices_are.kept.end in
    let number : o.ended.picture ≡ length i.ps = ap (λ (x : Ended). x.picture) i.end in
    let all : slices.pictures ≡ length (i.p ∷ i.ps) = k.slices_are.kept.pictures_are ∙ ap (λ (ps : List CodedPicture). length ps) i.are in
    omega (arith, number, all, h)

-- ---- where no frames are made

quiet-steps : (m : Depth) → MakesNone m → (on : Bool) (pictures : List CodedPicture) → (if on then end_frames m pictures else nothing) ≡ nothing
unfolding ◌>>=◌
quiet-steps depths.Units q true [] = refl
quiet-steps depths.Units q true (p ∷ ps) = refl
quiet-steps depths.Units q false pictures = refl
quiet-steps depths.Headers q true [] = refl
quiet-steps depths.Headers q true (p ∷ ps) = refl
quiet-steps depths.Headers q false pictures = refl
quiet-steps depths.Full q on pictures = absurd q

pub quiet-ends : {S : Type 0} (depth : Depth) → MakesNone depth →
    (took : S → List Call → Type 0) (failures : S → ℕ) (frames : Family) (decoder : Option Decoder) → decoder ≡ None →
    (s : S) (on ends : Bool) (pictures : List CodedPicture) →
    EndsFrames depth (frame_span took failures frames s s) (closing on ends pictures)
    (outcome_of (if ends then (if on then end_frames depth pictures else nothing) else nothing)) decoder (Ok tt)
quiet-ends depth q took failures frames decoder n s on ends pictures = record {
  made = frames;
  same = agree-none _ frames;
  plays = subst (λ (steps : Steps). Plays (span (took_with frames took) failures s s) (λ (x : Unit {0}). x) (outcome_of steps) (Ok tt))
      (sym (none ends)) (gives-plays (took_with frames took) failures (λ (x : Unit {0}). x) tt s);
  keeps = quiet-made _ depth decoder n q;
}
  where
    none : (b : Bool) → (if b then (if on then end_frames depth pictures else nothing) else nothing) ≡ nothing
    none true = quiet-steps depth q on pictures
    none false = refl
