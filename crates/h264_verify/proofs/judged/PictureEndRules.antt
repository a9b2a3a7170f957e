-- The end of the picture that may go on, by what is kept of the slices.
use Rattle.std.proofs.Common.{◌≡◌, ℕ, ◌-◌, Bool, true, false, List, [], ◌∷◌, map, length, Option, Some, None, Result, Ok, Err, OnOk, refl, ap, sym, ◌∙◌}
use Rattle.std.proofs.Common.{subst, arith, if◌then◌else◌}
use Rattle.std.specs.Result.{result_unwrap_or}
use Rattle.h264_base.specs.declared.stop.Stop.{Stop}
use Rattle.h264_marking.specs.declared.frame.Numbering.{Numbering}
use Rattle.h264_marking.specs.Frames.{References}
use Rattle.h264_marking.specs.Held.{mark_answer}
use Rattle.h264_marking.specs.Ended.{ended}
use Rattle.h264_poc.specs.Counts.{Keeps as KeepsCounts}
use Rattle.h264_bits.specs.declared.element.Found.{Found}
use Rattle.h264_header.specs.declared.header.Marking.{Marking}
use Rattle.h264_verify.specs.declared.slices.PicturesSoFar.{PicturesSoFar}
use Rattle.h264_verify.specs.declared.picture.OpenPicture.{OpenPicture}
use Rattle.h264_verify.specs.Demands.{judged}
use Rattle.h264_verify.specs.History.{History}
use Rattle.h264_verify.specs.Pictures.{CodedPicture, goes_on, open_of, runs_of, counted, held_in, ended_by, mark_demand, end_of_picture}
use Rattle.h264_verify.specs.Order.{closing_demands}
use Rattle.h264_verify.specs.Keeping.{HoldsOpen, HoldsEnd, KeepsPictures, KeepsSlices, held_by}
use Rattle.h264_verify.proofs.laws.SoundPictures.{ended-sound, sound-ended}

marked-judged : (r : Result References ℕ) → mark_answer r ≡ judged (mark_demand r ∷ [])
marked-judged (Ok refs) = refl
marked-judged (Err bit) = refl

-- the marking of the picture that is kept is that of the newest picture
module _ (slices : PicturesSoFar) (o : OpenPicture) (number : ℕ) (is : slices.picture ≡ Some o) (count : number ≡ slices.pictures - 1) where
  abbrev answer : Result References ℕ
  answer = ended o.marking o.numbering number slices.held

  marked-as : (p : CodedPicture) (ps : List CodedPicture) → KeepsPictures true false (p ∷ ps) slices → answer ≡ ended_by p (length ps) (held_in (p ∷ ps))
  marked-as p ps k =
      let h = subst (HoldsOpen (Some p)) is k.picture in
      let n : number ≡ length ps = let a = k.pictures_are in omega (arith, a, count) in
      ap (λ (m : Option (Found Marking)). ended m o.numbering number slices.held) h.marking
      ∙ ap (λ (x : Numbering). ended p.first.header.marking x number slices.held) h.numbering
      ∙ ap (λ (x : ℕ). ended_by p x slices.held) n
      ∙ ap (λ (r : References). ended_by p (length ps) r) k.held

  judged-by : (on : Bool) (pictures : List CodedPicture) → KeepsPictures on false pictures slices →
      mark_answer answer ≡ judged (if on then end_of_picture pictures else [])
  judged-by on [] k = absurd (subst (HoldsOpen None) is k.picture)
  judged-by false (p ∷ ps) k = absurd (subst (HoldsOpen None) is k.picture)
  judged-by true (p ∷ ps) k = ap mark_answer (marked-as p ps k) ∙ marked-judged _

  pub closing-judged : (before : History) → KeepsSlices before false slices → mark_answer answer ≡ judged (closing_demands before)
  closing-judged before k = judged-by (goes_on before) (runs_of before) k.kept

  held-then : (on : Bool) (pictures : List CodedPicture) → KeepsPictures on false pictures slices →
      result_unwrap_or answer slices.held ≡ held_by true on pictures
  held-then on [] k = absurd (subst (HoldsOpen None) is k.picture)
  held-then false (p ∷ ps) k = absurd (subst (HoldsOpen None) is k.picture)
  held-then true (p ∷ ps) k = ap (λ (r : Result References ℕ). result_unwrap_or r slices.held) (marked-as p ps k) ∙
      ap (λ (r : References). result_unwrap_or (ended_by p (length ps) (held_in (p ∷ ps))) r) k.held

  pub closing-held : (before : History) → KeepsSlices before false slices → result_unwrap_or answer slices.held ≡ held_by true (goes_on before) (runs_of before)
  closing-held before k = held-then (goes_on before) (runs_of before) k.kept

-- nothing goes on
none-held : (on : Bool) (pictures : List CodedPicture) (slices : PicturesSoFar) → slices.picture ≡ None → KeepsPictures on false pictures slices →
    slices.held ≡ held_by true on pictures
none-held true [] slices is k = k.held
none-held false [] slices is k = k.held
none-held true (p ∷ ps) slices is k = absurd (subst (HoldsOpen (Some p)) is k.picture)
none-held false (p ∷ ps) slices is k = k.held

none-judged : (on : Bool) (pictures : List CodedPicture) (slices : PicturesSoFar) → slices.picture ≡ None → KeepsPictures on false pictures slices →
    (let r : Result (Unit {0}) Stop = Ok tt in r ≡ judged (if on then end_of_picture pictures else []))
none-judged true [] slices is k = refl
none-judged false pictures slices is k = refl
none-judged true (p ∷ ps) slices is k = absurd (subst (HoldsOpen (Some p)) is k.picture)

-- what is kept once it has ended
closed-pictures : (on : Bool) (pictures : List CodedPicture) (old new : PicturesSoFar) → KeepsPictures on false pictures old → new ≡
    record old { held = new.held } →
    new.held ≡ held_by true on pictures → KeepsPictures on true pictures new
closed-pictures on pictures old new k same held = record {
  picture = subst (λ (s : PicturesSoFar). HoldsOpen (open_of on pictures) s.picture) (sym same) k.picture;
  end = subst (λ (s : PicturesSoFar). HoldsEnd pictures s.picture) (sym same) k.end;
  newest_idr = ap (λ (s : PicturesSoFar). s.newest_idr) same ∙ k.newest_idr;
  counts = subst (λ (s : PicturesSoFar). KeepsCounts (map counted pictures) s.counts) (sym same) k.counts;
  count = ap (λ (s : PicturesSoFar). s.count) same ∙ k.count;
  pictures_are = ap (λ (s : PicturesSoFar). s.pictures) same ∙ k.pictures_are;
  prev_ref = ap (λ (s : PicturesSoFar). s.prev_ref_frame_num) same ∙ k.prev_ref;
  held = held;
}

pub closed-slices : (before : History) (old new : PicturesSoFar) (r : Result (Unit {0}) Stop) → KeepsSlices before false old → r ≡
    judged (closing_demands before) →
    new ≡ record old { held = new.held } → new.held ≡ held_by true (goes_on before) (runs_of before) → OnOk r (KeepsSlices before true new)
closed-slices before old new (Err e) k j same held = tt
closed-slices before old new (Ok x) k j same held = record {
  due = ap (λ (s : PicturesSoFar). s.due) same ∙ k.due;
  kept = closed-pictures (goes_on before) (runs_of before) old new k.kept same held;
  sound = sound-ended (goes_on before) (runs_of before) (ended-sound (goes_on before) (runs_of before) j k.sound);
  active = k.active;
  named = k.named;
}

pub none-closed : (before : History) (slices : PicturesSoFar) → slices.picture ≡ None → KeepsSlices before false slices → KeepsSlices before true slices
none-closed before slices is k = closed-slices before slices slices (Ok tt) k (none-judged (goes_on before) (runs_of before) slices is k.kept) refl
    (none-held (goes_on before) (runs_of before) slices is k.kept)
