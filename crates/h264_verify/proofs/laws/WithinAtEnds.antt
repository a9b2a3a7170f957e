-- Each picture of whose end is told has met its marking before: the buffer stays within its places.
use Rattle.std.proofs.Common.{◌≡◌, ℕ, Bool, true, false, List, [], ◌∷◌, ◌++◌, Result, subst, if◌then◌else◌}
use Rattle.h264_verify.specs.Units.{extent_at}
use Rattle.h264_base.specs.declared.mode.Target.{Target}
use Rattle.h264_verify.specs.declared.state.Depth.TheVariants as depths
use Rattle.h264_base.specs.declared.stop.Stop.{Stop}
use Rattle.h264_base.specs.declared.summary.Summary.{Summary}
use Rattle.h264_verify.specs.Telling.{Told, Decodes}
use Rattle.h264_verify.specs.Pictures.{CodedPicture, goes_on, runs_of, end_of_picture}
use Rattle.h264_verify.specs.Sound.{AreSound, has_ended}
use Rattle.h264_verify.specs.Within.{EndsWithin}
use Rattle.h264_verify.specs.Verdict.{Verdict}
use Rattle.h264_verify.proofs.language.MetRules.{AreMet}
use Rattle.h264_verify.proofs.laws.LegalUnits.{stands}
use Rattle.h264_verify.proofs.laws.LevelFrames.{EachRoom, legal-room}
use Rattle.h264_verify.proofs.laws.DecodablePictures.{ends-within}
use Rattle.h264_verify.proofs.laws.SoundUnits.{closes-sound}
use Rattle.h264_verify.proofs.laws.ToldInOrder.{InOrder, HoldsAtEnds, in-one, verdict-in}

-- the newest of these has ended
abbrev EndsNewest : List CodedPicture → Type 0
EndsNewest [] = Unit {0}
EndsNewest (p ∷ ps) = EndsWithin p ps

-- it has, once the rules of its end are met
newest-ends : (target : Target) → HoldsAtEnds EndsNewest (extent_at depths.Full target)
newest-ends target before told l m on = by (runs_of before) (stands target before told l).sound (legal-room target before told l)
    (subst (λ (b : Bool). AreMet (if b then end_of_picture (runs_of before) else [])) on m)
  where
    by : (pictures : List CodedPicture) → AreSound (has_ended (goes_on before) false) pictures → EachRoom pictures → AreMet (end_of_picture pictures) →
        EndsNewest pictures
    by [] s r k = tt
    by (p ∷ ps) s r k = ends-within p ps (closes-sound true (p ∷ ps) (subst (λ (b : Bool). AreSound (has_ended b false) (p ∷ ps)) on s) k) r.0

-- each picture of whose end is told
pub told-ends : (target : Target) (bytes : List ℕ) (calls : List Told) (answer : Result Summary Stop) →
    Verdict (extent_at depths.Full target) bytes calls answer →
    (first later : List Told) (p : CodedPicture) (ps : List CodedPicture) → calls ≡ first ++ Decodes (p ∷ ps) ∷ later → EndsWithin p ps
told-ends target bytes calls answer v first later p ps e =
    let t = verdict-in EndsNewest (extent_at depths.Full target) (newest-ends target) bytes calls answer v in
    in-one EndsNewest first later p ps [] t.0 (subst (λ l. InOrder EndsNewest [] l t.0) e t.1)
