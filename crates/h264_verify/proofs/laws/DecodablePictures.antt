-- What the verdict says of predictions and of the buffer, at each picture of a stream.
use Rattle.std.proofs.Common.{◌≡◌, ℕ, Bool, true, false, List, [], ◌∷◌, ◌++◌, refl, sym, ◌∙◌, subst, arith, append_assoc, Ok}
use Rattle.h264_verify.specs.Units.{extent_at}
use Rattle.h264_base.specs.declared.mode.Target.{Target}
use Rattle.h264_verify.specs.declared.state.Depth.{Depth}
use Rattle.h264_verify.specs.declared.state.Depth.TheVariants as depths
use Rattle.h264_base.specs.declared.summary.Summary.{Summary}
use Rattle.h264_verify.specs.Telling.{Told}
use Rattle.h264_verify.specs.History.{History}
use Rattle.h264_verify.specs.Course.{Runs}
use Rattle.h264_verify.specs.Order.{end_steps}
use Rattle.h264_verify.specs.Pictures.{CodedPicture, goes_on, held_in, runs_of, ended_pictures}
use Rattle.h264_verify.specs.Buffering.{within_newest}
use Rattle.h264_verify.specs.Sound.{AreSound, has_ended}
use Rattle.h264_verify.specs.Held.{AreAmong}
use Rattle.h264_verify.specs.Predicting.{ArePredicted}
use Rattle.h264_verify.specs.Within.{DecodesWithin, EndsWithin}
use Rattle.h264_verify.specs.Decodable.{IsDecodable, EachIsDecodable, AreDecodable}
use Rattle.h264_verify.specs.Verdict.{AreLegal, Holds}
use Rattle.h264_verify.proofs.laws.LevelFrames.{HasRoom, EachRoom, legal-room, ended-room, room-at}
use Rattle.h264_verify.proofs.laws.LegalUnits.{stands, all-sound}
use Rattle.h264_verify.proofs.samples.NamedSizes.{AreRead}
use Rattle.h264_verify.proofs.laws.PredictedFromHeld.{read-at, are-predicted}
use Rattle.h264_verify.proofs.laws.SoundUnits.{ended-are, sound-at, ended-at}
use Rattle.h264_verify.proofs.laws.SoundPictures.{size-fits}
use Rattle.h264_verify.proofs.laws.HeldPictures.{among-within}
use Rattle.h264_verify.proofs.laws.WithinPlaces.{after-sits, newest-sits, filling-sits}

decodes-within : (ended : Bool) (p : CodedPicture) (ps : List CodedPicture) → AreSound ended (p ∷ ps) → DecodesWithin p ps
decodes-within ended p ps s =
    let old = after-sits ps s.2 in
    let new = newest-sits ended p ps s in
    record {
      within = new.within;
      size = new.sized ∙ sym old.sized;
      filling = λ numbers others m. let f = filling-sits ended p ps numbers others s m in (f.within, f.sized ∙ sym old.sized);
    }

pub ends-within : (p : CodedPicture) (ps : List CodedPicture) → AreSound true (p ∷ ps) → HasRoom p.first.sps → EndsWithin p ps
ends-within p ps s room =
    let new = after-sits (p ∷ ps) s in
    let fits = size-fits p.first.sps s.0.usable in
    record { within = new.within; size = new.sized; level = omega (arith, fits, room) }

-- ---- of units that are legal

module _ (target : Target) (before : History) (told : List Told) (l : AreLegal (extent_at depths.Full target) before told) (later : List CodedPicture)
    (p : CodedPicture) (ps : List CodedPicture) where
  newest : runs_of before ≡ later ++ p ∷ ps → (e : Bool) × AreSound e (p ∷ ps)
  newest e = sound-at (has_ended (goes_on before) false) later p ps
      (subst (λ (all : List CodedPicture). AreSound (has_ended (goes_on before) false) all) e (stands target before told l).sound)

  pub legal-predicted : runs_of before ≡ later ++ p ∷ ps → ArePredicted p ps
  legal-predicted e = are-predicted p ps (read-at later p ps (subst AreRead e (stands target before told l).read)).slices

  pub legal-among : runs_of before ≡ later ++ p ∷ ps → AreAmong (held_in (p ∷ ps)) (within_newest (p ∷ ps)).buffer
  legal-among e = let s = newest e in among-within s.0 p ps s.1

  pub legal-decodes : runs_of before ≡ later ++ p ∷ ps → DecodesWithin p ps
  legal-decodes e = let s = newest e in decodes-within s.0 p ps s.1

  pub legal-ends : ended_pictures (goes_on before) false (runs_of before) ≡ later ++ p ∷ ps → EndsWithin p ps
  legal-ends e =
      ends-within p ps (ended-at later p ps (subst (λ (all : List CodedPicture). AreSound true all) e
      (ended-are (goes_on before) (runs_of before) (stands target before told l).sound)))
      (room-at later p ps (subst EachRoom e (ended-room (goes_on before) (runs_of before) (legal-room target before told l))))

-- ---- of a stream whose end is legal too

module _ (target : Target) (units : History) (first last : List Told) (bit : ℕ) (l : AreLegal (extent_at depths.Full target) units first)
    (end : Runs (end_steps depths.Full units bit) last (Ok tt)) where
  is-decodable : (later : List CodedPicture) (p : CodedPicture) (ps : List CodedPicture) → runs_of units ≡ later ++ p ∷ ps → IsDecodable p ps
  is-decodable later p ps e = record {
    predicted = legal-predicted target units first l later p ps e;
    held = legal-among target units first l later p ps e;
    decodes = legal-decodes target units first l later p ps e;
    ends = ends-within p ps (ended-at later p ps (subst (λ (all : List CodedPicture). AreSound true all) e (all-sound target units first last bit l end)))
        (room-at later p ps (subst EachRoom e (legal-room target units first l)));
  }

  each-decodable : (later ps : List CodedPicture) → runs_of units ≡ later ++ ps → EachIsDecodable ps
  each-decodable later [] e = tt
  each-decodable later (p ∷ ps) e = (is-decodable later p ps e, each-decodable (later ++ p ∷ []) ps (e ∙ sym (append_assoc later (p ∷ []) ps)))

-- its pictures, where slice data are read
pub are-decodable : (depth : Depth) (target : Target) (units : History) (first last : List Told) (bit : ℕ) → AreLegal (extent_at depth target) units first →
    Runs (end_steps depth units bit) last (Ok tt) → AreDecodable depth (runs_of units)
are-decodable depths.Units target units first last bit l e = tt
are-decodable depths.Headers target units first last bit l e = tt
are-decodable depths.Full target units first last bit l e = each-decodable target units first last bit l e [] (runs_of units) refl

-- one of them
pub decodable-at : (later : List CodedPicture) (p : CodedPicture) (ps : List CodedPicture) → EachIsDecodable (later ++ p ∷ ps) → IsDecodable p ps
decodable-at [] p ps d = d.0
decodable-at (q ∷ later) p ps d = decodable-at later p ps d.1

pub whole-decodable : (target : Target) (bytes : List ℕ) (told : List Told) (summary : Summary) (h : Holds (extent_at depths.Full target) bytes told summary)
    (later : List CodedPicture) (p : CodedPicture) (ps : List CodedPicture) → runs_of h.units ≡ later ++ p ∷ ps → IsDecodable p ps
whole-decodable target bytes told summary h later p ps e = decodable-at later p ps (subst EachIsDecodable e h.pictures)
