-- With one unit more the pictures are sound, where its rules are met.
use Rattle.std.proofs.Common.{◌≡◌, ℕ, ◌&&◌, not, Bool, true, false, List, [], ◌∷◌, ◌++◌, Option, Some, None, refl, if◌then◌else◌}
use Rattle.std.specs.Option.{is_some, option_and_then}
use Rattle.h264_verify.specs.declared.state.Depth.{Depth}
use Rattle.h264_verify.specs.declared.state.Depth.TheVariants as depths
use Rattle.h264_marking.specs.declared.frame.Numbering.{Numbering}
use Rattle.h264_marking.specs.Frames.{References}
use Rattle.h264_marking.specs.Window.{filled}
use Rattle.h264_marking.specs.Gaps.{all_filled}
use Rattle.h264_marking.specs.Ended.{numbering_of}
use Rattle.h264_dpb.specs.Buffered.{Buffered}
use Rattle.h264_dpb.specs.Turns.{Shown, missing_turn}
use Rattle.h264_verify.specs.Course.{Steps, ◌>>◌}
use Rattle.h264_verify.specs.Pictures.{CodedSlice, CodedPicture, prev_ref_frame_num_of, held_after, end_of_picture, ended_pictures}
use Rattle.h264_verify.specs.Buffering.{told_frames, missing_steps, missing_on, missing_before, after_all}
use Rattle.h264_verify.specs.Order.{gap_rules, first_slice_rules, slice_rules}
use Rattle.h264_verify.specs.Slices.{pictures_before}
use Rattle.h264_verify.specs.Sound.{has_gap_filled, AreSound, has_ended}
use Rattle.h264_verify.proofs.language.MetRules.{IsMet, AreMet, steps-met, rules-met}
use Rattle.h264_verify.proofs.laws.SoundPictures.{sound-ended}

-- ---- the end of a picture

-- the marking of the picture that may go on is met
abbrev EndIsMet : Bool → List CodedPicture → Type 0
EndIsMet on pictures = AreMet (if on then end_of_picture pictures else [])

pub closes-sound : (on : Bool) (pictures : List CodedPicture) → AreSound (has_ended on false) pictures → EndIsMet on pictures → AreSound true pictures
closes-sound on [] s m = tt
closes-sound true (p ∷ ps) s m = (s.0, λ e. m.0, s.2)
closes-sound false (p ∷ ps) s m = s

-- after a unit that is no slice
pub passed-sound : (ends on : Bool) (pictures : List CodedPicture) → AreSound (has_ended on false) pictures →
    AreMet (if ends then (if on then end_of_picture pictures else []) else []) → AreSound (has_ended (not ends && on) false) pictures
passed-sound true on pictures s m = closes-sound on pictures s m
passed-sound false on pictures s m = s

-- before a slice
pub begun-sound : (begins on : Bool) (pictures : List CodedPicture) → AreSound (has_ended on false) pictures →
    AreMet (if begins then (if on then end_of_picture pictures else []) else []) → AreSound (has_ended on begins) pictures
begun-sound true on pictures s m = sound-ended on pictures (closes-sound on pictures s m)
begun-sound false on pictures s m = s

-- ---- the gap before a picture

filled-on : (o : Option References) (steps : References → Steps) (next : References → Option References) → is_some o ≡ true → IsMet (missing_on o steps) →
    ((held : References) → IsMet (steps held) → is_some (next held) ≡ true) → is_some (option_and_then next o) ≡ true
filled-on None steps next t m f = cc
filled-on (Some held) steps next t m f = f held m

-- its missing numbers were filled
missing-filled : (depth : Depth) (bit : ℕ) (n : Numbering) (numbers : List ℕ) (refs : References) (b : Buffered Shown) →
    IsMet (missing_steps depth bit n numbers refs b) → is_some (all_filled n numbers refs) ≡ true
missing-filled depth bit n [] refs b m = refl
missing-filled depth bit n (number ∷ numbers) refs b m =
    filled-on (filled (record n { frame_num = number }) refs)
    (λ held. told_frames depth (missing_turn held b).written >> missing_steps depth bit n numbers held (missing_turn held b).buffer) (all_filled n numbers)
    m.0 m.1
    (λ held k. missing-filled depth bit n numbers held (missing_turn held b).buffer
    (steps-met (told_frames depth (missing_turn held b).written) (missing_steps depth bit n numbers held (missing_turn held b).buffer) (λ _. Unit {0}) k).1)

-- where a picture's first slice has met its rules
pub first-filled : (depth : Depth) (pictures : List CodedPicture) (s : CodedSlice) → IsMet (first_slice_rules depth (pictures_before pictures) s) →
    has_gap_filled (record { first = s; later = [] }) pictures ≡ true
first-filled depth pictures s m =
    let n = numbering_of s.sps s.header in
    let before = pictures_before pictures in
    let missing = missing_before (record { first = s; later = [] }) pictures in
    let gap = gap_rules depth s (prev_ref_frame_num_of pictures) (held_after pictures) (after_all pictures).buffer in
    let steps = missing_steps depth s.header.frame_num.bit n missing (held_after pictures) (after_all pictures).buffer in
    let filled = (rules-met _ _ _ (steps-met gap _ _ (rules-met _ _ _ m).1).0).1 in
    missing-filled depth s.header.frame_num.bit n missing (held_after pictures) (after_all pictures).buffer (steps-met steps _ _ filled).0

-- where a slice that begins a picture has met its rules
pub begun-filled : (begins : Bool) (pictures : List CodedPicture) (s : CodedSlice) → IsMet (slice_rules depths.Full begins pictures s) →
    begins ≡ true → has_gap_filled (record { first = s; later = [] }) pictures ≡ true
begun-filled true pictures s m b = first-filled depths.Full pictures s m
begun-filled false pictures s m b = cc

-- ---- some of these pictures

-- those that have ended
pub ended-are : (on : Bool) (pictures : List CodedPicture) → AreSound (has_ended on false) pictures → AreSound true (ended_pictures on false pictures)
ended-are true [] s = tt
ended-are false [] s = tt
ended-are true (p ∷ ps) s = s.2
ended-are false (p ∷ ps) s = s

-- each with those before it
pub sound-at : (ended : Bool) (later : List CodedPicture) (p : CodedPicture) (ps : List CodedPicture) → AreSound ended (later ++ p ∷ ps) → (e : Bool) ×
    AreSound e (p ∷ ps)
sound-at ended [] p ps s = (ended, s)
sound-at ended (q ∷ later) p ps s = sound-at true later p ps s.2

pub ended-at : (later : List CodedPicture) (p : CodedPicture) (ps : List CodedPicture) → AreSound true (later ++ p ∷ ps) → AreSound true (p ∷ ps)
ended-at [] p ps s = s
ended-at (q ∷ later) p ps s = ended-at later p ps s.2
