-- A slice is judged: what comes to pass, one part after another.
use Rattle.std.proofs.Common.{◌≡◌, ℕ, ◌*◌, Bool, true, false, List, [], Option, Some, Ok, refl, ap, sym, ◌∙◌, subst}
use Rattle.h264_base.specs.Call.{span}
use Rattle.h264_verify.specs.declared.state.Depth.{Depth}
use Rattle.h264_units.specs.Stream.{NalUnit}
use Rattle.h264_sps.specs.declared.sps.Sps.{Sps}
use Rattle.h264_pps.specs.declared.Pps.{Pps}
use Rattle.h264_picture.specs.Buffer.{buffer_size}
use Rattle.h264_sets.specs.Sets.{Maps}
use Rattle.h264_header.specs.declared.header.Header.{Header}
use Rattle.h264_header.specs.Layout.{sets_of}
use Rattle.h264_dpb.specs.Ending.{ended_of}
use Rattle.h264_verify.specs.declared.decoder.Decoder.{Decoder}
use Rattle.h264_verify.specs.declared.slices.PicturesSoFar.{PicturesSoFar}
use Rattle.h264_verify.specs.Telling.{Told, Family}
use Rattle.h264_verify.specs.Outcome.{gives, Plays}
use Rattle.h264_verify.specs.Demands.{judged}
use Rattle.h264_verify.specs.History.{History, maps_of}
use Rattle.h264_verify.specs.Order.{slice_steps, standing_demands, coded_before, close_if, steps_by, own_steps, told_rules}
use Rattle.h264_verify.specs.Buffering.{ended_picture, frame_count}
use Rattle.h264_verify.specs.CourseOutcome.{outcome_of}
use Rattle.h264_verify.specs.Slices.{first_mb_demands, is_idr_due}
use Rattle.h264_verify.specs.Pictures.{CodedSlice, CodedPicture, with_sets, sets_at, open_of, begins_after, begins_at, runs_of}
use Rattle.h264_verify.specs.Keeping.{KeepsFrames, WhereMade, HoldsNewest, Entered}
use Rattle.h264_verify.specs.Course.{Steps, ◌>>◌, needs}
use Rattle.h264_verify.proofs.language.Played.{ComesTo, begins as begins-so, played, met}
use Rattle.h264_verify.proofs.kept.KeepsOutput.{coded-by, holds-newest}
use Rattle.h264_verify.proofs.kept.WhereMade.{made-then}

module _ {S : Type 0} (took : S → List Told → Type 0) (failures : S → ℕ) (depth : Depth) (before : History) (unit : NalUnit) (h : Header) (begins : Bool)
    (b : begins ≡ begins_at before h) where
  -- it was judged up to these steps
  abbrev pub SliceTo : S → S → Steps → Type 0
  SliceTo s s' rest = ComesTo took failures gives (outcome_of (slice_steps depth before unit h)) rest s s'

  abbrev own : Steps
  own = steps_by depth (sets_at before h) before unit h

  pub slice-begins : (s : S) → SliceTo s s (close_if begins depth before >> own)
  slice-begins s = subst (λ (x : Bool). SliceTo s s (close_if x depth before >> own)) (sym b) (begins-so took failures (slice_steps depth before unit h) s)

  -- the picture before it has ended, where it begins one; it has these sets
  module _ (due : Bool) (maps : Maps) (due-is : due ≡ is_idr_due before) (maps-are : maps ≡ maps_of before) (sets : Pps × Sps)
      (named : sets_of maps h.pic_parameter_set_id.value ≡ Some sets) where
    abbrev slice : CodedSlice
    slice = with_sets unit h [] sets

    own-is : own ≡ own_steps depth begins due maps (runs_of before) slice
    own-is =
        ap (λ o. steps_by depth o before unit h) (ap (λ m. sets_of m h.pic_parameter_set_id.value) (sym maps-are) ∙ named)
        ∙ ap (λ x. own_steps depth x (is_idr_due before) (maps_of before) (runs_of before) slice) (sym b)
        ∙ ap (λ x. own_steps depth begins x (maps_of before) (runs_of before) slice) (sym due-is)
        ∙ ap (λ m. own_steps depth begins due m (runs_of before) slice) (sym maps-are)

    pub slice-closed : (s s' : S) (x : Unit {0}) →
        Plays (span took failures s s') (λ (u : Unit {0}). u) (outcome_of (close_if begins depth before)) (Ok x) →
        SliceTo s s' (own_steps depth begins due maps (runs_of before) slice)
    slice-closed s s' x p = subst (SliceTo s s') own-is (played took failures (close_if begins depth before) _ (slice-begins s) p)

    pub slice-stands : (s s' : S) (x y : Unit {0}) →
        Plays (span took failures s s') (λ (u : Unit {0}). u) (outcome_of (close_if begins depth before)) (Ok x) →
        Ok y ≡ judged (standing_demands begins sets.1 due maps (8 * unit.from) h) →
        SliceTo s s' (needs (first_mb_demands depth (coded_before begins (runs_of before)) h) >> told_rules depth begins (runs_of before) slice)
    slice-stands s s' x y p stands = met took failures (standing_demands begins sets.1 due maps (8 * unit.from) h) _ (slice-closed s s' x p) stands

-- the macroblocks of its picture before it
held-before : (frames : Family) (on begins : Bool) (pictures : List CodedPicture) (h : Header) → begins ≡ begins_after (open_of on pictures) h →
    (d : Decoder) → KeepsFrames frames on begins pictures d → HoldsNewest begins pictures d.work
held-before frames on true pictures h b d k = tt
held-before frames on false pictures h b d k = holds-newest on pictures h false d.work b (coded-by frames on pictures d k)

pub before-held : (depth : Depth) (frames : Family) (on begins : Bool) (pictures : List CodedPicture) (h : Header) (decoder : Option Decoder) → begins ≡
    begins_after (open_of on pictures) h → WhereMade depth (KeepsFrames frames on begins pictures) decoder →
    WhereMade depth (λ d. HoldsNewest begins pictures d.work) decoder
before-held depth frames on begins pictures h decoder b k = made-then _ _ depth decoder (held-before frames on begins pictures h b) k

-- what the buffer is told of its picture, where it begins one
pub ended-is : (before : History) (begins : Bool) (slice : CodedSlice) (slices : PicturesSoFar) → Entered before begins slice slices → begins ≡ true →
    ended_of slice.sps slice.header slices.pictures (frame_count slices.count) (buffer_size slice.sps) ≡
    ended_picture (record { first = slice; later = [] }) (runs_of before)
ended-is before true slice slices e b = rw (e.pictures_are, e.count) refl
ended-is before false slice slices e b = cc
