-- A slice has taken its place, and its rules are judged.
use Rattle.std.proofs.Common.{◌≡◌, ℕ, ◌+◌, Bool, true, false, List, [], ◌∷◌, length, Some, Result, ap, sym, ◌∙◌, subst}
use Rattle.h264_verify.specs.declared.state.Depth.{Depth}
use Rattle.h264_base.specs.declared.stop.Stop.{Stop}
use Rattle.h264_base.specs.Call.{Call, span}
use Rattle.h264_units.specs.Stream.{NalUnit}
use Rattle.h264_near.specs.Coded.{CodedMacroblock}
use Rattle.h264_sps.specs.declared.sps.Sps.{Sps}
use Rattle.h264_sps.specs.Usable.{is_usable}
use Rattle.h264_pps.specs.declared.Pps.{Pps}
use Rattle.h264_sets.specs.Sets.{Maps}
use Rattle.h264_header.specs.declared.header.Header.{Header}
use Rattle.h264_header.specs.Layout.{sets_of}
use Rattle.h264_header.specs.Picture.{is_idr}
use Rattle.h264_marking.specs.Ended.{numbering_of}
use Rattle.h264_marking.specs.Gaps.{all_filled, unused_short_term_frame_nums}
use Rattle.h264_verify.specs.declared.slices.PicturesSoFar.{PicturesSoFar}
use Rattle.h264_verify.specs.declared.state.State.{State}
use Rattle.h264_verify.specs.Telling.{took_with, frame_span, Family}
use Rattle.h264_verify.specs.Outcome.{Plays}
use Rattle.h264_verify.specs.CourseOutcome.{outcome_of}
use Rattle.h264_verify.specs.Content as contents
use Rattle.h264_verify.specs.History.{History, maps_of, maps_with}
use Rattle.h264_verify.specs.Pictures.{CodedSlice, CodedPicture, with_sets, begins_at, joined_to, goes_on, runs_of}
use Rattle.h264_verify.specs.KeepingUnits.{Keeps}
use Rattle.h264_verify.specs.Keeping.{KeepsSlices, KeepsPictures, KeepsFrames, WhereMade, GoesWith, KeepsSomeRules}
use Rattle.h264_verify.specs.Framing.{PlacesSlice, slice_after}
use Rattle.h264_verify.specs.Order.{slice_steps, coded_before, told_rules}
use Rattle.h264_verify.specs.Sound.{IsMarked, NamesSet, AreSound}
use Rattle.h264_verify.proofs.kept.KeepsEntered.{slice-keeps}
use Rattle.h264_verify.proofs.judged.UnitJoins.{units-with, runs-with}
use Rattle.h264_verify.proofs.judged.SliceRules.{goes-with}
use Rattle.h264_verify.proofs.judged.SliceSets.{stands-if, before-active, joined-sound, gap-filled, joined-active, joined-named}
use Rattle.h264_verify.proofs.judged.SliceJudged.{slice-stands}
use Rattle.h264_verify.proofs.language.Played.{met, last}
use Rattle.h264_verify.specs.Slices.{first_mb_demands}

module _ {S : Type 0} (depth : Depth) (took : S → List Call → Type 0) (failures : S → ℕ) (frames : Family) (before : History) (unit : NalUnit) (h : Header)
    (begins : Bool) (old mid : State) (s s1 : S) (placed : PlacesSlice depth (frame_span took failures frames s s1) (slice_after before unit h begins) old mid)
  where
    -- there are pictures of which this is kept before its rules
    pub some-rules : KeepsSomeRules begins mid.slices mid.decoder
    some-rules = record { depth = depth; frames = placed.closes.made; before = before; slices_are = placed.ended; keeps = placed.closes.keeps }

    module _ (pps : Pps) (sps : Sps) (m : old.sets ≡ maps_of before) (sets : sets_of old.sets h.pic_parameter_set_id.value ≡ Some (pps, sps)) where
      abbrev slice : List CodedMacroblock → CodedSlice
      slice ms = with_sets unit h ms (pps, sps)

      -- where it begins a picture that is no IDR picture, it goes on with the sequence
      pub goes-on-with : is_usable sps ≡ true → begins ≡ true → is_idr h ≡ false → GoesWith sps mid.slices.held mid.decoder
      goes-on-with usable begun i =
          let set = stands-if begins _ (runs_of before) old.sets sps _ h (before-active before begins _ _ placed.ended m) (placed.stands (pps, sps) sets) begun
          i in
          goes-with sps usable depth begins placed.closes.made before mid.slices mid.decoder begun placed.ended placed.closes.keeps set

      module _ (b : begins ≡ begins_at before h) where
        -- what comes to pass of it
        pub slice-plays : (s2 : S) (r : Result (Unit {0}) Stop) →
            Plays (span (took_with placed.closes.made took) failures s1 s2) (λ (x : Unit {0}). x)
            (outcome_of (told_rules depth begins (runs_of before) (slice []))) r →
            Plays (span (took_with placed.closes.made took) failures s s2) (λ (x : Unit {0}). x) (outcome_of (slice_steps depth before unit h)) r
        slice-plays s2 r plays = last _ _ (met _ _ (first_mb_demands depth (coded_before begins (runs_of before)) h) _
            (slice-stands (took_with placed.closes.made took) failures depth before unit h begins b mid.slices.due old.sets placed.ended.due m (pps, sps) sets
            s s1 tt tt placed.closes.plays (placed.stands (pps, sps) sets)) placed.first) plays

        -- it is sound with the pictures before it
        pub sound-slice : (ms : List CodedMacroblock) (new : PicturesSoFar) → IsMarked h → is_usable sps ≡ true →
            (begins ≡ true → all_filled (numbering_of sps h) (unused_short_term_frame_nums (is_idr h) mid.slices.prev_ref_frame_num (numbering_of sps h))
            mid.slices.held ≡ Some new.held) → AreSound false (joined_to begins (slice ms) (runs_of before))
        sound-slice ms new marked usable filled =
            let active = before-active before begins _ _ placed.ended m in
            joined-sound begins (goes_on before) (slice ms) (runs_of before) b placed.ended.sound marked usable
            (stands-if begins _ (runs_of before) old.sets sps _ h active (placed.stands (pps, sps) sets))
            (λ begun. gap-filled before begins mid.slices _ (slice ms) placed.ended begun (filled begun))

        -- what is kept of it, where its rules are met
        pub keeps-slice : (ms : List CodedMacroblock) (new : PicturesSoFar) → IsMarked h → is_usable sps ≡ true →
            KeepsPictures true false (joined_to begins (slice ms) (runs_of before)) new → new.due ≡ false →
            (begins ≡ true → all_filled (numbering_of sps h) (unused_short_term_frame_nums (is_idr h) mid.slices.prev_ref_frame_num (numbering_of sps h))
            mid.slices.held ≡ Some new.held) → KeepsSlices (record { unit = unit; content = contents.OfSlice h ms } ∷ before) false new
        keeps-slice ms new marked usable kept due filled =
            let stands = placed.stands (pps, sps) sets in
            let active = before-active before begins _ _ placed.ended m in
            slice-keeps before unit h ms old.sets new begins _ b m sets kept due
            (sound-slice ms new marked usable filled)
            (joined-active old.sets (slice ms) sets begins (goes_on before) (runs_of before) _ _ b active stands)
            (joined-named old.sets (slice ms) sets begins (goes_on before) (runs_of before) b
            (subst (λ (x : Maps). NamesSet (goes_on before) (runs_of before) x) (sym m) placed.ended.named))

        -- and of all units with it
        pub keeps-with : (ms : List CodedMacroblock) (new : State) → IsMarked h → is_usable sps ≡ true →
            KeepsPictures true false (joined_to begins (slice ms) (runs_of before)) new.slices → new.slices.due ≡ false →
            (begins ≡ true → all_filled (numbering_of sps h) (unused_short_term_frame_nums (is_idr h) mid.slices.prev_ref_frame_num (numbering_of sps h))
            mid.slices.held ≡ Some new.slices.held) → new.sets ≡ maps_with old.sets (contents.OfSlice h []) → new.units ≡ old.units + 1 →
            old.units ≡ length before →
            WhereMade depth (KeepsFrames placed.closes.made true false (joined_to begins (slice ms) (runs_of before))) new.decoder →
            Keeps depth placed.closes.made (record { unit = unit; content = contents.OfSlice h ms } ∷ before) new
        keeps-with ms new marked usable kept due filled sets-are counted units frames-are = record {
          units = units-with before (record { unit = unit; content = contents.OfSlice h ms }) old.units new.units counted units;
          sets = sets-are ∙ ap (λ x. maps_with x (contents.OfSlice h ms)) m;
          slices = keeps-slice ms new.slices marked usable kept due filled;
          decoder = subst (λ (ps : List CodedPicture). WhereMade depth (KeepsFrames placed.closes.made true false ps) new.decoder)
              (runs-with before unit h ms old.sets begins (pps, sps) b m sets) frames-are;
        }
