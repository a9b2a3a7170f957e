-- What judging does to the frames of the pictures. A working form.
use Rattle.std.specs.Prelude.{◌≡◌, ℕ, ◌*◌, Bool, true, false, List, [], length, OnOk, Option, Result, Ok, Some}
use Rattle.h264_verify.specs.declared.state.Depth.{Depth}
use Rattle.h264_base.specs.declared.stop.Stop.{Stop}
use Rattle.h264_units.specs.Stream.{NalUnit}
use Rattle.h264_near.specs.Coded.{CodedMacroblock}
use Rattle.h264_verify.specs.declared.decoder.Decoder.{Decoder}
use Rattle.h264_verify.specs.declared.state.State.{State}
use Rattle.h264_verify.specs.Telling.{FrameSpan, with_frames, Agree, Family}
use Rattle.h264_verify.specs.Outcome.{Outcome, Plays}
use Rattle.h264_verify.specs.History.{History}
use Rattle.h264_pps.specs.declared.Pps.{Pps}
use Rattle.h264_sps.specs.declared.sps.Sps.{Sps}
use Rattle.h264_header.specs.declared.header.Header.{Header}
use Rattle.h264_verify.specs.Pictures.{CodedPicture, with_sets, goes_on, runs_of}
use Rattle.h264_verify.specs.Order.{slice_steps, standing_demands, coded_before, close_if}
use Rattle.h264_verify.specs.Keeping.{KeepsSlices, KeepsFrames, WhereMade, EntersBy, ended_in}
use Rattle.h264_verify.specs.Pictures.{ended_pictures}
use Rattle.h264_verify.specs.Demands.{judged}
use Rattle.h264_verify.specs.Slices.{first_mb_demands}
use Rattle.h264_header.specs.Layout.{sets_of}
use Rattle.h264_verify.specs.CourseOutcome.{outcome_of}

-- The pictures so far, whether the newest may go on, and whether it ends here.
pub record Closing : Type 0 where
  pub on : Bool
  pub ends : Bool
  pub pictures : List CodedPicture

abbrev pub closing : Bool → Bool → List CodedPicture → Closing
closing on ends pictures = record { on = on; ends = ends; pictures = pictures }

-- The picture that may go on has ended, or not; with these frames and one more, if it has, this was told, and that is kept.
pub record EndsFrames {S : Type 0} (depth : Depth) (w : FrameSpan S) (c : Closing) (o : Outcome (Unit {0})) (new : Option Decoder)
    (result : Result (Unit {0}) Stop) : Type 0 where
  pub made : Family
  pub same : Agree (length (ended_pictures c.on false c.pictures)) w.frames made
  pub plays : Plays (with_frames made w.sink) (λ (x : Unit {0}). x) o result
  pub keeps : OnOk result (WhereMade depth (KeepsFrames made c.on c.ends c.pictures) new)

-- A slice after these units: its unit, its header, and whether it begins a picture.
pub record SliceAfter : Type 0 where
  pub before : History
  pub unit : NalUnit
  pub header : Header
  pub begins : Bool

abbrev pub slice_after : History → NalUnit → Header → Bool → SliceAfter
slice_after before unit header begins = record { before = before; unit = unit; header = header; begins = begins }

-- The rules of a slice of these sets were judged; where they are met, its slice data may come.
pub record JudgesSlice {S : Type 0} (depth : Depth) (w : FrameSpan S) (s : SliceAfter) (named : Pps × Sps) (new : Option Decoder)
    (result : Result (Unit {0}) Stop) : Type 0 where
  pub made : Family
  pub same : Agree (ended_in s.before) w.frames made
  pub plays : Plays (with_frames made w.sink) (λ (x : Unit {0}). x) (outcome_of (slice_steps depth s.before s.unit s.header)) result
  pub enters : OnOk result (WhereMade depth (EntersBy made s.begins (with_sets s.unit s.header [] named) (goes_on s.before) (runs_of s.before)) new)

-- Slice data were read, and the sink was told what comes of them; this is kept of the macroblocks up to there.
pub record ReadsSlice {S X : Type 0} (w : FrameSpan S) (o : Outcome (List CodedMacroblock × ℕ)) (K : List CodedMacroblock → Type 0)
    (result : Result X Stop) : Type 0 where
  pub macroblocks : List CodedMacroblock
  pub end : ℕ
  pub plays : Plays (with_frames w.frames w.sink) (λ (x : X). (macroblocks, end)) o result
  pub keeps : OnOk result (K macroblocks)

-- Slice data were read, and the sink was told what comes of them; the frames of the pictures are kept, with the macroblocks of the newest up to there.
pub record ReadsData {S X : Type 0} (w : FrameSpan S) (o : Outcome (List CodedMacroblock × ℕ)) (pictures : List CodedMacroblock → List CodedPicture)
    (new : Decoder) (result : Result X Stop) : Type 0 where
  pub macroblocks : List CodedMacroblock
  pub end : ℕ
  pub plays : Plays (with_frames w.frames w.sink) (λ (x : X). (macroblocks, end)) o result
  pub keeps : OnOk result (KeepsFrames w.frames true false (pictures macroblocks) new)

-- A slice took its place after these units: the picture before it ended, where it begins one, and the rules on its place are met.
pub record PlacesSlice {S : Type 0} (depth : Depth) (w : FrameSpan S) (s : SliceAfter) (old new : State) : Type 0 where
  pub closes : EndsFrames depth w (closing (goes_on s.before) s.begins (runs_of s.before)) (outcome_of (close_if s.begins depth s.before))
      new.decoder (Ok tt)
  pub ended : KeepsSlices s.before s.begins new.slices
  pub stands : (named : Pps × Sps) → sets_of old.sets s.header.pic_parameter_set_id.value ≡ Some named →
      Ok tt ≡ judged (standing_demands s.begins named.1 new.slices.due old.sets (8 * s.unit.from) s.header)
  pub first : Ok tt ≡ judged (first_mb_demands depth (coded_before s.begins (runs_of s.before)) s.header)
