-- What was judged of a unit, and of the end of the input, and what the sink was told of it. A working form.
use Rattle.std.specs.Prelude.{ℕ, Bool, length, OnOk, Result, Ok}
use Rattle.h264_verify.specs.declared.state.Depth.{Depth}
use Rattle.h264_base.specs.declared.stop.Stop.{Stop}
use Rattle.h264_units.specs.Stream.{NalUnit}
use Rattle.h264_verify.specs.declared.state.State.{State}
use Rattle.h264_base.specs.declared.summary.Summary.{Summary}
use Rattle.h264_verify.specs.declared.state.Extent.{Extent}
use Rattle.h264_verify.specs.Telling.{FrameSpan, with_frames, Agree, Family}
use Rattle.h264_verify.specs.Content.{Content}
use Rattle.h264_verify.specs.Outcome.{Outcome, Plays}
use Rattle.h264_verify.specs.History.{History}
use Rattle.h264_verify.specs.KeepingUnits.{Keeps}
use Rattle.h264_units.specs.UnitHeader.{header_of, nal_unit_type, ends_picture}
use Rattle.h264_verify.specs.Keeping.{ended_in}
use Rattle.h264_verify.specs.Pictures.{ended_pictures}
use Rattle.h264_verify.specs.Pictures.{goes_on, runs_of}
use Rattle.h264_verify.specs.UnitOutcome.{content_outcome, unit_outcome, end_outcome}

-- After these units a unit was judged, and the sink was told what comes of it.
pub record Turns {S X : Type 0} (extent : Extent) (w : FrameSpan S) (before : History) (unit : NalUnit) (new : State) (result : Result X Stop) : Type 0 where
  pub made : Family
  pub same : Agree (ended_in before) w.frames made
  pub after : History
  pub plays : Plays (with_frames made w.sink) (λ (x : X). after) (unit_outcome extent before unit) result
  pub keeps : OnOk result (Keeps extent.depth made after new)

-- whether a picture ends before what is in this unit (7.4.1.2.3)
abbrev pub is_ending : NalUnit → Bool
is_ending unit = ends_picture (nal_unit_type (header_of unit))

-- how many pictures have ended then
abbrev pub ended_before : History → NalUnit → ℕ
ended_before before unit = length (ended_pictures (goes_on before) (is_ending unit) (runs_of before))

-- What is in a unit was read and judged, and the sink was told what comes of it.
pub record Joins {S X : Type 0} (extent : Extent) (w : FrameSpan S) (before : History) (unit : NalUnit) (new : State) (result : Result X Stop) : Type 0 where
  pub made : Family
  pub same : Agree (ended_before before unit) w.frames made
  pub after : History
  pub plays : Plays (with_frames made w.sink) (λ (x : X). after) (content_outcome extent before unit) result
  pub keeps : OnOk result (Keeps extent.depth made after new)

-- What comes of a unit up to its slice data was told, with every rule before them met, and no more.
pub record Pauses {S : Type 0} (w : FrameSpan S) (ended : ℕ) (o : Outcome Content) : Type 0 where
  pub made : Family
  pub same : Agree ended w.frames made
  pub found : Content
  pub plays : Plays {X = Unit {0}} (with_frames made w.sink) (λ (x : Unit {0}). found) o (Ok tt)

-- The end of the input was judged, and the sink was told what comes of it.
pub record EndsAll {S X : Type 0} (depth : Depth) (w : FrameSpan S) (before : History) (bit : ℕ) (view : X → Summary) (result : Result X Stop) : Type 0 where
  pub made : Family
  pub same : Agree (ended_in before) w.frames made
  pub plays : Plays (with_frames made w.sink) view (end_outcome depth before bit) result
