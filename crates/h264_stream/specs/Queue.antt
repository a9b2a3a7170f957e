-- The frames of a stream that were handed out, and those that wait. To be read beside docs/LIBRARY.md.
use Rattle.std.specs.Prelude.{◌≡◌, ℕ, List, [], ◌∷◌, ◌++◌, length}
use Rattle.h264_base.specs.Call.{Call, OfFrame}
use Rattle.h264_stream.specs.declared.queue.ShownFrame.{ShownFrame}

-- the frames among calls, in order
abbrev pub frames_in : Call → List Call
frames_in (OfFrame count width height samples) = OfFrame count width height samples ∷ []
frames_in call = []

unfoldable pub frames_of : List Call → List Call
frames_of [] = []
frames_of (call ∷ calls) = frames_in call ++ frames_of calls

-- what a sink was told of a frame that was kept
abbrev pub told_of_frame : ShownFrame → Call
told_of_frame f = OfFrame f.count f.width f.height f.samples.items

unfoldable pub told_of_frames : List ShownFrame → List Call
told_of_frames [] = []
told_of_frames (f ∷ fs) = told_of_frame f ∷ told_of_frames fs

-- So many of the frames of these calls were handed out, the first ones, and these wait, all others.
pub record Waits (handed_out : ℕ) (waiting : List ShownFrame) (calls : List Call) : Type 0 where
  pub out : List Call
  pub counted : length out ≡ handed_out
  pub whole : frames_of calls ≡ out ++ told_of_frames waiting

-- Since these waited, and so many were handed out, the frames of these calls came, and none was handed out.
pub record IsFilled (out_before : ℕ) (waiting_before : List Call) (handed_out : ℕ) (waiting : List ShownFrame) (calls : List Call) : Type 0 where
  pub none_out : handed_out ≡ out_before
  pub added : told_of_frames waiting ≡ waiting_before ++ frames_of calls
