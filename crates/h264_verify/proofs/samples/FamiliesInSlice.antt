-- Two families with the same first frames: what a slice refers to.
use Rattle.std.proofs.Common.{ℕ, List, [], ◌∷◌, length, Some, ap, ◌∙◌}
use Rattle.h264_plane.specs.declared.frame.Component.{Component}
use Rattle.h264_plane.specs.declared.frame.Frame.{Frame}
use Rattle.h264_plane.specs.Frames.{plane_of}
use Rattle.h264_plane.specs.Samples.{at}
use Rattle.h264_verify.specs.Pictures.{CodedSlice, CodedPicture}
use Rattle.h264_verify.specs.Decoding.{EachSlice, Refers}
use Rattle.h264_verify.specs.Telling.{Agree}

pub each-slice : {P Q : CodedSlice → Type 0} → ((s : CodedSlice) → P s → Q s) → (slices : List CodedSlice) → EachSlice P slices → EachSlice Q slices
each-slice f [] h = tt
each-slice f (s ∷ slices) h = (f s h.0, each-slice f slices h.1)

pub refers-agree : (frames others : ℕ → Frame) (p : CodedPicture) (ps : List CodedPicture) (place : ℕ → ℕ) (reference : ℕ → Component → ℕ → ℕ → ℕ) →
    Agree (length ps) (Some frames) (Some others) → (s : CodedSlice) → Refers frames p ps place reference s → Refers others p ps place reference s
refers-agree frames others p ps place reference a s h = record {
  before = h.before;
  samples = λ k n l e c x y. h.samples k n l e c x y ∙ ap (λ (f : Frame). at (plane_of c f) x y) (a n (h.before k n l e));
}
