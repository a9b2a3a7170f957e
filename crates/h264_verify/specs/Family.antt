-- Two families of frames, by number in decoding order, beside the pictures of a stream, and what sinks are told of it. To be read beside the standard.
use Rattle.std.specs.Prelude.{◌≡◌, ℕ, ◌*◌, ◌<◌, ◌⊎◌, List, [], ◌∷◌, ◌++◌, length}
use Rattle.h264_base.specs.Call.{Call, OfUnit, OfSlice, OfElement, OfFrame}
use Rattle.h264_plane.specs.declared.frame.Component.{Component}
use Rattle.h264_plane.specs.declared.frame.Frame.{Frame}
use Rattle.h264_plane.specs.Frames.{plane_of}
use Rattle.h264_plane.specs.Places.{side}
use Rattle.h264_plane.specs.Samples.{at}
use Rattle.h264_sps.specs.declared.sps.FrameSize.{FrameSize}
use Rattle.h264_verify.specs.Pictures.{CodedPicture}

-- They have the same sample at each place of this picture, in each plane.
abbrev pub HaveSameSamples : (frames others : ℕ → Frame) → ℕ → FrameSize → Type 0
HaveSameSamples frames others n size =
    (c : Component) (x y : ℕ) → x < side c * size.width → y < side c * size.height → at (plane_of c (frames n)) x y ≡ at (plane_of c (others n)) x y

-- so they have at each place of each of these pictures, the newest first
abbrev pub AreSameOn : (frames others : ℕ → Frame) → List CodedPicture → Type 0
AreSameOn frames others [] = Unit {0}
AreSameOn frames others (p ∷ ps) = HaveSameSamples frames others (length ps) p.first.sps.frame_size × AreSameOn frames others ps

-- a sink that took the first list may go on to the second
pub record IsFrontOf (calls more : List Call) : Type 0 where
  pub rest : List Call
  pub whole : more ≡ calls ++ rest

-- it tells a frame
abbrev pub IsFrame : Call → Type 0
IsFrame (OfUnit byte kind importance length) = ⊥
IsFrame (OfSlice byte first kind number count) = ⊥
IsFrame (OfElement name bit value) = ⊥
IsFrame (OfFrame count width height samples) = Unit {0}

-- The first list is the second without its frames.
abbrev pub LeavesFramesOut : List Call → List Call → Type 0
LeavesFramesOut [] [] = Unit {0}
LeavesFramesOut (c ∷ calls) [] = ⊥
LeavesFramesOut [] (o ∷ others) = IsFrame o × LeavesFramesOut [] others
LeavesFramesOut (c ∷ calls) (o ∷ others) = ((c ≡ o) × LeavesFramesOut calls others) ⊎ (IsFrame o × LeavesFramesOut (c ∷ calls) others)
