-- Reference pictures as frames of a pool. A working form.
use Rattle.std.specs.Prelude.{◌≡◌, ℕ, ◌+◌, ◌*◌, ◌<◌, ◌≤◌, List, length, get_or}
use Rattle.h264_plane.specs.Samples.{at, IsSized}
use Rattle.h264_plane.specs.Frames.{plane_of, frame_at}
use Rattle.h264_plane.specs.declared.frame.Component.{Component}
use Rattle.h264_plane.specs.declared.frame.Frame.{Frame}
use Rattle.h264_plane.specs.Places.{side, Grid}
use Rattle.h264_recon.specs.Inter.{Setting, predicted_from, motion_at, no_motion}
use Rattle.h264_recon.specs.declared.macroblock.Motion.{Motion}
use Rattle.h264_recon.specs.declared.macroblock.Position.{Position}
use Rattle.h264_recon.specs.Predicted.{Prediction, Intra, Inter, Pcm}

-- the frame at place n is the reference picture of that place
pub record IsShown (k : Setting) (frames : List Frame) (n : ℕ) : Type 0 where
  pub size : (p : Component) → IsSized (plane_of p (frame_at frames n)) (side p * k.across) (side p * k.down)
  pub samples : (p : Component) (x y : ℕ) → x < side p * k.across → y < side p * k.down → at (plane_of p (frame_at frames n)) x y ≡ k.reference n p x y

abbrev pub AreShown : Setting → List Frame → Prediction → Type 0
AreShown k frames (Intra modes) = Unit {0}
AreShown k frames (Inter motion) = (n : ℕ) → n < 16 → IsShown k frames (get_or motion n no_motion).picture
AreShown k frames (Pcm bytes) = Unit {0}

-- there is a frame at place n, and it has the macroblock at column c and row r
pub record HasRoom (frames : List Frame) (c r n : ℕ) : Type 0 where
  pub picture : n < length frames
  pub y : (16 * c + 16 ≤ (frame_at frames n).y.width) × (16 * r + 16 ≤ (frame_at frames n).y.height)
  pub cb : (8 * c + 8 ≤ (frame_at frames n).cb.width) × (8 * r + 8 ≤ (frame_at frames n).cb.height)
  pub cr : (8 * c + 8 ≤ (frame_at frames n).cr.width) × (8 * r + 8 ≤ (frame_at frames n).cr.height)

abbrev pub HaveRoom : List Frame → ℕ → ℕ → List Motion → Type 0
HaveRoom frames c r motion = (n : ℕ) → n < 16 → HasRoom frames c r (get_or motion n no_motion).picture

abbrev pub AreUsable : List Frame → ℕ → ℕ → Prediction → Type 0
AreUsable frames c r (Intra modes) = Unit {0}
AreUsable frames c r (Inter motion) = HaveRoom frames c r motion
AreUsable frames c r (Pcm bytes) = Unit {0}

-- the predicted sample, from the frames of the pool
abbrev pub of_frames : Component → List Frame → Motion → Grid
of_frames p frames m x y =
    let plane = plane_of p (frame_at frames m.picture) in
    predicted_from p plane.width plane.height (at plane) m x y

abbrev pub from_pool : List Frame → List Motion → Position → Component → Grid
from_pool frames motion here p x y = of_frames p frames (motion_at motion p x y) (side p * here.column + x) (side p * here.row + y)
