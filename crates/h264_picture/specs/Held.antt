-- A picture in the making: what the frame and the lines hold after the macroblocks so far. A working form.
use Rattle.std.specs.Prelude.{ℕ, ◌+◌, ◌*◌, ◌/◌, ◌%◌, ◌<◌, List, length}
use Rattle.h264_plane.specs.Frames.{plane_of, is_chroma}
use Rattle.h264_plane.specs.Places.{side}
use Rattle.h264_plane.specs.declared.frame.Component.{Component}
use Rattle.h264_plane.specs.declared.frame.Frame.{Frame}
use Rattle.h264_near.specs.Coded.{CodedMacroblock}
use Rattle.h264_recon.specs.Inter.{Setting}
use Rattle.h264_recon.specs.Constructed.{Coded, IsMade, IsPossible}
use Rattle.h264_recon.specs.Lines.{AreStored}
use Rattle.h264_recon.specs.declared.store.Lines.{Lines}
use Rattle.h264_deblock.specs.Filtering.{PlaneEdges, IsOf, IsReached, unfiltered}
use Rattle.h264_picture.specs.Decoded.{Parameters, macroblock_at, edges_at}

-- the macroblock meets its equations, and its modes refer to sides that there are
pub record IsSolved (k : Setting) (c r : ℕ) (m : Coded) (u : Component → ℕ → ℕ → ℕ) : Type 0 where
  pub made : IsMade k c r m u
  pub possible : IsPossible m.prediction m.available

-- the planes hold u, filtered by the macroblocks before the one at column c and row r, at the places of these
abbrev pub AreReached : Setting → (Component → ℕ → PlaneEdges) → (Component → ℕ → ℕ → ℕ) → ℕ → ℕ → Frame → Type 0
AreReached k all u c r f = (p : Component) → IsReached (unfiltered k.across (side p) (is_chroma p) (all p) (u p)) c r (plane_of p f)

-- After these macroblocks there are samples u that meet the equations so far. The lines hold u round the next macroblock, and the frame holds u,
-- filtered by the edges so far, at the places of the macroblocks so far.
pub record IsHeld (k : Setting) (place : ℕ → ℕ) (slices : ℕ → Parameters) (lines : Lines) (frame : Frame) (picture : List CodedMacroblock) : Type 0 where
  pub u : Component → ℕ → ℕ → ℕ
  pub solved : (c r : ℕ) → c < k.across → r * k.across + c < length picture → IsSolved k c r (macroblock_at slices place k.across picture (r * k.across + c)) u
  pub stored : AreStored k.across (length picture % k.across) (length picture / k.across) u lines
  pub reached : AreReached k (edges_at slices k.across picture) u (length picture % k.across) (length picture / k.across) frame
  pub size : IsOf k.across k.down frame
