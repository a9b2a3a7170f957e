-- To be read beside the standard. The constructed samples u of a picture, before the deblocking filter (8.3, 8.4.2, 8.5.14): a system of equations over
-- the whole picture.
use Rattle.std.specs.Prelude.{◌≡◌, ℕ, ◌+◌, ◌-◌, ◌*◌, ◌/◌, ◌%◌, ◌<◌, IsTrue, List, get_or, slice_index, Option, pos, ◌+ℤ◌}
use Rattle.h264_base.specs.declared.weight.Weights.{Weights}
use Rattle.h264_plane.specs.Clip.{clip1}
use Rattle.h264_plane.specs.Blocks.{number_of}
use Rattle.h264_plane.specs.Places.{side, Grid}
use Rattle.h264_plane.specs.declared.frame.Component.{Component}
use Rattle.h264_plane.specs.declared.frame.Component.TheVariants.{Y, Cb, Cr}
use Rattle.h264_intra.specs.declared.luma4.Intra4x4PredMode.{Intra4x4PredMode}
use Rattle.h264_intra.specs.declared.luma4.Intra4x4PredMode.TheVariants.{Dc}
use Rattle.h264_intra.specs.Luma4.{predicted4, is_possible4}
use Rattle.h264_intra.specs.Luma16.{predicted16, is_possible16}
use Rattle.h264_intra.specs.Chroma.{predicted_chroma, is_possible_chroma}
use Rattle.h264_scale.specs.Macroblock.{residual}
use Rattle.h264_scale.specs.declared.levels.Levels.{Levels}
use Rattle.h264_recon.specs.Blocks.{sides_of, sides4_of}
use Rattle.h264_recon.specs.Inter.{Setting, position_at, predicted_at, motion_at, no_motion}
use Rattle.h264_recon.specs.Placed.{weights_in}
use Rattle.h264_recon.specs.Predicted.{PcmSamples, Prediction, Intra, Inter, Pcm, prediction_in}
use Rattle.h264_recon.specs.Weights.{weights_at, weighted_if}
use Rattle.h264_recon.specs.declared.macroblock.Available.{Available}
use Rattle.h264_recon.specs.declared.macroblock.IntraLuma.{IntraLuma}
use Rattle.h264_recon.specs.declared.macroblock.IntraLuma.TheVariants.{Blocks, Whole}
use Rattle.h264_recon.specs.declared.macroblock.IntraModes.{IntraModes}
use Rattle.h264_recon.specs.declared.macroblock.Motion.{Motion}
use Rattle.h264_recon.specs.declared.macroblock.Position.{Position}
use Rattle.h264_recon.specs.declared.macroblock.Macroblock.{Macroblock}

-- a macroblock as it was decoded: the sides that intra prediction may use, how it is predicted, its levels, and the weights of its 4x4 places, row by row,
-- where their reference indexes have any
pub record Coded : Type 0 where
  pub available : Available
  pub prediction : Prediction
  pub levels : Levels
  pub weights : List (Option Weights)

abbrev pub coded : Macroblock → Levels → Coded
coded m l = record { available = m.available; prediction = prediction_in m.prediction; levels = l; weights = weights_in m.weighting }

-- Samples s round a macroblock: the standard's p[-1, -1] is s 0 0, the row above is s (x + 1) 0, the column to the left is s 0 (y + 1), and the
-- macroblock's own samples are s (x + 1) (y + 1).

-- the samples u seen from the macroblock of n columns and rows at column c and row r of macroblocks
abbrev pub window : ℕ → Grid → ℕ → ℕ → Grid
window n u c r x y = u (n * c + x - 1) (n * r + y - 1)

-- and from its 4x4 block at column x and row y of blocks
abbrev pub block_window : Grid → ℕ → ℕ → Grid
block_window s x y i j = s (4 * x + i) (4 * y + j)

abbrev pub mode_at : List Intra4x4PredMode → ℕ → ℕ → Intra4x4PredMode
mode_at modes x y = get_or modes (number_of x y) Dc

-- ---- the predicted sample at column x and row y of the macroblock

-- Intra_4x4 and Intra_16x16 (8.3.1, 8.3.3)
unfoldable pub predicted_luma : IntraLuma → Available → Grid → Grid
predicted_luma (Blocks modes) a s x y =
    predicted4 (mode_at modes (x / 4) (y / 4)) (sides4_of a (x / 4) (y / 4)) (block_window s (x / 4) (y / 4)) (x % 4) (y % 4)
predicted_luma (Whole mode) a s x y = predicted16 mode (sides_of a) s x y

unfoldable pub predicted_intra : IntraModes → Available → Component → Grid → Grid
predicted_intra modes a Y s x y = predicted_luma modes.luma a s x y
predicted_intra modes a Cb s x y = predicted_chroma modes.chroma (sides_of a) s x y
predicted_intra modes a Cr s x y = predicted_chroma modes.chroma (sides_of a) s x y

-- of the macroblock that stands here, by the motion of each place
unfoldable pub predicted_inter : Setting → Position → List Motion → Component → Grid
predicted_inter k here motion p x y = predicted_at k (motion_at motion p x y) p (side p * here.column + x) (side p * here.row + y)

-- and weighted (8.4.2.3), by the weights of each place
abbrev pub weighted_inter : Setting → Position → List Motion → List (Option Weights) → Component → Grid
weighted_inter k here motion weights p x y = weighted_if p (weights_at weights p x y) (predicted_inter k here motion p x y)

-- ---- the constructed sample there

abbrev pub pcm_sample : PcmSamples → Component → Grid
pcm_sample b Y x y = slice_index b.y (16 * y + x)
pcm_sample b Cb x y = slice_index b.cb (8 * y + x)
pcm_sample b Cr x y = slice_index b.cr (8 * y + x)

unfoldable pub made_by : Prediction → Setting → Position → Coded → Component → Grid → Grid
made_by (Intra modes) k here m p s x y = clip1 (pos (predicted_intra modes m.available p s x y) +ℤ residual m.levels p x y)
made_by (Inter motion) k here m p s x y = clip1 (pos (weighted_inter k here motion m.weights p x y) +ℤ residual m.levels p x y)
made_by (Pcm bytes) k here m p s x y = pcm_sample bytes p x y

abbrev pub made : Setting → Position → Coded → Component → Grid → Grid
made k here m = made_by m.prediction k here m

-- ---- the equations

-- the samples u meet the equations of the macroblock m at column c and row r
pub record IsMade (k : Setting) (c r : ℕ) (m : Coded) (u : Component → Grid) : Type 0 where
  pub each : (p : Component) (x y : ℕ) → x < side p → y < side p →
      u p (side p * c + x) (side p * r + y) ≡ made k (position_at c r) m p (window (side p) (u p) c r) x y

-- those of each macroblock of a picture, by its address
pub record Constructed (k : Setting) (macroblock : ℕ → Coded) (u : Component → Grid) : Type 0 where
  pub each : (c r : ℕ) → c < k.across → r < k.down → IsMade k c r (macroblock (r * k.across + c)) u

-- two families of reference pictures agree where a macroblock refers to them
abbrev pub SameReferences : (across down : ℕ) (f g : ℕ → Component → Grid) → Prediction → Type 0
SameReferences across down f g (Intra modes) = Unit {0}
SameReferences across down f g (Inter motion) =
    (n : ℕ) → n < 16 → (p : Component) (x y : ℕ) → x < side p * across → y < side p * down →
    f (get_or motion n no_motion).picture p x y ≡ g (get_or motion n no_motion).picture p x y
SameReferences across down f g (Pcm bytes) = Unit {0}

-- ---- what the decoding process ensures of a macroblock

-- an available macroblock lies in the picture, before this one
pub record IsWithin (a : Available) (across c r : ℕ) : Type 0 where
  pub left : IsTrue a.left → 0 < c
  pub above : IsTrue a.above → 0 < r
  pub above_right : IsTrue a.above_right → (0 < r) × (c + 1 < across)
  pub corner : IsTrue a.corner → (0 < c) × (0 < r)

-- a mode refers to sides that there are
abbrev pub IsPossibleLuma : IntraLuma → Available → Type 0
IsPossibleLuma (Blocks modes) a = (x y : ℕ) → x < 4 → y < 4 → IsTrue (is_possible4 (mode_at modes x y) (sides4_of a x y))
IsPossibleLuma (Whole mode) a = IsTrue (is_possible16 mode (sides_of a))

abbrev pub IsPossible : Prediction → Available → Type 0
IsPossible (Intra modes) a = IsPossibleLuma modes.luma a × IsTrue (is_possible_chroma modes.chroma (sides_of a))
IsPossible (Inter motion) a = Unit {0}
IsPossible (Pcm bytes) a = Unit {0}

pub record IsAllowed (m : Coded) (across c r : ℕ) : Type 0 where
  pub within : IsWithin m.available across c r
  pub possible : IsPossible m.prediction m.available
