-- The motions that the code has, by the places that indexes of the reference list name. A working form.
use Rattle.std.specs.Prelude.{◌≡◌, ℕ, ◌%◌, ◌/◌, ◌<◌, Bool, true, false, List, get_or, replicate, Option, Some, None, unwrap_or}
use Rattle.h264_near.specs.declared.motion.Motion as derived
use Rattle.h264_plane.specs.Blocks.{number_of}
use Rattle.h264_vectors.specs.declared.slice.SliceContext.{SliceContext}
use Rattle.h264_recon.specs.Inter.{no_motion}
use Rattle.h264_recon.specs.Table.{table}
use Rattle.h264_recon.specs.Predicted.{Prediction, Intra, Inter, Pcm}
use Rattle.h264_recon.specs.Weights.{index_weights}
use Rattle.h264_base.specs.declared.weight.Weights.{Weights}
use Rattle.h264_recon.specs.declared.macroblock.Weighting.{Weighting}
use Rattle.h264_recon.specs.declared.weights.SliceWeights.{SliceWeights}

-- the places of the slice's reference pictures, by refIdxL0, are those of their numbers
pub record ArePlaced (slice : SliceContext) (places : List ℕ) (place : ℕ → ℕ) : Type 0 where
  pub each : (k n : ℕ) → k < 16 → get_or slice.references k None ≡ Some n → get_or places k 0 ≡ place n

-- a place is one of these sixteen
abbrev pub IsOneOf : List ℕ → ℕ → Type 0
IsOneOf places n = (k : ℕ) × (k < 16) × (n ≡ get_or places k 0)

-- each motion of a macroblock points into one of these places
abbrev pub PointsInto : List ℕ → Prediction → Type 0
PointsInto places (Intra modes) = Unit {0}
PointsInto places (Inter motions) = (n : ℕ) → n < 16 → IsOneOf places (get_or motions n no_motion).picture
PointsInto places (Pcm samples) = Unit {0}

-- ---- the weights that the code has

-- of a slice's reference indexes
abbrev pub weights_by : SliceWeights → List (Option Weights)
weights_by w = unwrap_or w.by_index (replicate 16 None)

abbrev pub weights_placed_at : List (Option Weights) → List (Option derived.Motion) → ℕ → Option Weights
weights_placed_at weights motions k = index_weights weights (get_or motions (number_of (k % 4) (k / 4)) None)

-- of a macroblock's 4x4 places, row by row
unfoldable pub placed_weights : List (Option Weights) → List (Option derived.Motion) → List (Option Weights)
placed_weights weights motions = table 16 (weights_placed_at weights motions)

-- where the first motion may stand for all
abbrev pub weights_of_blocks : List (Option Weights) → Bool → List (Option derived.Motion) → List (Option Weights)
weights_of_blocks weights true motions = replicate 16 (index_weights weights (get_or motions 0 None))
weights_of_blocks weights false motions = placed_weights weights motions

abbrev pub weights_in : Weighting → List (Option Weights)
weights_in w = weights_of_blocks (weights_by w.weights.now) w.whole w.motions.now
