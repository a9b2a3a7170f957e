-- The weights of predicted samples in explicit mode (8.4.2.3), by plane, reference index and 4x4 place. To be read beside the standard.
use Rattle.std.specs.Prelude.{ℕ, ◌+◌, ◌*◌, ◌/◌, ◌<◌, min, ℤ, pos, negsuc, List, get_or, Option, Some, None}
use Rattle.std.specs.Option.{ForSome, option_map}
use Rattle.h264_base.specs.declared.weight.Weight.{Weight}
use Rattle.h264_base.specs.declared.weight.Weights.{Weights}
use Rattle.h264_near.specs.declared.motion.Motion.{Motion}
use Rattle.h264_plane.specs.Places.{side}
use Rattle.h264_plane.specs.declared.frame.Component.{Component}
use Rattle.h264_plane.specs.declared.frame.Component.TheVariants.{Y, Cb, Cr}
use Rattle.h264_inter.specs.Weighted.{weighted, IsInRange}

-- the weight of a plane
abbrev pub weight_of : Component → Weights → Weight
weight_of Y w = w.luma
weight_of Cb w = w.cb
weight_of Cr w = w.cr

-- the weights of what a block is predicted from, by those of the slice's reference indexes
abbrev pub index_weights : List (Option Weights) → Option Motion → Option Weights
index_weights weights None = None
index_weights weights (Some m) = get_or weights m.ref_idx None

-- a predicted sample, weighted where its reference index has weights
abbrev pub weighted_if : Component → Option Weights → ℕ → ℕ
weighted_if p None n = n
weighted_if p (Some w) n = weighted (weight_of p w) n

-- the weights of the 4x4 luma place, and of the chroma samples that belong to it, of a macroblock, by those of its places row by row
abbrev pub weights_at : List (Option Weights) → Component → ℕ → ℕ → Option Weights
weights_at weights p x y = get_or weights (4 * (4 * y / side p) + 4 * x / side p) None

-- A weight is brought into the ranges of 7.4.3.2, in which it is in each header that is accepted: Clip3(-128, 128, z) and Clip3(-128, 127, z).
abbrev pub limited_weight : ℤ → ℤ
limited_weight (pos n) = pos (min n 128)
limited_weight (negsuc n) = negsuc (min n 127)

abbrev pub limited_offset : ℤ → ℤ
limited_offset (pos n) = pos (min n 127)
limited_offset (negsuc n) = negsuc (min n 127)

abbrev pub limited : Weight → Weight
limited w = record { log2_weight_denom = min w.log2_weight_denom 7; weight = limited_weight w.weight; offset = limited_offset w.offset }

abbrev pub all_limited : Weights → Weights
all_limited w = record { luma = limited w.luma; cb = limited w.cb; cr = limited w.cr }

abbrev pub limited_at : List (Option Weights) → ℕ → Option Weights
limited_at weights k = option_map all_limited (get_or weights k None)

-- the weights of a reference index are in their ranges
pub record AreInRange (w : Weights) : Type 0 where
  pub each : (p : Component) → IsInRange (weight_of p w)

-- so are those of a list of sixteen, where there are any
pub record EachInRange (weights : List (Option Weights)) : Type 0 where
  pub each : (k : ℕ) → k < 16 → ForSome (get_or weights k None) AreInRange
