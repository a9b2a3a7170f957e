-- A working form: the reference index of a block, and samples that are weighted run by run.
use Rattle.std.specs.Prelude.{◌≡◌, ℕ, ◌+◌, ◌*◌, ◌/◌, ◌<◌, ◌≤◌, Bool, IsTrue, List, slice_index, get_or, Option, None}
use Rattle.std.specs.Option.{option_map}
use Rattle.h264_base.specs.declared.weight.Weights.{Weights}
use Rattle.h264_near.specs.declared.motion.Motion.{Motion}
use Rattle.h264_plane.specs.declared.frame.Component.{Component}
use Rattle.h264_plane.specs.Places.{side}
use Rattle.h264_recon.specs.Lines.{samples_of}
use Rattle.h264_recon.specs.Weights.{weighted_if}
use Rattle.h264_recon.specs.declared.store.Samples.{Samples}

-- the reference index of a block
abbrev pub index_of : Option Motion → Option ℕ
index_of m = option_map (λ (m : Motion). m.ref_idx) m

-- where this is known, the sixteen blocks have one reference index
abbrev pub AreOfOneIndex : (known : Bool) → List (Option Motion) → Type 0
AreOfOneIndex known motions = IsTrue known → (k : ℕ) → k < 16 → index_of (get_or motions k None) ≡ index_of (get_or motions 0 None)

-- count samples from a place on are weighted, and each other one is kept
pub record IsRunWeighted (count start : ℕ) (p : Component) (weights : Option Weights) (old new : List ℕ) : Type 0 where
  pub here : (k : ℕ) → k < count → slice_index new (start + k) ≡ weighted_if p weights (slice_index old (start + k))
  pub before : (k : ℕ) → k < start → slice_index new k ≡ slice_index old k
  pub after : (k : ℕ) → start + count ≤ k → slice_index new k ≡ slice_index old k

-- the samples of a macroblock of n columns and rows are weighted, each by its place
pub record ArePlacesWeighted (n : ℕ) (p : Component) (weights : ℕ → Option Weights) (old new : List ℕ) : Type 0 where
  pub each : (x y : ℕ) → x < n → y < n → slice_index new (n * y + x) ≡ weighted_if p (weights (4 * (4 * y / n) + 4 * x / n)) (slice_index old (n * y + x))

-- all samples of a macroblock are, by the weights of its places row by row
abbrev pub AreAllWeighted : List (Option Weights) → Samples → Samples → Type 0
AreAllWeighted weights old new = (p : Component) → ArePlacesWeighted (side p) p (λ k. get_or weights k None) (samples_of old p) (samples_of new p)
