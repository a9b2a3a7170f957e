-- Runs of skipped macroblocks that stand still. A working form.
use Rattle.std.specs.Prelude.{◌≡◌, ℕ, ◌<◌, ◌++◌, true, List, replicate}
use Rattle.h264_near.specs.Coded.{CodedMacroblock}
use Rattle.h264_vectors.specs.Derived.{vector_fits}
use Rattle.h264_vectors.specs.Vectors.{skip_vector, zero_vector}
use Rattle.h264_vectors.specs.declared.slice.SliceContext.{SliceContext}
use Rattle.h264_mbsyntax.specs.Slice.{skipped_of}

-- these macroblocks, and after them so many skipped ones that stand still
abbrev pub with_still : SliceContext → List CodedMacroblock → ℕ → List CodedMacroblock
with_still slice picture count = picture ++ replicate count (skipped_of slice picture zero_vector)

-- The next ones, so many, stand still if they are skipped, and the vector 0 lies in its range.
pub record StandStill (width : ℕ) (slice : SliceContext) (picture : List CodedMacroblock) (count : ℕ) : Type 0 where
  pub vectors : (k : ℕ) → k < count → skip_vector width (with_still slice picture k) slice.number ≡ zero_vector
  pub fits : (k : ℕ) → k < count → vector_fits slice.vector_limit zero_vector ≡ true
