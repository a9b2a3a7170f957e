-- Runs of skipped macroblocks that stand still, where no samples are made. A working form.
use Rattle.std.specs.Prelude.{◌≡◌, ℕ, ◌-◌, ◌≤◌, true, List, Some, None}
use Rattle.h264_near.specs.Coded.{CodedMacroblock}
use Rattle.h264_near.specs.Keeps.{skipped_before}
use Rattle.h264_near.specs.Skips.{IsSkipped}
use Rattle.h264_near.specs.declared.skipped.Skipped.{Skipped}
use Rattle.h264_vectors.specs.Derived.{vector_fits}
use Rattle.h264_vectors.specs.Vectors.{keeps_still, zero_vector}
use Rattle.h264_vectors.specs.declared.slice.SliceContext.{SliceContext}
use Rattle.h264_mbsyntax.specs.Macroblock.{predicted_qp}
use Rattle.h264_mbsyntax.specs.Slice.{skipped_of}
use Rattle.h264_mbsyntax.specs.Still.{StandStill}
use Rattle.h264_mbsyntax.specs.declared.slice.Standing.{Standing}
use Rattle.h264_mbsyntax.specs.declared.slice.Standing.TheVariants.{Next, Skipping}
use Rattle.h264_picture.specs.declared.sequence.Sequence.{Sequence}
use Rattle.h264_picture.specs.declared.still.Passed.{Passed}

-- No samples are made, and the last macroblock is skipped and stands still, so that the next one of its row is alike, if it is skipped.
pub record IsRepeated (slice : SliceContext) (s : Sequence) : Type 0 where
  pub none : s.canvas ≡ None
  pub skipped : Skipped
  pub before : skipped_before s.picture.near ≡ Some skipped
  pub of_slice : skipped.slice ≡ slice.number
  pub still : keeps_still (Some (Some skipped.motion)) ≡ true
  pub alike : (picture : List CodedMacroblock) → s.mb.qp ≡ predicted_qp slice picture → IsSkipped skipped (skipped_of slice picture zero_vector)
  pub fits : vector_fits slice.vector_limit zero_vector ≡ true

-- What was passed after these macroblocks is of the run, and stands still.
abbrev pub Passes : ℕ → SliceContext → List CodedMacroblock → Standing → Passed → Type 0
Passes width slice picture Next passed = (passed.standing ≡ Next) × (passed.count ≡ 0)
Passes width slice picture (Skipping bit more) passed =
    (passed.standing ≡ Skipping bit (more - passed.count)) × (passed.count ≤ more) × StandStill width slice picture passed.count
