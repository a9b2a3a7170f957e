-- What the blocks around are predicted from (8.4.1.3.2). To be read beside the standard.
use Rattle.std.specs.Prelude.{ℕ, List, [], Option}
use Rattle.h264_near.specs.Coded.{CodedMacroblock, Inter, no_residual, motion_part}
use Rattle.h264_near.specs.Place.{around}
use Rattle.h264_near.specs.declared.motion.Motion.{Motion}

-- a neighbour: none; one without a reference, as it is intra; or its reference and vector
abbrev pub Neighbour : Type 0
Neighbour = Option (Option Motion)

abbrev pub with_motions : ℕ → List (Option Motion) → CodedMacroblock
with_motions slice motions = record { slice = slice; prediction = Inter motions; qp = 0; totals = []; chroma_totals = []; residual = no_residual }

-- the neighbour at a column and a row of the macroblock that is being decoded, as far as these of its blocks are: 1 to 4 are its own
unfoldable pub neighbour : ℕ → List CodedMacroblock → ℕ → List (Option Motion) → ℕ → ℕ → Neighbour
neighbour width picture slice motions x y = around 4 (motion_part slice) width picture (with_motions slice motions) x y
