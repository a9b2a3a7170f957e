-- What a macroblock takes from its neighbours: nC, predicted intra modes, and which samples there are. A working form.
use Rattle.std.specs.Prelude.{ℕ, suc, ◌+◌, ◌/◌, ◌%◌, nat_le, Bool, List, [], length, Option, Some, None, if◌then◌else◌}
use Rattle.std.specs.Option.{is_some}
use Rattle.h264_intra.specs.declared.luma4.Intra4x4PredMode.{Intra4x4PredMode}
use Rattle.h264_intra.specs.declared.luma4.Intra4x4PredMode.TheVariants.{Dc}
use Rattle.h264_intra.specs.declared.chroma.IntraChromaPredMode.TheVariants as chroma_mode
use Rattle.h264_intra.specs.declared.sides.Sides.{Sides}
use Rattle.h264_intra.specs.Luma4.{number4}
use Rattle.h264_plane.specs.Blocks.{column_of, row_of}
use Rattle.h264_near.specs.Coded.{CodedMacroblock, Intra4x4, Inter, no_residual, total_part, chroma_part, mode_part}
use Rattle.h264_near.specs.Place.{around}

-- the macroblock that is being decoded, as far as these totals, or these modes, are
abbrev pub with_totals : ℕ → List ℕ → List ℕ → CodedMacroblock
with_totals slice totals chroma_totals =
    record { slice = slice; prediction = Inter []; qp = 0; totals = totals; chroma_totals = chroma_totals; residual = no_residual }

abbrev pub with_modes : ℕ → List Intra4x4PredMode → CodedMacroblock
with_modes slice modes = record { slice = slice; prediction = Intra4x4 modes chroma_mode.Dc; qp = 0; totals = []; chroma_totals = []; residual = no_residual }

-- nC of nA and nB (9.2.1)
abbrev pub mean : Option ℕ → Option ℕ → ℕ
mean None None = 0
mean None (Some b) = b
mean (Some a) None = a
mean (Some a) (Some b) = (a + b + 1) / 2

-- nC of the luma block after those with these totals
unfoldable pub luma_nc : ℕ → List CodedMacroblock → ℕ → List ℕ → ℕ
luma_nc width picture slice totals =
    let current = with_totals slice totals [] in
    let x = column_of (length totals) in
    let y = row_of (length totals) in
    mean (around 4 (total_part slice) width picture current x (suc y)) (around 4 (total_part slice) width picture current (suc x) y)

-- nC of the chroma AC block after those with these totals, four of Cb and then of Cr
unfoldable pub chroma_nc : ℕ → List CodedMacroblock → ℕ → List ℕ → ℕ
chroma_nc width picture slice totals =
    let current = with_totals slice [] totals in
    let part = chroma_part slice (length totals / 4) in
    let x = length totals % 2 in
    let y = length totals / 2 % 2 in
    mean (around 2 part width picture current x (suc y)) (around 2 part width picture current (suc x) y)

-- predIntra4x4PredMode from those of A and B (8.3.1.1): the one of the lesser number
abbrev pub lesser_mode : Option Intra4x4PredMode → Option Intra4x4PredMode → Intra4x4PredMode
lesser_mode None None = Dc
lesser_mode None (Some b) = Dc
lesser_mode (Some a) None = Dc
lesser_mode (Some a) (Some b) = if nat_le (number4 a) (number4 b) then a else b

-- the predicted mode of the block after those with these modes
unfoldable pub predicted_mode : ℕ → List CodedMacroblock → ℕ → Bool → List Intra4x4PredMode → Intra4x4PredMode
predicted_mode width picture slice constrained modes =
    let current = with_modes slice modes in
    let x = column_of (length modes) in
    let y = row_of (length modes) in
    lesser_mode (around 4 (mode_part slice constrained) width picture current x (suc y))
    (around 4 (mode_part slice constrained) width picture current (suc x) y)

-- which of the samples above, to the left and at the corner the block after those with these modes can be predicted from (8.3.1.2)
unfoldable pub block_samples : ℕ → List CodedMacroblock → ℕ → Bool → List Intra4x4PredMode → Sides
block_samples width picture slice constrained modes =
    let current = with_modes slice modes in
    let x = column_of (length modes) in
    let y = row_of (length modes) in
    record {
      above = is_some (around 4 (mode_part slice constrained) width picture current (suc x) y);
      left = is_some (around 4 (mode_part slice constrained) width picture current x (suc y));
      corner = is_some (around 4 (mode_part slice constrained) width picture current x y);
    }

-- the same of the whole macroblock (8.3.3, 8.3.4)
unfoldable pub macroblock_samples : ℕ → List CodedMacroblock → ℕ → Bool → Sides
macroblock_samples width picture slice constrained = block_samples width picture slice constrained []
