-- What a macroblock of the coded picture gives to its construction. A working form.
use Rattle.std.specs.Prelude.{ℕ, ◌/◌, ◌%◌, Bool, false, List, [], get_or, Option, Some, None, ℤ}
use Rattle.std.specs.Option.{is_some, option_and_then}
use Rattle.h264_base.specs.declared.weight.Weights.{Weights}
use Rattle.h264_near.specs.declared.motion.Motion as derived
use Rattle.h264_near.specs.Coded as coded
use Rattle.h264_plane.specs.Blocks.{number_of}
use Rattle.h264_near.specs.Coded.{CodedMacroblock, mode_part, motion_in}
use Rattle.h264_near.specs.Intra.{with_modes, macroblock_samples}
use Rattle.h264_near.specs.Place.{around}
use Rattle.h264_recon.specs.Constructed.{Coded}
use Rattle.h264_recon.specs.Inter.{no_motion}
use Rattle.h264_recon.specs.Levels.{levels_of}
use Rattle.h264_recon.specs.Predicted.{Prediction, Intra, Inter, Pcm, pcm_of}
use Rattle.h264_recon.specs.Table.{table}
use Rattle.h264_recon.specs.Weights.{index_weights}
use Rattle.h264_recon.specs.declared.macroblock.Available.{Available}
use Rattle.h264_recon.specs.declared.macroblock.IntraLuma.TheVariants.{Blocks, Whole}
use Rattle.h264_recon.specs.declared.macroblock.Motion.{Motion}

-- Which macroblocks round the one that follows these intra prediction may use (6.4.9, 8.3.1.2): those of its slice, and no inter ones under
-- constrained_intra_pred_flag.
unfoldable pub available : ℕ → List CodedMacroblock → ℕ → Bool → Available
available width picture slice constrained =
    let samples = macroblock_samples width picture slice constrained in
    record {
      left = samples.left;
      above = samples.above;
      above_right = is_some (around 4 (mode_part slice constrained) width picture (with_modes slice []) 5 0);
      corner = samples.corner;
    }

-- no sides
abbrev pub no_sides : Available
no_sides = record { left = false; above = false; above_right = false; corner = false }

-- which of these sides the prediction of a macroblock uses: none, where it is not intra prediction
unfoldable pub used_by : coded.Prediction → Available → Available
used_by (coded.Intra4x4 modes chroma) a = a
used_by (coded.Intra16x16 mode chroma) a = a
used_by (coded.Pcm samples) a = no_sides
used_by (coded.Inter motions) a = no_sides

-- ---- prediction

-- `place` is the place of a reference picture in the pool, by its number
abbrev pub motion_of : (ℕ → ℕ) → Option derived.Motion → Motion
motion_of place None = no_motion
motion_of place (Some m) = record { picture = place m.picture; vector = record { x = m.vector.x; y = m.vector.y } }

-- motions by number of the block, row by row
unfoldable pub motions_of : (ℕ → ℕ) → List (Option derived.Motion) → List Motion
motions_of place motions = table 16 (λ k. motion_of place (get_or motions (number_of (k % 4) (k / 4)) None))

unfoldable pub prediction_of : (ℕ → ℕ) → coded.Prediction → Prediction
prediction_of place (coded.Intra4x4 modes chroma) = Intra (record { luma = Blocks modes; chroma = chroma })
prediction_of place (coded.Intra16x16 mode chroma) = Intra (record { luma = Whole mode; chroma = chroma })
prediction_of place (coded.Pcm samples) = Pcm (pcm_of samples)
prediction_of place (coded.Inter motions) = Inter (motions_of place motions)

-- ---- weights, by those of the slice's reference indexes

-- of the 4x4 places of a macroblock, row by row
unfoldable pub weights_of : List (Option Weights) → coded.Prediction → List (Option Weights)
weights_of weights p = table 16 (λ k. index_weights weights (option_and_then (λ m. m) (motion_in p (number_of (k % 4) (k / 4)))))

-- ---- the macroblock

-- what a slice settles for its macroblocks: the weights of its reference indexes, constrained_intra_pred_flag and chroma_qp_index_offset
pub record SliceSettings : Type 0 where
  pub weights : List (Option Weights)
  pub constrained_intra : Bool
  pub chroma_qp_index_offset : ℤ

abbrev pub slice_settings : List (Option Weights) → Bool → ℤ → SliceSettings
slice_settings weights constrained offset = record { weights = weights; constrained_intra = constrained; chroma_qp_index_offset = offset }

-- the macroblock m after these, in a picture that is so many macroblocks wide
unfoldable pub given : ℕ → List CodedMacroblock → (ℕ → ℕ) → SliceSettings → CodedMacroblock → Coded
given width picture place slice m = record {
  available = used_by m.prediction (available width picture m.slice slice.constrained_intra);
  prediction = prediction_of place m.prediction;
  levels = levels_of slice.chroma_qp_index_offset m;
  weights = weights_of slice.weights m.prediction;
}
