-- The coded picture: what the macroblocks of a picture say, in decoding order, as far as they are decoded (7.4.5). To be read beside the standard.
use Rattle.std.specs.Prelude.{ℕ, ◌+◌, ◌*◌, Bool, true, false, not, List, [], Option, Some, None, ℤ, ◌==◌, ◌&&◌, ◌||◌, if◌then◌else◌, slice_get}
use Rattle.std.specs.Option.{option_map}
use Rattle.std.specs.List.{list_all}
use Rattle.std.proofs.Common.{get_or}
use Rattle.h264_plane.specs.Blocks.{number_of}
use Rattle.h264_intra.specs.declared.luma4.Intra4x4PredMode.{Intra4x4PredMode}
use Rattle.h264_intra.specs.declared.luma4.Intra4x4PredMode.TheVariants.{Dc}
use Rattle.h264_intra.specs.declared.luma16.Intra16x16PredMode.{Intra16x16PredMode}
use Rattle.h264_intra.specs.declared.chroma.IntraChromaPredMode.{IntraChromaPredMode}
use Rattle.h264_near.specs.declared.motion.Motion.{Motion}

-- how a macroblock is predicted; blocks are 4x4 luma blocks by their number (6.4.3)
pub data Prediction : Type 0 where
  -- Intra4x4PredMode of each block that is decoded (Table 8-2), and intra_chroma_pred_mode (Table 8-5)
  Intra4x4 : List Intra4x4PredMode → IntraChromaPredMode → Prediction
  -- Intra16x16PredMode (Table 8-4), and intra_chroma_pred_mode
  Intra16x16 : Intra16x16PredMode → IntraChromaPredMode → Prediction
  -- I_PCM: its samples, Y, then Cb, then Cr
  Pcm : List ℕ → Prediction
  -- the reference and vector of each block, nothing where they are not derived yet
  Inter : List (Option Motion) → Prediction

-- The levels of the residual, by place of the scan in each block. A block that is not coded has zeros; what is not there is empty.
pub record Residual : Type 0 where
  -- Intra16x16DCLevel
  pub luma_dc : List ℤ
  -- LumaLevel4x4 or, of 15 places, Intra16x16ACLevel, by block number
  pub luma : List (List ℤ)
  -- ChromaDCLevel of Cb and of Cr
  pub chroma_dc : List (List ℤ)
  -- ChromaACLevel: four blocks of Cb, then of Cr
  pub chroma : List (List ℤ)

pub record CodedMacroblock : Type 0 where
  -- the address of the first macroblock of its slice, first_mb_in_slice
  pub slice : ℕ
  pub prediction : Prediction
  -- QP_Y
  pub qp : ℕ
  -- total_coeff of each luma block that is decoded, by its number: 0 where it is not coded, 16 in I_PCM
  pub totals : List ℕ
  -- the same of the chroma blocks: four of Cb, then of Cr
  pub chroma_totals : List ℕ
  pub residual : Residual

abbrev pub no_residual : Residual
no_residual = record { luma_dc = []; luma = []; chroma_dc = []; chroma = [] }

-- The number of a 4x4 chroma block of component c, 0 for Cb and 1 for Cr.
unfoldable pub chroma_number_of : ℕ → ℕ → ℕ → ℕ
chroma_number_of c x y = c * 4 + y * 2 + x

abbrev pub is_intra : Prediction → Bool
is_intra (Intra4x4 modes chroma) = true
is_intra (Intra16x16 mode chroma) = true
is_intra (Pcm samples) = true
is_intra (Inter motions) = false

-- the mode that a block has for its neighbours' predicted modes (8.3.1.1): DC in macroblocks that are not I_4x4
abbrev pub mode_in : Prediction → ℕ → Option Intra4x4PredMode
mode_in (Intra4x4 modes chroma) n = slice_get modes n
mode_in (Intra16x16 mode chroma) n = Some Dc
mode_in (Pcm samples) n = Some Dc
mode_in (Inter motions) n = Some Dc

-- what a block that is decoded is predicted from; nothing in intra macroblocks
abbrev pub motion_in : Prediction → ℕ → Option (Option Motion)
motion_in (Intra4x4 modes chroma) n = Some None
motion_in (Intra16x16 mode chroma) n = Some None
motion_in (Pcm samples) n = Some None
motion_in (Inter motions) n = option_map (λ m. Some m) (get_or motions n None)

-- What neighbours in this slice see of a block of a macroblock.
unfoldable pub total_part : ℕ → ℕ → ℕ → CodedMacroblock → Option ℕ
total_part slice x y m = if m.slice == slice then slice_get m.totals (number_of x y) else None

unfoldable pub chroma_part : ℕ → ℕ → ℕ → ℕ → CodedMacroblock → Option ℕ
chroma_part slice c x y m = if m.slice == slice then slice_get m.chroma_totals (chroma_number_of c x y) else None

-- its mode, where its samples may be used for intra prediction: not those of inter macroblocks under constrained_intra_pred_flag
unfoldable pub mode_part : ℕ → Bool → ℕ → ℕ → CodedMacroblock → Option Intra4x4PredMode
mode_part slice constrained x y m = if m.slice == slice && (is_intra m.prediction || not constrained) then mode_in m.prediction (number_of x y) else None

unfoldable pub motion_part : ℕ → ℕ → ℕ → CodedMacroblock → Option (Option Motion)
motion_part slice x y m = if m.slice == slice then motion_in m.prediction (number_of x y) else None

-- no block has a coefficient: each total_coeff is 0
abbrev pub are_blank : List ℕ → Bool
are_blank totals = list_all (λ t. t == 0) totals
