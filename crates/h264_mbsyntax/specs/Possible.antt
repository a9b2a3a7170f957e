-- What a macroblock refers to is there: the sides of intra blocks (8.3), the pictures of inter ones (8.4.2). To be read beside the standard.
use Rattle.std.specs.Prelude.{◌≡◌, ℕ, ◌<◌, IsTrue, List, take, length, Option, Some, None}
use Rattle.std.specs.List.{AllByRecursion}
use Rattle.std.proofs.Common.{get_or}
use Rattle.h264_near.specs.declared.motion.Motion.{Motion}
use Rattle.h264_intra.specs.declared.luma4.Intra4x4PredMode.{Intra4x4PredMode}
use Rattle.h264_intra.specs.declared.luma4.Intra4x4PredMode.TheVariants.{Vertical}
use Rattle.h264_intra.specs.declared.chroma.IntraChromaPredMode.{IntraChromaPredMode}
use Rattle.h264_intra.specs.Luma16.{is_possible16}
use Rattle.h264_intra.specs.Chroma.{is_possible_chroma}
use Rattle.h264_near.specs.Coded.{CodedMacroblock, Prediction, Intra4x4, Intra16x16, Pcm, Inter}
use Rattle.h264_near.specs.Intra.{block_samples, macroblock_samples}
use Rattle.h264_vectors.specs.declared.slice.SliceContext.{SliceContext}
use Rattle.h264_vectors.specs.Derived.{picture_of}
use Rattle.h264_mbsyntax.specs.declared.macroblock.Macroblock.{Macroblock}
use Rattle.h264_mbsyntax.specs.Intra.{fits_block}
use Rattle.h264_mbsyntax.specs.Macroblock.{Placed}
use Rattle.h264_mbsyntax.specs.Holds.{HoldsMacroblock}

-- the mode of each 4x4 block has its samples, by the modes before it
abbrev pub HaveSides : ℕ → SliceContext → List CodedMacroblock → List Intra4x4PredMode → Type 0
HaveSides width slice picture modes =
    (b : ℕ) → b < length modes → IsTrue (fits_block (get_or modes b Vertical) (block_samples width picture slice.number slice.constrained_intra (take b modes)))

-- so has intra_chroma_pred_mode
pub record HasChromaSides (width : ℕ) (slice : SliceContext) (picture : List CodedMacroblock) (mode : IntraChromaPredMode) : Type 0 where
  pub sides : IsTrue (is_possible_chroma mode (macroblock_samples width picture slice.number slice.constrained_intra))

-- the index of a block names its picture
abbrev pub Refers : SliceContext → Option Motion → Type 0
Refers slice None = Unit {0}
Refers slice (Some m) = picture_of slice m.ref_idx ≡ Some m.picture

abbrev pub IsPossible : ℕ → SliceContext → List CodedMacroblock → Prediction → Type 0
IsPossible width slice picture (Intra4x4 modes chroma) = (length modes ≡ 16) × HaveSides width slice picture modes × HasChromaSides width slice picture chroma
IsPossible width slice picture (Intra16x16 mode chroma) =
    IsTrue (is_possible16 mode (macroblock_samples width picture slice.number slice.constrained_intra)) × HasChromaSides width slice picture chroma
IsPossible width slice picture (Pcm samples) = Unit {0}
IsPossible width slice picture (Inter motions) = AllByRecursion (Refers slice) motions

-- the macroblock that was read, and the stream bit of its mb_type
pub record IsRead (width : ℕ) (slice : SliceContext) (picture : List CodedMacroblock) (mb : Macroblock) (bit : ℕ) (v : Placed) : Type 0 where
  pub placed : v.bit ≡ bit
  pub holds : HoldsMacroblock mb v.macroblock
  pub possible : IsPossible width slice picture v.macroblock.prediction
