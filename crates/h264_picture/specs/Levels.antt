-- The range of the transform (8.5). To be read beside the standard.
use Rattle.std.specs.Prelude.{◌≡◌, Bool}
use Rattle.h264_near.specs.Coded.{CodedMacroblock}
use Rattle.h264_scale.specs.Macroblock.{levels_fit}
use Rattle.h264_scale.specs.declared.levels.LumaLevels.TheVariants as luma
use Rattle.h264_scale.specs.declared.levels.ChromaLevels.TheVariants as chroma
use Rattle.h264_scale.specs.declared.levels.Levels.{Levels}
use Rattle.h264_vectors.specs.declared.slice.SliceContext.{SliceContext}
use Rattle.h264_recon.specs.Levels.{levels_of}

-- whether each value of the transform of a macroblock of this slice is in range
abbrev pub transform_fits : SliceContext → CodedMacroblock → Bool
transform_fits slice m = levels_fit (levels_of slice.chroma_qp_index_offset m)

-- no plane has a level
pub record AreNone (l : Levels) : Type 0 where
  pub y : l.luma ≡ luma.NotCoded
  pub cb : l.cb ≡ chroma.NotCoded
  pub cr : l.cr ≡ chroma.NotCoded
