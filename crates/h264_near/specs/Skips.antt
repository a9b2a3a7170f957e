-- A skipped macroblock (7.4.4). To be read beside the standard.
use Rattle.std.specs.Prelude.{◌≡◌, replicate, Some}
use Rattle.h264_near.specs.Coded.{CodedMacroblock, Inter}
use Rattle.h264_near.specs.declared.skipped.Skipped.{Skipped}

-- no block has coefficients, and one motion predicts all sixteen
pub record IsSkipped (s : Skipped) (m : CodedMacroblock) : Type 0 where
  pub slice : m.slice ≡ s.slice
  pub prediction : m.prediction ≡ Inter (replicate 16 (Some s.motion))
  pub qp : m.qp ≡ s.qp
  pub totals : m.totals ≡ replicate 16 0
  pub chroma_totals : m.chroma_totals ≡ replicate 8 0
