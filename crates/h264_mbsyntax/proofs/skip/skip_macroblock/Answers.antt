use Rattle.std.proofs.Common.{Some, replicate, refl, ap, sym}
use Rattle.h264_near.specs.Coded.{Inter}
use Rattle.h264_mbsyntax.specs.Macroblock.{coded}
use Rattle.h264_mbsyntax.specs.Residual.{no_coefficients, no_chroma, no_block}
use Rattle.h264_mbsyntax.specs.Slice.{skipped_of}
use Rattle.h264_mbsyntax.proofs.skip.skip_macroblock.Goals as goal

pub returns-clause-holds : goal.returns-clause-holds
unfolding skipped_of coded no_coefficients no_chroma no_block
returns-clause-holds c picture p = record {
  slice = refl;
  prediction = ap (λ m. Inter (replicate 16 (Some m))) (sym c.motion_of.ensures);
  qp = sym p;
  totals = refl;
  chroma_totals = refl;
}
