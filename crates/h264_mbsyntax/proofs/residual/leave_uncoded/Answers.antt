use Rattle.std.proofs.Common.{refl}
use Rattle.h264_mbsyntax.specs.Residual.{no_coefficients, no_chroma}
use Rattle.h264_mbsyntax.proofs.Loops.{stored-blank}
use Rattle.h264_mbsyntax.proofs.residual.leave_uncoded.Goals as goal

pub returns-clause-none : goal.returns-clause-none
unfolding no_coefficients no_chroma
returns-clause-none c = record {
  qp = refl;
  sized = refl;
  chroma_sized = refl;
  stored = record {
    qp = refl;
    luma_dc = refl;
    luma = stored-blank 16 16 _ _ refl;
    chroma = record { dc = stored-blank 4 2 _ _ refl; ac = stored-blank 15 8 _ _ refl };
  };
}
