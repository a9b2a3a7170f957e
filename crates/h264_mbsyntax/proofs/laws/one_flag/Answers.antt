use Rattle.h264_base.proofs.Gives.{gives-derived}
use Rattle.h264_mbsyntax.proofs.Fits.{one-flag}
use Rattle.h264_mbsyntax.proofs.laws.one_flag.Goals as goal

pub returns : goal.returns
returns c width slice picture bit kind body i j es d h = gives-derived _ _ body i es j d (one-flag width slice picture bit kind) h
