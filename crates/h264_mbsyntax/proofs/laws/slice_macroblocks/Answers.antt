use Rattle.h264_base.proofs.Gives.{gives-derived}
use Rattle.h264_mbsyntax.proofs.OfSlice.{of-slice}
use Rattle.h264_mbsyntax.proofs.laws.slice_macroblocks.Goals as goal

pub returns : goal.returns
returns c fits width size slice before after body i j es h = gives-derived _ _ body i es j after (of-slice fits width slice before size) h
