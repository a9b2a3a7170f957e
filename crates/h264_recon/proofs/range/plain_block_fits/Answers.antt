use Rattle.std.proofs.Common.{sym}
use Rattle.h264_scale.specs.Residual.{residual_fits}
use Rattle.h264_scale.proofs.Whole.{none_fit}
use Rattle.h264_recon.proofs.range.plain_block_fits.Goals as goal

pub returns-then-total-eq0 : goal.returns-then-total-eq0
unfolding residual_fits
returns-then-total-eq0 c = rw c.if-total-eq0.true (sym (none_fit c.args.qp))
