use Rattle.h264_scale.specs.Residual.{residual_fits}
use Rattle.h264_scale.proofs.Whole.{none_fit, always}
use Rattle.h264_recon.proofs.ByBlock.{none_plain}
use Rattle.h264_recon.proofs.scaled.plain_block.Goals as goal

pub returns-then-total-eq0-clause-range : goal.returns-then-total-eq0-clause-range
unfolding residual_fits
returns-then-total-eq0-clause-range c = rw c.if-total-eq0.true (always _ (none_fit c.args.qp))

pub returns-then-total-eq0-clause-residual : goal.returns-then-total-eq0-clause-residual
returns-then-total-eq0-clause-residual c = rw c.if-total-eq0.true (none_plain c.args.qp)
