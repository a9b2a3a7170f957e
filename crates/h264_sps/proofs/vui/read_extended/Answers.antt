use Rattle.std.proofs.Common.{refl}
use Rattle.h264_base.proofs.Steps.{bind, stop, done}
use Rattle.h264_sps.proofs.VuiRegroup.{ratio-by_values}
use Rattle.h264_sps.proofs.Ways.{passed-on, as-parts, absent, there-stop, there-read}
use Rattle.h264_sps.proofs.vui.read_extended.Goals as goal

pub returns-then-not-present : goal.returns-then-not-present
returns-then-not-present g c = absent _ c.if-not-present.true

pub returns-in_err-width : goal.returns-in_err-width
returns-in_err-width g c = passed-on _ c.from_residual.ensures.1 (there-stop c.if-not-present.false (as-parts ratio-by_values (stop _ c.in_err-width.ensures)))

pub returns : goal.returns
returns g c = there-read c.if-not-present.false (as-parts ratio-by_values (bind _ c.in_ok-width.ensures (done _ _ _ _ _ _ _ refl)))
