use Rattle.std.proofs.Common.{refl}
use Rattle.h264_base.proofs.Steps.{bind, stop, done}
use Rattle.h264_sps.proofs.VuiRegroup.{colours-by_values}
use Rattle.h264_sps.proofs.Ways.{passed-on, as-parts, absent, there-stop, there-read}
use Rattle.h264_sps.proofs.vui.read_colours.Goals as goal

pub returns-then-not-present : goal.returns-then-not-present
returns-then-not-present g c = absent _ c.if-not-present.true

pub returns-in_err-primaries : goal.returns-in_err-primaries
returns-in_err-primaries g c = passed-on _ c.from_residual.ensures.1
    (there-stop c.if-not-present.false (as-parts colours-by_values (stop _ c.in_err-primaries.ensures)))

pub returns : goal.returns
returns g c = there-read c.if-not-present.false (as-parts colours-by_values (bind _ c.in_ok-primaries.ensures (done _ _ _ _ _ _ _ refl)))
