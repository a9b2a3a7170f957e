use Rattle.std.proofs.Common.{refl}
use Rattle.h264_base.proofs.Steps.{bind, stop, done}
use Rattle.h264_sps.specs.Vui.{flagged}
use Rattle.h264_sps.proofs.VuiRegroup.{location-by_values}
use Rattle.h264_sps.proofs.Ways.{passed-on, as-parts, absent, there-stop, there-read}
use Rattle.h264_sps.proofs.vui.read_location_info.Goals as goal

pub returns-in_err-present : goal.returns-in_err-present
unfolding flagged
returns-in_err-present g c = passed-on _ c.from_residual.ensures.1 (stop _ c.in_err-present.ensures)

pub returns-then-not-present : goal.returns-then-not-present
unfolding flagged
returns-then-not-present g c = bind _ c.in_ok-present.ensures (absent _ c.if-not-present.true)

pub returns-in_err-top : goal.returns-in_err-top
unfolding flagged
returns-in_err-top g c = passed-on _ c.from_residual-in_err-top.ensures.1
    (bind _ c.in_ok-present.ensures (there-stop c.if-not-present.false (as-parts location-by_values (stop _ c.in_err-top.ensures))))

pub returns : goal.returns
unfolding flagged
returns g c = bind _ c.in_ok-present.ensures
    (there-read c.if-not-present.false (as-parts location-by_values (bind _ c.in_ok-top.ensures (done _ _ _ _ _ _ _ refl))))
