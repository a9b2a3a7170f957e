use Rattle.std.proofs.Common.{refl}
use Rattle.h264_base.proofs.Steps.{bind, stop, done}
use Rattle.h264_sps.specs.Vui.{flagged}
use Rattle.h264_sps.proofs.VuiRegroup.{timing-by_values}
use Rattle.h264_sps.proofs.Ways.{passed-on, as-parts, absent, there-stop, there-read}
use Rattle.h264_sps.proofs.vui.read_timing_info.Goals as goal

pub returns-in_err-present : goal.returns-in_err-present
unfolding flagged
returns-in_err-present g c = passed-on _ c.from_residual.ensures.1 (stop _ c.in_err-present.ensures)

pub returns-then-not-present : goal.returns-then-not-present
unfolding flagged
returns-then-not-present g c = bind _ c.in_ok-present.ensures (absent _ c.if-not-present.true)

pub returns-in_err-units : goal.returns-in_err-units
unfolding flagged
returns-in_err-units g c = passed-on _ c.from_residual-in_err-units.ensures.1
    (bind _ c.in_ok-present.ensures (there-stop c.if-not-present.false (as-parts timing-by_values (stop _ c.in_err-units.ensures))))

pub returns-in_err-fixed : goal.returns-in_err-fixed
unfolding flagged
returns-in_err-fixed g c = passed-on _ c.from_residual-in_err-fixed.ensures.1
    (bind _ c.in_ok-present.ensures (there-stop c.if-not-present.false
    (as-parts timing-by_values (bind _ c.in_ok-units.ensures (stop _ c.in_err-fixed.ensures)))))

pub returns : goal.returns
unfolding flagged
returns g c = bind _ c.in_ok-present.ensures
    (there-read c.if-not-present.false (as-parts timing-by_values (bind _ c.in_ok-units.ensures (bind _ c.in_ok-fixed.ensures (done _ _ _ _ _ _ _ refl)))))
