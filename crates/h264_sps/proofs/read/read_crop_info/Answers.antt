use Rattle.std.proofs.Common.{refl}
use Rattle.h264_base.proofs.Steps.{bind, stop, done}
use Rattle.h264_sps.specs.Vui.{flagged}
use Rattle.h264_sps.proofs.Regroup.{crop-by_sides}
use Rattle.h264_sps.proofs.Ways.{passed-on, as-parts, absent, there-stop, there-read}
use Rattle.h264_sps.proofs.read.read_crop_info.Goals as goal

pub returns-in_err-present : goal.returns-in_err-present
unfolding flagged
returns-in_err-present g c = passed-on _ c.from_residual.ensures.1 (stop _ c.in_err-present.ensures)

pub returns-then-not-present : goal.returns-then-not-present
unfolding flagged
returns-then-not-present g c = bind _ c.in_ok-present.ensures (absent _ c.if-not-present.true)

pub returns-in_err-across : goal.returns-in_err-across
unfolding flagged
returns-in_err-across g c = passed-on _ c.from_residual-in_err-across.ensures.1
    (bind _ c.in_ok-present.ensures (there-stop c.if-not-present.false (as-parts (crop-by_sides _) (stop _ c.in_err-across.ensures))))

pub returns-in_err-down : goal.returns-in_err-down
unfolding flagged
returns-in_err-down g c = passed-on _ c.from_residual-in_err-down.ensures.1
    (bind _ c.in_ok-present.ensures (there-stop c.if-not-present.false
    (as-parts (crop-by_sides _) (bind _ c.in_ok-across.ensures (stop _ c.in_err-down.ensures)))))

pub returns : goal.returns
unfolding flagged
returns g c = bind _ c.in_ok-present.ensures
    (there-read c.if-not-present.false (as-parts (crop-by_sides _) (bind _ c.in_ok-across.ensures (bind _ c.in_ok-down.ensures (done _ _ _ _ _ _ _ refl)))))
