use Rattle.std.proofs.Common.{refl}
use Rattle.h264_base.proofs.Steps.{bind, stop, done}
use Rattle.h264_sps.specs.Vui.{flagged, sample_aspect_ratio}
use Rattle.h264_sps.proofs.Ways.{passed-on, absent, there-stop, there-read}
use Rattle.h264_sps.proofs.vui.read_ratio_info.Goals as goal

pub returns-in_err-present : goal.returns-in_err-present
unfolding flagged
returns-in_err-present g c = passed-on _ c.from_residual.ensures.1 (stop _ c.in_err-present.ensures)

pub returns-then-not-present : goal.returns-then-not-present
unfolding flagged
returns-then-not-present g c = bind _ c.in_ok-present.ensures (absent _ c.if-not-present.true)

pub returns-in_err-idc : goal.returns-in_err-idc
unfolding flagged sample_aspect_ratio
returns-in_err-idc g c = passed-on _ c.from_residual-in_err-idc.ensures.1
    (bind _ c.in_ok-present.ensures (there-stop c.if-not-present.false (stop _ c.in_err-idc.ensures.meets)))

pub returns-in_err-extended : goal.returns-in_err-extended
unfolding flagged sample_aspect_ratio
returns-in_err-extended g c = passed-on _ c.from_residual-in_err-extended.ensures.1
    (bind _ c.in_ok-present.ensures (there-stop c.if-not-present.false (bind _ c.in_ok-idc.ensures.meets (stop _ c.in_err-extended.ensures))))

pub returns : goal.returns
unfolding flagged sample_aspect_ratio
returns g c = bind _ c.in_ok-present.ensures
    (there-read c.if-not-present.false (bind _ c.in_ok-idc.ensures.meets (bind _ c.in_ok-extended.ensures (done _ _ _ _ _ _ _ refl))))
