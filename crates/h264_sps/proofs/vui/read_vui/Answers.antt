use Rattle.h264_base.proofs.Steps.{bind, stop}
use Rattle.h264_sps.specs.Vui.{vui}
use Rattle.h264_sps.specs.VuiParts.{vui_from_hrd}
use Rattle.h264_sps.proofs.Ways.{passed-on, still}
use Rattle.h264_sps.proofs.vui.read_vui.Goals as goal

pub returns-in_err-ratio : goal.returns-in_err-ratio
unfolding vui vui_from_hrd
returns-in_err-ratio g c = passed-on _ c.from_residual.ensures.1 (stop _ c.in_err-ratio.ensures)

pub returns-in_err-overscan : goal.returns-in_err-overscan
unfolding vui vui_from_hrd
returns-in_err-overscan g c = passed-on _ c.from_residual-in_err-overscan.ensures.1 (bind _ c.in_ok-ratio.ensures (stop _ c.in_err-overscan.ensures))

pub returns-in_err-signal : goal.returns-in_err-signal
unfolding vui vui_from_hrd
returns-in_err-signal g c = passed-on _ c.from_residual-in_err-signal.ensures.1
    (bind _ c.in_ok-ratio.ensures (bind _ c.in_ok-overscan.ensures (stop _ c.in_err-signal.ensures)))

pub returns-in_err-location : goal.returns-in_err-location
unfolding vui vui_from_hrd
returns-in_err-location g c = passed-on _ c.from_residual-in_err-location.ensures.1
    (bind _ c.in_ok-ratio.ensures (bind _ c.in_ok-overscan.ensures (bind _ c.in_ok-signal.ensures (stop _ c.in_err-location.ensures))))

pub returns-in_err-time : goal.returns-in_err-time
unfolding vui vui_from_hrd
returns-in_err-time g c = passed-on _ c.from_residual-in_err-time.ensures.1
    (bind _ c.in_ok-ratio.ensures (bind _ c.in_ok-overscan.ensures
    (bind _ c.in_ok-signal.ensures (bind _ c.in_ok-location.ensures (stop _ c.in_err-time.ensures)))))

pub returns : goal.returns
unfolding vui vui_from_hrd
returns g c = bind _ c.in_ok-ratio.ensures
    (bind _ c.in_ok-overscan.ensures (bind _ c.in_ok-signal.ensures (bind _ c.in_ok-location.ensures (bind _ c.in_ok-time.ensures (c.vui_from_hrd.ensures)))))

pub vui_from_hrd-requires : goal.vui_from_hrd-requires
vui_from_hrd-requires g c = still c.in_ok-time.ensures
    (still c.in_ok-location.ensures (still c.in_ok-signal.ensures (still c.in_ok-overscan.ensures (still c.in_ok-ratio.ensures c.requires))))
