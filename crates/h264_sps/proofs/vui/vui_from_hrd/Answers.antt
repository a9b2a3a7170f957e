use Rattle.std.proofs.Common.{refl}
use Rattle.h264_base.proofs.Steps.{bind, stop, done}
use Rattle.h264_sps.specs.VuiParts.{vui_from_hrd}
use Rattle.h264_sps.proofs.Ways.{passed-on, still}
use Rattle.h264_sps.proofs.vui.vui_from_hrd.Goals as goal

pub returns-in_err-nal : goal.returns-in_err-nal
unfolding vui_from_hrd
returns-in_err-nal g c = passed-on _ c.from_residual.ensures.1 (stop _ c.in_err-nal.ensures)

pub returns-in_err-vcl : goal.returns-in_err-vcl
unfolding vui_from_hrd
returns-in_err-vcl g c = passed-on _ c.from_residual-in_err-vcl.ensures.1 (bind _ c.in_ok-nal.ensures (stop _ c.in_err-vcl.ensures))

pub returns-in_err-low_delay : goal.returns-in_err-low_delay
unfolding vui_from_hrd
returns-in_err-low_delay g c = passed-on _ c.from_residual-in_err-low_delay.ensures.1
    (bind _ c.in_ok-nal.ensures (bind _ c.in_ok-vcl.ensures (stop _ (rw c.has_hrd.ensures at c.in_err-low_delay.ensures))))

pub returns-in_err-pic_struct : goal.returns-in_err-pic_struct
unfolding vui_from_hrd
returns-in_err-pic_struct g c = passed-on _ c.from_residual-in_err-pic_struct.ensures.1
    (bind _ c.in_ok-nal.ensures (bind _ c.in_ok-vcl.ensures
    (bind _ (rw c.has_hrd.ensures at c.in_ok-low_delay.ensures) (stop _ c.in_err-pic_struct.ensures))))

pub returns-in_err-restriction : goal.returns-in_err-restriction
unfolding vui_from_hrd
returns-in_err-restriction g c = passed-on _ c.from_residual-in_err-restriction.ensures.1
    (bind _ c.in_ok-nal.ensures (bind _ c.in_ok-vcl.ensures
    (bind _ (rw c.has_hrd.ensures at c.in_ok-low_delay.ensures) (bind _ c.in_ok-pic_struct.ensures (stop _ c.in_err-restriction.ensures)))))

pub returns : goal.returns
unfolding vui_from_hrd
returns g c = bind _ c.in_ok-nal.ensures
    (bind _ c.in_ok-vcl.ensures (bind _ (rw c.has_hrd.ensures at c.in_ok-low_delay.ensures)
    (bind _ c.in_ok-pic_struct.ensures (bind _ c.in_ok-restriction.ensures (done _ _ _ _ _ _ _ refl)))))

pub read_restriction-requires : goal.read_restriction-requires
read_restriction-requires g c = still c.in_ok-pic_struct.ensures
    (still (rw c.has_hrd.ensures at c.in_ok-low_delay.ensures) (still c.in_ok-vcl.ensures (still c.in_ok-nal.ensures c.requires)))
