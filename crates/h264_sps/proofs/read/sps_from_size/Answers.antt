use Rattle.std.proofs.Common.{refl}
use Rattle.h264_base.proofs.Steps.{bind, stop, done}
use Rattle.h264_sps.specs.Parts.{sps_from_size}
use Rattle.h264_sps.proofs.Ways.{passed-on, still}
use Rattle.h264_sps.proofs.read.sps_from_size.Goals as goal

pub returns-in_err-size-clause-meets : goal.returns-in_err-size-clause-meets
unfolding sps_from_size
returns-in_err-size-clause-meets g c = passed-on _ c.from_residual.ensures.1 (stop _ c.in_err-size.ensures)

pub returns-in_err-u_must_be-clause-meets : goal.returns-in_err-u_must_be-clause-meets
unfolding sps_from_size
returns-in_err-u_must_be-clause-meets g c =
    passed-on _ c.from_residual-in_err-u_must_be.ensures.1 (bind _ c.in_ok-size.ensures (stop _ c.in_err-u_must_be.ensures))

pub returns-in_err-direct-clause-meets : goal.returns-in_err-direct-clause-meets
unfolding sps_from_size
returns-in_err-direct-clause-meets g c =
    passed-on _ c.from_residual-in_err-direct.ensures.1 (bind _ c.in_ok-size.ensures (bind _ c.in_ok-u_must_be.ensures (stop _ c.in_err-direct.ensures)))

pub returns-in_err-crop-clause-meets : goal.returns-in_err-crop-clause-meets
unfolding sps_from_size
returns-in_err-crop-clause-meets g c = passed-on _ c.from_residual-in_err-crop.ensures.1
    (bind _ c.in_ok-size.ensures (bind _ c.in_ok-u_must_be.ensures (bind _ c.in_ok-direct.ensures (stop _ c.in_err-crop.ensures))))

pub returns-in_err-usability-clause-meets : goal.returns-in_err-usability-clause-meets
unfolding sps_from_size
returns-in_err-usability-clause-meets g c =
    passed-on _ c.from_residual-in_err-usability.ensures.1
    (bind _ c.in_ok-size.ensures (bind _ c.in_ok-u_must_be.ensures
    (bind _ c.in_ok-direct.ensures (bind _ c.in_ok-crop.ensures (stop _ (rw c.max_dpb_frames-buffer.ensures at c.in_err-usability.ensures))))))

pub returns-in_err-read_trailing-clause-meets : goal.returns-in_err-read_trailing-clause-meets
unfolding sps_from_size
returns-in_err-read_trailing-clause-meets g c =
    passed-on _ c.from_residual-in_err-read_trailing.ensures.1
    (bind _ c.in_ok-size.ensures (bind _ c.in_ok-u_must_be.ensures
    (bind _ c.in_ok-direct.ensures (bind _ c.in_ok-crop.ensures
    (bind _ (rw c.max_dpb_frames-buffer.ensures at c.in_ok-usability.ensures) (stop _ c.in_err-read_trailing.ensures))))))

pub returns-clause-meets : goal.returns-clause-meets
unfolding sps_from_size
returns-clause-meets g c = bind _ c.in_ok-size.ensures
    (bind _ c.in_ok-u_must_be.ensures (bind _ c.in_ok-direct.ensures
    (bind _ c.in_ok-crop.ensures (bind _ (rw c.max_dpb_frames-buffer.ensures at c.in_ok-usability.ensures)
    (bind _ c.in_ok-read_trailing.ensures (done _ _ _ _ _ _ _ refl))))))

pub read_vui_info-requires : goal.read_vui_info-requires
read_vui_info-requires g c = still c.in_ok-crop.ensures (still c.in_ok-direct.ensures (still c.in_ok-u_must_be.ensures (still c.in_ok-size.ensures c.requires)))
