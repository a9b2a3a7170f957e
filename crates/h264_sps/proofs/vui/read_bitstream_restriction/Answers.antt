use Rattle.std.proofs.Common.{refl}
use Rattle.h264_base.proofs.Steps.{bind, stop, done}
use Rattle.h264_sps.proofs.VuiRegroup.{restriction_judged_once, judged-once, restriction-by_values}
use Rattle.h264_sps.proofs.Ways.{passed-on, as-parts, by-run, checked-so}
use Rattle.h264_sps.proofs.vui.read_bitstream_restriction.Goals as goal

pub returns-in_err-over : goal.returns-in_err-over
returns-in_err-over g c = passed-on _ c.from_residual.ensures.1 (as-parts (restriction-by_values _ _) (stop _ c.in_err-over.ensures))

pub returns-in_err-bytes : goal.returns-in_err-bytes
returns-in_err-bytes g c = passed-on _ c.from_residual-in_err-bytes.ensures.1
    (as-parts (restriction-by_values _ _) (bind _ c.in_ok-over.ensures (stop _ c.in_err-bytes.ensures)))

pub returns-in_err-buffering : goal.returns-in_err-buffering
returns-in_err-buffering g c = passed-on _ c.from_residual-in_err-buffering.ensures.1
    (as-parts (restriction-by_values _ _) (bind _ c.in_ok-over.ensures (bind _ c.in_ok-bytes.ensures (stop _ c.in_err-buffering.ensures.meets))))

pub returns-in_err-check : goal.returns-in_err-check
unfolding restriction_judged_once
returns-in_err-check g c = passed-on _ c.from_residual-in_err-check.ensures.1
    (as-parts (restriction-by_values _ _) (bind _ c.in_ok-over.ensures
    (bind _ c.in_ok-bytes.ensures (bind _ c.in_ok-buffering.ensures.meets
    (by-run (judged-once _ _ _ _ _ _ _ _) (stop _ (checked-so c.is_buffering_allowed.ensures c.in_err-check.ensures)))))))

pub returns : goal.returns
unfolding restriction_judged_once
returns g c = as-parts (restriction-by_values _ _)
    (bind _ c.in_ok-over.ensures (bind _ c.in_ok-bytes.ensures
    (bind _ c.in_ok-buffering.ensures.meets (by-run (judged-once _ _ _ _ _ _ _ _)
    (bind _ (checked-so c.is_buffering_allowed.ensures c.in_ok-check.ensures) (done _ _ _ _ _ _ _ refl))))))
