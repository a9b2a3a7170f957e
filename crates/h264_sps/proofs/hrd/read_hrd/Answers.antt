use Rattle.std.proofs.Common.{refl}
use Rattle.h264_base.proofs.Steps.{bind, stop, done}
use Rattle.h264_sps.proofs.VuiRegroup.{hrd_from_lengths, hrd-by_values}
use Rattle.h264_sps.proofs.Ways.{passed-on, as-parts, bind-of}
use Rattle.h264_sps.proofs.hrd.read_hrd.Goals as goal

pub returns-in_err-count_minus1 : goal.returns-in_err-count_minus1
returns-in_err-count_minus1 g c = passed-on _ c.from_residual.ensures.1 (as-parts hrd-by_values (stop _ c.in_err-count_minus1.ensures.meets))

pub returns-in_err-bit_rate : goal.returns-in_err-bit_rate
returns-in_err-bit_rate g c = passed-on _ c.from_residual-in_err-bit_rate.ensures.1
    (as-parts hrd-by_values (bind _ c.in_ok-count_minus1.ensures.meets (stop _ c.in_err-bit_rate.ensures)))

pub returns-in_err-cpbs : goal.returns-in_err-cpbs
returns-in_err-cpbs g c = passed-on _ c.from_residual-in_err-cpbs.ensures.1
    (as-parts hrd-by_values (bind _ c.in_ok-count_minus1.ensures.meets (bind _ c.in_ok-bit_rate.ensures (stop _ c.in_err-cpbs.ensures))))

pub returns-in_err-initial : goal.returns-in_err-initial
unfolding hrd_from_lengths
returns-in_err-initial g c = passed-on _ c.from_residual-in_err-initial.ensures.1
    (as-parts hrd-by_values (bind _ c.in_ok-count_minus1.ensures.meets
    (bind _ c.in_ok-bit_rate.ensures (bind-of (hrd_from_lengths c.in_ok-bit_rate.field-0) c.in_ok-cpbs.ensures (stop _ c.in_err-initial.ensures)))))

pub returns : goal.returns
unfolding hrd_from_lengths
returns g c = as-parts hrd-by_values (bind _ c.in_ok-count_minus1.ensures.meets
    (bind _ c.in_ok-bit_rate.ensures (bind-of (hrd_from_lengths c.in_ok-bit_rate.field-0) c.in_ok-cpbs.ensures
    (bind _ c.in_ok-initial.ensures (done _ _ _ _ _ _ _ refl)))))
