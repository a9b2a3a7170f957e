use Rattle.std.proofs.Common.{refl}
use Rattle.h264_base.proofs.Steps.{bind, stop, done, checked}
use Rattle.h264_sps.specs.Parts.{crop_offsets}
use Rattle.h264_sps.proofs.Ways.{passed-on}
use Rattle.h264_sps.proofs.read.read_crop_offsets.Goals as goal

pub returns-in_err-before : goal.returns-in_err-before
unfolding crop_offsets
returns-in_err-before g c = passed-on _ c.from_residual.ensures.1 (stop _ c.in_err-before.ensures.meets)

pub returns-in_err-following : goal.returns-in_err-following
unfolding crop_offsets
returns-in_err-following g c = passed-on _ c.from_residual-in_err-following.ensures.1
    (bind _ c.in_ok-before.ensures.meets (stop _ c.in_err-following.ensures.meets))

pub returns-in_err-check : goal.returns-in_err-check
unfolding crop_offsets
returns-in_err-check g c = passed-on _ c.from_residual-in_err-check.ensures.1
    (bind _ c.in_ok-before.ensures.meets (bind _ c.in_ok-following.ensures.meets (stop _ (checked _ _ _ _ c.in_err-check.ensures))))

pub returns : goal.returns
unfolding crop_offsets
returns g c = bind _ c.in_ok-before.ensures.meets
    (bind _ c.in_ok-following.ensures.meets (bind _ (checked _ _ _ _ c.in_ok-check.ensures) (done _ _ _ _ _ _ _ refl)))
