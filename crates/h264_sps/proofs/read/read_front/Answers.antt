use Rattle.std.proofs.Common.{refl}
use Rattle.h264_base.proofs.Steps.{bind, stop, done}
use Rattle.h264_sps.specs.Sps.{profile_and_level}
use Rattle.h264_sps.proofs.Ways.{passed-on, checked-so, still}
use Rattle.h264_sps.proofs.read.read_front.Goals as goal

pub returns-in_err-profile : goal.returns-in_err-profile
unfolding profile_and_level
returns-in_err-profile g c = passed-on _ c.from_residual.ensures.1 (stop _ c.in_err-profile.ensures.meets)

pub returns-in_err-flags : goal.returns-in_err-flags
unfolding profile_and_level
returns-in_err-flags g c = passed-on _ c.from_residual-in_err-flags.ensures.1 (bind _ c.in_ok-profile.ensures.meets (stop _ c.in_err-flags.ensures))

pub returns-in_err-check : goal.returns-in_err-check
unfolding profile_and_level
returns-in_err-check g c = passed-on _ c.from_residual-in_err-check.ensures.1
    (bind _ c.in_ok-profile.ensures.meets (bind _ c.in_ok-flags.ensures (stop _ (checked-so c.is_judged_profile.ensures c.in_err-check.ensures))))

pub returns-in_err-reserved : goal.returns-in_err-reserved
unfolding profile_and_level
returns-in_err-reserved g c = passed-on _ c.from_residual-in_err-reserved.ensures.1
    (bind _ c.in_ok-profile.ensures.meets (bind _ c.in_ok-flags.ensures
    (bind _ (checked-so c.is_judged_profile.ensures c.in_ok-check.ensures) (stop _ c.in_err-reserved.ensures.meets))))

pub returns-in_err-level : goal.returns-in_err-level
unfolding profile_and_level
returns-in_err-level g c = passed-on _ c.from_residual-in_err-level.ensures.1
    (bind _ c.in_ok-profile.ensures.meets (bind _ c.in_ok-flags.ensures
    (bind _ (checked-so c.is_judged_profile.ensures c.in_ok-check.ensures) (bind _ c.in_ok-reserved.ensures.meets (stop _ c.in_err-level.ensures)))))

pub returns : goal.returns
unfolding profile_and_level
returns g c = bind _ c.in_ok-profile.ensures.meets
    (bind _ c.in_ok-flags.ensures (bind _ (checked-so c.is_judged_profile.ensures c.in_ok-check.ensures)
    (bind _ c.in_ok-reserved.ensures.meets (bind _ c.in_ok-level.ensures (done _ _ _ _ _ _ _ refl)))))

pub read_level-requires : goal.read_level-requires
read_level-requires g c = still c.in_ok-reserved.ensures.meets (still c.in_ok-flags.ensures (still c.in_ok-profile.ensures.meets c.requires))
