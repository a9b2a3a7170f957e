use Rattle.std.proofs.Common.{subst, ℕ}
use Rattle.h264_deblock.specs.Level.{IsLevelOf}
use Rattle.h264_deblock.proofs.plane_level.level_beside.Goals as goal

pub returns : goal.returns
returns g c =
    subst (λ (z : ℕ). IsLevelOf c.level_of.result z c.args.own.now.qp c.args.own.now.filter.now) c.qp_in.ensures
    (record { here = c.level_of.ensures.here; below = c.level_of.ensures.below })
