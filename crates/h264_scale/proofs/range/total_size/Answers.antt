use Rattle.std.proofs.Common.{rules, arith, refl, add-one, ◌≡◌, get_or, pos, unsigned_abs, FitsSigned, w16}
use Rattle.std.proofs.lemmas.Int.{to_z-of_z}
use Rattle.h264_scale.specs.Lanes.{size_below}
use Rattle.h264_scale.proofs.range.total_size.Goals as goal

pub loop-level-init : goal.loop-level-init
unfolding size_below
loop-level-init g c = record { value = refl; bound = omega arith }

pub loop-level-preserved : goal.loop-level-preserved
unfolding size_below
loop-level-preserved g c =
    let i = c.loop-level.invariant in
    let x = get_or c.args.levels.now c.loop-level.level-index (pos 0) in
    let fits : FitsSigned w16 x = search rules in
    let value : c.unsigned_abs.result ≡ unsigned_abs x = rw (to_z-of_z w16 x fits) at c.unsigned_abs.ensures.value in
    let same = c.from-size.ensures in
    let most = c.unsigned_abs.ensures.bound in
    record { value = rw add-one (omega arith); bound = omega arith }
