use Rattle.std.proofs.Common.{◌≡◌, arith, to_z, of_z, w32}
use Rattle.std.proofs.lemmas.Int.{ints}
use Rattle.h264_intra.proofs.Bounds.{slope_in}
use Rattle.h264_intra.proofs.slope.slope.Goals as goal

pub returns-clause-bound : goal.returns-clause-bound
returns-clause-bound g c =
    let kept : to_z w32 (of_z w32 c.gradient.result) ≡ c.gradient.result = omega (arith, ints) in
    rw kept (slope_in (to_z w32 g.row.WEIGHT) c.gradient.result c.requires.weight c.gradient.ensures.bound)
