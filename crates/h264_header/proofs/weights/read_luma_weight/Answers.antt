use Rattle.std.proofs.Common.{refl}
use Rattle.h264_base.proofs.Steps.{done}
use Rattle.h264_header.specs.PredWeightTable.{luma_weight}
use Rattle.h264_header.proofs.weights.read_luma_weight.Goals as goal

pub returns-then-not-given : goal.returns-then-not-given
unfolding luma_weight
returns-then-not-given g c = rw (c.if-not-given.true, c.inferred_weight.ensures) (done _ _ _ _ _ _ _ refl)

pub returns : goal.returns
unfolding luma_weight
returns g c = rw c.if-not-given.false c.read_stated_weight.ensures
