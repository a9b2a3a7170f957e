use Rattle.std.proofs.Common.{refl}
use Rattle.h264_base.proofs.Steps.{done}
use Rattle.h264_header.specs.Listed.{or_0}
use Rattle.h264_header.proofs.read.read_delta.Goals as goal

pub returns-then-not-present : goal.returns-then-not-present
unfolding or_0
returns-then-not-present g c = rw c.if-not-present.true (done _ _ _ _ _ _ _ refl)

pub returns : goal.returns
unfolding or_0
returns g c = rw c.if-not-present.false c.se_value.ensures
