use Rattle.std.proofs.Common.{arith}
use Rattle.h264_dpb.specs.Bumping.{marked}
use Rattle.h264_tests.proofs.dpb.begun.Goals as goal

pub store-requires-clause-few : goal.store-requires-clause-few
unfolding marked
store-requires-clause-few g c = let some = c.requires.size.0 in rw c.in_ok-flush.ensures.emptied (omega (arith, some))
