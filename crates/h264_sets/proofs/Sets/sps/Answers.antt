use Rattle.std.proofs.Common.{subst}
use Rattle.h264_sets.specs.Sets.{Maps, AreAccepted}
use Rattle.h264_sets.proofs.Sets.sps.Goals as goal

pub returns-clause-accepted : goal.returns-clause-accepted
returns-clause-accepted c = subst (λ (m : Maps). AreAccepted m.sps) c.self.view_is c.self.invariant.2
