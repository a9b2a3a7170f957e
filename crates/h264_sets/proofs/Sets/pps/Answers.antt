use Rattle.std.proofs.Common.{subst}
use Rattle.h264_sets.specs.Sets.{Maps, NameIds}
use Rattle.h264_sets.proofs.Sets.pps.Goals as goal

pub returns-clause-names : goal.returns-clause-names
returns-clause-names c = subst (λ (m : Maps). NameIds m.pps) c.self.view_is c.self.invariant.3
