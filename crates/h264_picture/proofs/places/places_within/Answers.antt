use Rattle.std.proofs.Common.{arith}
use Rattle.h264_picture.proofs.places.places_within.Goals as goal

pub returns-clause-stand : goal.returns-clause-stand
returns-clause-stand c = record { each = λ k i. c.loop-n.invariant.stand k (omega arith) }

pub returns-clause-values : goal.returns-clause-values
returns-clause-values c k i = c.loop-n.invariant.values k (omega arith)
