use Rattle.h264_picture.proofs.Limits.{limits-bounded}
use Rattle.h264_picture.proofs.context.limits_of.Goals as goal

pub returns-clause-within : goal.returns-clause-within
returns-clause-within c = rw c.limits_of.ensures (limits-bounded _ _)
