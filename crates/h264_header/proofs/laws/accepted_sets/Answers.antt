use Rattle.h264_header.proofs.Accepted.{named-accepted}
use Rattle.h264_header.proofs.laws.accepted_sets.Goals as goal

pub returns : goal.returns
returns c = named-accepted
