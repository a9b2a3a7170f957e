use Rattle.h264_picture.proofs.Turns.{nothing-lent}
use Rattle.h264_picture.proofs.laws.nothing_is_lent.Goals as goal

pub returns : goal.returns
returns c = nothing-lent
