use Rattle.h264_rbsp.proofs.Placed.{is-placed}
use Rattle.h264_rbsp.proofs.laws.placed_bytes.Goals as goal

pub returns : goal.returns
returns c = is-placed
