use Rattle.h264_units.proofs.Longest.{is-stream}
use Rattle.h264_units.proofs.laws.all_units.Goals as goal

pub returns : goal.returns
returns c = is-stream
