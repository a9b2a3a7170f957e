use Rattle.h264_units.proofs.Streams.{same-units}
use Rattle.h264_units.proofs.laws.one_split.Goals as goal

pub returns : goal.returns
returns c = same-units
