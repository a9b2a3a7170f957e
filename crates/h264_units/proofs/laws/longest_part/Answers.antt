use Rattle.h264_units.proofs.Longest.{is-longest}
use Rattle.h264_units.proofs.laws.longest_part.Goals as goal

pub returns : goal.returns
returns c = is-longest
