use Rattle.h264_units.proofs.Total.{some-split}
use Rattle.h264_units.proofs.laws.some_split.Goals as goal

pub returns : goal.returns
returns c = λ at bytes h. let s = some-split at bytes h in (s.units, s.tail, s.splits)
