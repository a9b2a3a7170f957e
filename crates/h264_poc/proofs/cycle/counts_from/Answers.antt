use Rattle.std.proofs.Common.{arith}
use Rattle.std.proofs.lemmas.Int.{ints}
use Rattle.h264_poc.proofs.Sums.{same-counts}
use Rattle.h264_poc.proofs.cycle.counts_from.Goals as goal

pub returns : goal.returns
returns c = same-counts _ _ _ _ (omega (arith, ints)) (omega (arith, ints))
