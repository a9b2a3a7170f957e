use Rattle.std.proofs.Common.{ap, arith}
use Rattle.std.proofs.lemmas.Int.{ints}
use Rattle.h264_poc.specs.declared.within.FieldCounts.{FieldCounts}
use Rattle.h264_poc.proofs.step.lsb_counted.Goals as goal

pub prev_after-requires-clause-above : goal.prev_after-requires-clause-above
prev_after-requires-clause-above c =
    let top = ap (λ (f : FieldCounts). f.top) c.lsb_counts.ensures in
    let low = c.in_ok-count.ensures.low in
    omega (arith, ints)
