use Rattle.std.proofs.Common.{◌<◌, get_or, length, pos, arith, rules}
use Rattle.std.proofs.lemmas.Int.{ints}
use Rattle.std.specs.Int.{w32}
use mir.Val.{SFits}
use Rattle.h264_poc.proofs.Sums.{sum_of-more}
use Rattle.h264_poc.proofs.cycle.sum_of.Goals as goal

pub loop-offset-preserved : goal.loop-offset-preserved
loop-offset-preserved c =
    let fits : SFits w32 (get_or c.args.offsets.now c.loop-offset.offset-index (pos 0)) = search rules in
    let within : c.loop-offset.offset-index < length c.args.offsets.now = omega arith in
    let more = sum_of-more c.args.offsets.now c.loop-offset.offset-index within in
    let kept = c.loop-offset.invariant.so_far in
    let low = c.loop-offset.invariant.above in
    let high = c.loop-offset.invariant.below in
    record { so_far = omega (arith, ints); above = omega (arith, ints); below = omega (arith, ints) }
