use Rattle.h264_intra.proofs.Means.{both4, above4}
use Rattle.h264_intra.proofs.luma4.mean_of_sides.Goals as goal

pub returns-in-Some-Some : goal.returns-in-Some-Some
returns-in-Some-Some c =
    both4 c.args.n.now c.in-Some-Some.l c.in-Some-Some.a c.sum.result c.sum-in-Some-Some.result c.in-Some-Some.is-0 c.in-Some-Some.is-1 c.sum.ensures.sum
    c.sum-in-Some-Some.ensures.sum

pub returns-in-None-Some : goal.returns-in-None-Some
returns-in-None-Some c =
    above4 c.args.n.now c.in-None-Some.a c.sum-in-None-Some.result c.in-None-Some.is-0 c.in-None-Some.is-1 c.sum-in-None-Some.ensures.sum
