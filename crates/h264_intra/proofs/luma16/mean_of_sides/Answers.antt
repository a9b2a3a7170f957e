use Rattle.h264_intra.proofs.Means.{both16, left16, above16}
use Rattle.h264_intra.proofs.luma16.mean_of_sides.Goals as goal

pub returns-in-Some-Some : goal.returns-in-Some-Some
returns-in-Some-Some c =
    both16 c.args.n.now c.in-Some-Some.l c.in-Some-Some.a c.sum.result c.sum-in-Some-Some.result c.in-Some-Some.is-0 c.in-Some-Some.is-1 c.sum.ensures.sum
    c.sum-in-Some-Some.ensures.sum

pub returns-in-Some-None : goal.returns-in-Some-None
returns-in-Some-None c =
    left16 c.args.n.now c.in-Some-None.l c.sum-in-Some-None.result c.in-Some-None.is-0 c.in-Some-None.is-1 c.sum-in-Some-None.ensures.sum

pub returns-in-None-Some : goal.returns-in-None-Some
returns-in-None-Some c =
    above16 c.args.n.now c.in-None-Some.a c.sum-in-None-Some.result c.in-None-Some.is-0 c.in-None-Some.is-1 c.sum-in-None-Some.ensures.sum
