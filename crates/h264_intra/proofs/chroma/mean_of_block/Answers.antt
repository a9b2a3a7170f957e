use Rattle.h264_intra.proofs.Means.{same_block, left_block, above_block}
use Rattle.h264_intra.proofs.chroma.mean_of_block.Goals as goal

pub returns-then-i-j : goal.returns-then-i-j
returns-then-i-j c =
    let d = c.in-Some-Some in
    same_block c.args.n.now d.l d.a c.args.i c.args.j c.sum.result c.sum-then-i-j.result d.is-0 d.is-1 c.if-i-j.true c.sum.ensures.sum
    c.sum-then-i-j.ensures.sum

pub returns-in-Some-None : goal.returns-in-Some-None
returns-in-Some-None c =
    let d = c.in-Some-None in
    left_block c.args.n.now d.l c.args.i c.args.j c.sum-in-Some-None.result d.is-0 d.is-1 c.sum-in-Some-None.ensures.sum

pub returns-in-None-Some : goal.returns-in-None-Some
returns-in-None-Some c =
    let d = c.in-None-Some in
    above_block c.args.n.now d.a c.args.i c.args.j c.sum-in-None-Some.result d.is-0 d.is-1 c.sum-in-None-Some.ensures.sum
