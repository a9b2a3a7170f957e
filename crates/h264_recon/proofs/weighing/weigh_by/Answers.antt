use Rattle.h264_recon.specs.Placed.{placed_weights, weights_of_blocks}
use Rattle.h264_recon.proofs.Weighted.{alike, whole-by, each-by}
use Rattle.h264_recon.proofs.weighing.weigh_by.Goals as goal

pub returns-then-whole : goal.returns-then-whole
returns-then-whole c =
    let a = c.args in
    c.weigh_whole.ensures (weights_of_blocks a.weights.now a.whole a.motions.now)
    (whole-by a.weights.now a.whole a.motions.now c.of_motion.result c.if-whole.true c.of_motion.ensures.here)

pub returns-then-are_of_one_index : goal.returns-then-are_of_one_index
returns-then-are_of_one_index c =
    let a = c.args in
    let one = c.of_motion-then-are_of_one_index in
    each-by a.weights.now a.whole a.motions.now a.own.now _ c.if-whole.false
    (c.weigh_whole-then-are_of_one_index.ensures (placed_weights a.weights.now a.motions.now)
    (alike a.weights.now a.motions.now one.result (c.are_of_one_index.ensures c.if-are_of_one_index.true) one.ensures.here))

pub weigh_places-requires : goal.weigh_places-requires
weigh_places-requires c = c.of_places.ensures.in_range

pub returns : goal.returns
returns c =
    let a = c.args in
    each-by a.weights.now a.whole a.motions.now a.own.now _ c.if-whole.false (rw c.of_places.ensures.here at c.weigh_places.ensures)
