use Rattle.std.proofs.Common.{◌≡◌, ◌+◌, ◌*◌, arith}
use Rattle.h264_near.specs.declared.partition.Partition.TheVariants.{P8x16}
use Rattle.h264_recon.specs.Predicted.{parted_motions}
use Rattle.h264_recon.proofs.Parts.{none_made, part_more, all_made}
use Rattle.h264_recon.proofs.Parted.{columns_move, columns_next, moves_room}
use Rattle.h264_recon.proofs.inter.predict_8x16.Goals as goal

pub loop-k-init : goal.loop-k-init
loop-k-init c = none_made _ _ _ _ _ _

pub predict_part-requires-clause-room : goal.predict_part-requires-clause-room
predict_part-requires-clause-room c =
    let a = c.args in
    let k = c.loop-k.k in
    moves_room a.pool.now a.position.column a.position.row _ c.motion_of-motion.result (2 * k) 0 2 4 c.requires.room (omega arith) (omega arith) (omega arith)
    (omega arith) (columns_move a.m.now.places.now a.m.now.derived.now _ k (omega arith) c.motion_of-motion.ensures)

pub loop-k-preserved : goal.loop-k-preserved
loop-k-preserved c =
    let a = c.args in
    let k = c.loop-k.k in
    let e : 2 * (k + 1) ≡ 2 * k + 2 = omega arith in
    rw e (part_more _ (2 * k) 2 (2 * k) 0 2 4 a.pool.now (parted_motions P8x16 a.m.now.places.now a.m.now.derived.now) c.motion_of-motion.result
    a.position.column a.position.row c.loop-k.own _ c.loop-k.invariant (columns_next k)
    (columns_move a.m.now.places.now a.m.now.derived.now _ k (omega arith) c.motion_of-motion.ensures) c.predict_part.ensures.y c.predict_part.ensures.cb
    c.predict_part.ensures.cr)

pub returns : goal.returns
returns c = all_made _ (2 * c.loop-k.k) _ _ _ _ _ (λ a b p q. omega arith) c.loop-k.invariant
