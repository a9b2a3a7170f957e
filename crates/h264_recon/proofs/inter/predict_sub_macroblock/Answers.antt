use Rattle.std.proofs.Common.{◌≡◌, ◌+◌, ◌*◌, ◌/◌, ◌%◌, arith, refl}
use Rattle.h264_near.specs.declared.partition.Partition.TheVariants.{P8x8}
use Rattle.h264_recon.specs.Predicted.{parted_motions}
use Rattle.h264_recon.proofs.Parts.{part_more}
use Rattle.h264_recon.proofs.Parted.{quarter_next, quarter_moves, block_next, block_moves, moves_room}
use Rattle.h264_recon.proofs.inter.predict_sub_macroblock.Goals as goal

pub predict_part-requires-clause-room : goal.predict_part-requires-clause-room
predict_part-requires-clause-room c =
    let a = c.args in
    let q = a.quarter in
    moves_room a.pool.now a.position.column a.position.row _ c.motion_of-motion.result (2 * (q % 2)) (2 * (q / 2)) 2 2 c.requires.room (omega arith)
    (omega arith) (omega arith) (omega arith)
    (quarter_moves a.types.now a.m.now.places.now a.m.now.derived.now _ q c.requires.quarter c.in-P8x8.is c.motion_of-motion.ensures)

pub returns-in-P8x8 : goal.returns-in-P8x8
returns-in-P8x8 c =
    let a = c.args in
    let q = a.quarter in
    part_more _ (4 * q) 4 (2 * (q % 2)) (2 * (q / 2)) 2 2 a.pool.now (parted_motions (P8x8 a.types.now) a.m.now.places.now a.m.now.derived.now)
    c.motion_of-motion.result a.position.column a.position.row a.own.now _ c.requires.before
    (quarter_next q c.requires.quarter) (quarter_moves a.types.now a.m.now.places.now a.m.now.derived.now _ q c.requires.quarter c.in-P8x8.is
    c.motion_of-motion.ensures)
    c.predict_part.ensures.y c.predict_part.ensures.cb c.predict_part.ensures.cr

pub predict_part-requires-in-loop-k-clause-room : goal.predict_part-requires-in-loop-k-clause-room
predict_part-requires-in-loop-k-clause-room c =
    let a = c.args in
    let q = a.quarter in
    let k = c.loop-k.k in
    moves_room a.pool.now a.position.column a.position.row _ c.motion_of-motion-in-loop-k.result (2 * (q % 2) + k % 2) (2 * (q / 2) + k / 2) 1 1
    c.requires.room (omega arith) (omega arith) (omega arith) (omega arith)
    (block_moves a.types.now a.m.now.places.now a.m.now.derived.now _ _ q k _ c.requires.quarter (omega arith) refl c.first_block.ensures.here
    c.motion_of-motion-in-loop-k.ensures)

pub loop-k-preserved : goal.loop-k-preserved
loop-k-preserved c =
    let a = c.args in
    let q = a.quarter in
    let k = c.loop-k.k in
    let e : 4 * q + (k + 1) ≡ 4 * q + k + 1 = omega arith in
    rw e (part_more _ (4 * q + k) 1 (2 * (q % 2) + k % 2) (2 * (q / 2) + k / 2) 1 1 a.pool.now
    (parted_motions (P8x8 a.types.now) a.m.now.places.now a.m.now.derived.now) c.motion_of-motion-in-loop-k.result a.position.column a.position.row
    c.loop-k.own _ c.loop-k.invariant
    (block_next q k c.requires.quarter (omega arith))
    (block_moves a.types.now a.m.now.places.now a.m.now.derived.now _ _ q k _ c.requires.quarter (omega arith) refl c.first_block.ensures.here
    c.motion_of-motion-in-loop-k.ensures)
    c.predict_part-in-loop-k.ensures.y c.predict_part-in-loop-k.ensures.cb c.predict_part-in-loop-k.ensures.cr)
