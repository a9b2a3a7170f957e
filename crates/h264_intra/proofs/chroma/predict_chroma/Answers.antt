use Rattle.std.proofs.Common.{[], pos, is_some}
use Rattle.h264_intra.proofs.Whole.{vertical_chroma, horizontal_chroma, plane_whole_chroma, flat_chroma}
use Rattle.h264_intra.proofs.Depends.{all_three}
use Rattle.h264_intra.proofs.chroma.predict_chroma.Goals as goal

pub returns-in-Dc : goal.returns-in-Dc
returns-in-Dc c = λ possible.
    let n = c.args.neighbours.now in
    let left = c.unwrap_or-left in
    let above = c.unwrap_or-above in
    rw c.in-Dc.is (flat_chroma n left.result above.result c.fill.result c.mean_of_block.result c.mean_of_block-in-Dc.result c.mean_of_block-in-Dc-2.result
    c.mean_of_block-in-Dc-3.result (record { a = pos 0; b = pos 0; c = pos 0 })
    c.mean_of_block.ensures c.mean_of_block-in-Dc.ensures c.mean_of_block-in-Dc-2.ensures c.mean_of_block-in-Dc-3.ensures c.fill.ensures)

pub returns-in-Horizontal : goal.returns-in-Horizontal
returns-in-Horizontal c = λ possible.
    let n = c.args.neighbours.now in
    let left = c.unwrap_or-left in
    let above = c.unwrap_or-above in
    rw c.in-Horizontal.is (horizontal_chroma n left.result above.result _ c.fill-in-Horizontal.result [] (record { a = pos 0; b = pos 0; c = pos 0 })
    (rw c.in-Horizontal.is at possible) left.ensures c.fill-in-Horizontal.ensures)

pub returns-in-Vertical : goal.returns-in-Vertical
returns-in-Vertical c = λ possible.
    let n = c.args.neighbours.now in
    let left = c.unwrap_or-left in
    let above = c.unwrap_or-above in
    rw c.in-Vertical.is (vertical_chroma n left.result above.result _ c.fill-in-Vertical.result [] (record { a = pos 0; b = pos 0; c = pos 0 })
    (rw c.in-Vertical.is at possible) above.ensures c.fill-in-Vertical.ensures)

pub returns-in-Plane : goal.returns-in-Plane
returns-in-Plane c = λ possible.
    let n = c.args.neighbours.now in
    let left = c.unwrap_or-left in
    let above = c.unwrap_or-above in
    let corner = c.unwrap_or-corner in
    let there = all_three (is_some n.above) (is_some n.left) (is_some n.corner) (rw c.in-Plane.is at possible) in
    let p = c.new in
    rw c.in-Plane.is (plane_whole_chroma n left.result above.result _ c.fill-in-Plane.result corner.result [] p.result
    there.0 there.1 there.2 left.ensures above.ensures corner.ensures p.ensures.a p.ensures.b p.ensures.c c.fill-in-Plane.ensures)
