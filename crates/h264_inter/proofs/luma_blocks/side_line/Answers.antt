use Rattle.std.proofs.Common.{◌≡◌, ◌+◌, ◌*◌, ◌≤◌, length, false, arith, ◌∙◌}
use Rattle.h264_plane.specs.Samples.{at}
use Rattle.h264_inter.specs.Luma.{quarter}
use Rattle.h264_inter.proofs.Blocks.{block_more, row_inside}
use Rattle.h264_inter.proofs.Moved.{both_moved}
use Rattle.h264_inter.proofs.luma_blocks.side_line.Goals as goal

pub returns-clause-windows : goal.returns-clause-windows
returns-clause-windows g c = rw c.partner-c.ensures.value at
    (both_moved false g.row.W c.args.p.now c.args.corner.x c.partner-c.result (c.args.corner.y + c.args.v) (c.args.corner.y + (c.args.v + 1)) _ (omega arith)
    c.next_windows-windows.ensures)

pub returns-clause-rows : goal.returns-clause-rows
returns-clause-rows g c =
    let a = c.args in
    let w = g.row.W in
    let new = c.put_row.new.out in
    let fits : w * a.v + w ≤ length a.out.now = omega (arith, row_inside w g.row.H a.v c.requires.row) in
    let count : length new ≡ w = c.put_row.ensures.whole in
    block_more w a.v _ a.out.now new (λ d b. quarter g.row.X g.row.Y (λ i j. at a.p.now (a.corner.x + d + i) (a.corner.y + b + j))) fits count
    (λ x p. c.put_row.ensures.each x p ∙ c.side_row-row.ensures x (omega arith))
    c.requires.above
