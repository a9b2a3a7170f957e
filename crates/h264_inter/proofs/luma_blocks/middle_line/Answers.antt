use Rattle.std.proofs.Common.{◌≡◌, ◌+◌, ◌*◌, ◌≤◌, List, ℕ, length, slice_index, true, false, arith, ap, ◌∙◌, length-take, length-drop}
use Rattle.std.proofs.lemmas.List.{get_or-take}
use Rattle.h264_plane.specs.Samples.{at}
use Rattle.h264_inter.specs.Luma.{quarter}
use Rattle.h264_inter.proofs.Blocks.{block_more, row_inside}
use Rattle.h264_inter.proofs.Moved.{both_moved, sums_up_to, values_up_to}
use Rattle.h264_inter.proofs.luma_blocks.middle_line.Goals as goal

pub middle_row-row-requires-clause-left : goal.middle_row-row-requires-clause-left
middle_row-row-requires-clause-left g c = (values_up_to _ _ _ _ _ c.next_windows-across.ensures.left, sums_up_to _ _ _ _ _ c.next_windows-samples.ensures.left)

pub middle_row-row-requires-clause-right : goal.middle_row-row-requires-clause-right
middle_row-row-requires-clause-right g c more =
    (values_up_to _ _ _ _ _ (c.next_windows-across.ensures.right more), sums_up_to _ _ _ _ _ (c.next_windows-samples.ensures.right more))

pub returns-clause-across : goal.returns-clause-across
returns-clause-across g c = rw c.partner-c.ensures.value at
    (both_moved true g.row.W c.args.p.now c.args.corner.x c.partner-c.result (c.args.corner.y + c.args.v) (c.args.corner.y + (c.args.v + 1)) _ (omega arith)
    c.next_windows-across.ensures)

pub returns-clause-samples : goal.returns-clause-samples
returns-clause-samples g c = rw c.partner-c.ensures.value at
    (both_moved false g.row.W c.args.p.now c.args.corner.x c.partner-c.result (c.args.corner.y + c.args.v) (c.args.corner.y + (c.args.v + 1)) _ (omega arith)
    c.next_windows-samples.ensures)

pub returns-clause-rows : goal.returns-clause-rows
returns-clause-rows g c =
    let a = c.args in
    let w = g.row.W in
    let row = c.middle_row-row.result in
    let new = c.copy_from_slice.new.self in
    let fits : w * a.v + w ≤ length a.out.now = omega (arith, row_inside w g.row.H a.v c.requires.row) in
    let count : length new ≡ w = c.copy_from_slice.ensures.len ∙ simp (length-take, length-drop) (omega arith) in
    block_more w a.v _ a.out.now new (λ d b. quarter g.row.X g.row.Y (λ i j. at a.p.now (a.corner.x + d + i) (a.corner.y + b + j))) fits count
    (λ x p. ap (λ (l : List ℕ). slice_index l x) c.copy_from_slice.ensures.after ∙ get_or-take w row x 0 p ∙
    c.middle_row-row.ensures a.p.now a.corner.x c.partner-c.result (a.corner.y + a.v) c.partner-c.ensures.value c.next_windows-across.ensures
    c.next_windows-samples.ensures x (omega arith))
    c.requires.above
