use Rattle.std.proofs.Common.{◌+◌, ◌≤◌, length, arith, ◌∙◌}
use Rattle.h264_plane.proofs.Rows.{is_row}
use Rattle.h264_lines.proofs.Runs.{length-run, run-at}
use Rattle.h264_lines.proofs.rows.part_of_row.Goals as goal

pub returns : goal.returns
returns c =
    let room : c.args.left + c.args.width ≤ length c.row.result.now = let a = c.requires.columns in let b = c.row.ensures.whole in omega arith in
    is_row _ c.args.width _ (length-run c.row.result.now c.args.left c.args.width room)
    (λ x p. run-at c.row.result.now c.args.left c.args.width x room p ∙ c.row.ensures.each (c.args.left + x) (let a = c.requires.columns in omega arith))
