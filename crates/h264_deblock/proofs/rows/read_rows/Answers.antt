use Rattle.std.proofs.Common.{◌+◌, false, arith, ◌∙◌}
use Rattle.h264_plane.specs.Samples.{look}
use Rattle.h264_deblock.specs.Edge.{taps}
use Rattle.h264_deblock.proofs.Beside.{same_line}
use Rattle.h264_deblock.proofs.rows.read_rows.Goals as goal

pub returns : goal.returns
returns c n i =
    let column = c.args.x + n in
    same_line (taps (look false c.args.plane.now column) c.args.y) _ _ _ _ _ _ _ _
    (c.sixteen.ensures n i ∙ c.row.ensures.each column (omega arith))
    (c.sixteen-2.ensures n i ∙ c.row-2.ensures.each column (omega arith))
    (c.sixteen-3.ensures n i ∙ c.row-3.ensures.each column (omega arith))
    (c.sixteen-4.ensures n i ∙ c.row-4.ensures.each column (omega arith))
    (c.sixteen-5.ensures n i ∙ c.row-5.ensures.each column (omega arith))
    (c.sixteen-6.ensures n i ∙ c.row-6.ensures.each column (omega arith))
    (c.sixteen-7.ensures n i ∙ c.row-7.ensures.each column (omega arith))
    (c.sixteen-8.ensures n i ∙ c.row-8.ensures.each column (omega arith))
