use Rattle.std.proofs.Common.{arith}
use Rattle.h264_lines.proofs.Fits.{inside}
use Rattle.h264_lines.proofs.rows.chroma_row.Goals as goal

pub overflow_add-rectangle : goal.overflow_add-rectangle
overflow_add-rectangle c =
    let i = inside c.args.rectangle c.args.frame.now c.requires.fits in
    let a = i.rows in
    let s = c.height-height.ensures.small in
    let y = c.requires.row in
    omega arith
