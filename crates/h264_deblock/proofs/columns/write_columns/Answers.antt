use Rattle.h264_deblock.proofs.InBlocks.{lines_written}
use Rattle.h264_deblock.proofs.columns.write_columns.Goals as goal

pub returns : goal.returns
returns c = lines_written c.args.plane.now c.put_block.new.self c.args.x c.args.y c.line_by_line.result c.args.r.now c.requires.before c.line_by_line.ensures
    c.put_block.ensures
