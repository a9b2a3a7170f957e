use Rattle.h264_plane.specs.Samples.{at}
use Rattle.h264_inter.proofs.Eighths.{whole_placed}
use Rattle.h264_inter.proofs.chroma_blocks.block.Goals as goal

pub returns-then-y-eq0 : goal.returns-then-y-eq0
returns-then-y-eq0 g c = whole_placed c.args.x c.args.y g.row.W g.row.H c.args.left c.args.top (at c.args.p) c.whole_block.new.out c.if-x-eq0.true
    c.if-y-eq0.true (record { each = c.whole_block.ensures.each })
