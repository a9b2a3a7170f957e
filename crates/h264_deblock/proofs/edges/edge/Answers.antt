use Rattle.h264_deblock.proofs.Beside.{edge_idle}
use Rattle.h264_deblock.proofs.Numbers.{zero-edge}
use Rattle.h264_deblock.proofs.edges.edge.Goals as goal

pub returns-then-is_zero : goal.returns-then-is_zero
returns-then-is_zero g c e is named-by =
    zero-edge _ _ c.args.plane.now e c.args.along c.args.across c.args.word.now c.requires.before (c.is_zero.ensures c.if-is_zero.true) named-by

pub returns-then-is_idle_at : goal.returns-then-is_idle_at
returns-then-is_idle_at g c e is named-by =
    edge_idle _ _ c.args.plane.now e c.args.along c.args.across c.requires.before (c.is_idle_at.ensures c.if-is_idle_at.true e is)
