use Rattle.h264_deblock.proofs.Beside.{edge_idle}
use Rattle.h264_deblock.proofs.Numbers.{zero-edge}
use Rattle.h264_deblock.proofs.edges.edge_pair.Goals as goal

pub returns-then-is_zero-clause-cb : goal.returns-then-is_zero-clause-cb
returns-then-is_zero-clause-cb g c e is named-by =
    zero-edge _ _ c.args.cb.now e c.args.along c.args.across c.args.word.now c.requires.before (c.is_zero.ensures c.if-is_zero.true) named-by

pub returns-then-is_zero-clause-cr : goal.returns-then-is_zero-clause-cr
returns-then-is_zero-clause-cr g c e is named-by =
    zero-edge _ _ c.args.cr.now e c.args.along c.args.across c.args.word.now c.requires.before (c.is_zero.ensures c.if-is_zero.true) named-by

pub returns-then-is_idle_at-clause-cb : goal.returns-then-is_idle_at-clause-cb
returns-then-is_idle_at-clause-cb g c e is named-by =
    edge_idle _ _ c.args.cb.now e c.args.along c.args.across c.requires.before (c.is_idle_at.ensures c.if-is_idle_at.true e is)

pub returns-then-is_idle_at-clause-cr : goal.returns-then-is_idle_at-clause-cr
returns-then-is_idle_at-clause-cr g c e is named-by =
    edge_idle _ _ c.args.cr.now e c.args.along c.args.across c.requires.before (c.is_idle_at.ensures c.if-is_idle_at.true e is)
