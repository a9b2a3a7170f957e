use Rattle.std.proofs.Common.{get_or, None}
use Rattle.h264_deblock.specs.CodedEdges.{named}
use Rattle.h264_deblock.proofs.CodedEdges.{inner-by, none-apart}
use Rattle.h264_deblock.proofs.strengths.inner.Goals as goal

pub returns-clause-here : goal.returns-clause-here
returns-clause-here c a m s = inner-by c.args.vertical c.args.line c.args.k c.args.own.now m (named c.inter.result) c.requires.some c.requires.line
    c.requires.place s c.requires.inter (rw (← c.number_at-p.ensures.here, ← c.number_at-q.ensures.here)
    (c.inter.ensures.here (λ t. none-apart (get_or c.args.own.now.motions c.number_at-p.result None) (get_or c.args.own.now.motions c.number_at-q.result None)
    (rw (c.number_at-p.ensures.here, c.number_at-q.ensures.here) ((a t).each c.args.k c.requires.place)))))
