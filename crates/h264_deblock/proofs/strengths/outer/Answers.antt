use Rattle.h264_deblock.specs.CodedEdges.{named}
use Rattle.h264_deblock.proofs.CodedEdges.{outer-by}
use Rattle.h264_deblock.proofs.strengths.outer.Goals as goal

pub returns-clause-here : goal.returns-clause-here
returns-clause-here c p q i s = outer-by c.args.vertical c.args.k c.args.edge.now c.args.own.now p q (named c.inter.result) c.requires.place i s
    c.requires.beside c.requires.own (rw (← c.number_at-b.ensures.here) (c.inter.ensures.here (λ t. absurd (cc))))
