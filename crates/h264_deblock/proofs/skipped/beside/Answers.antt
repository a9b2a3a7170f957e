use Rattle.h264_deblock.specs.CodedEdges.{named}
use Rattle.h264_deblock.proofs.Skips.{beside-skip}
use Rattle.h264_deblock.proofs.skipped.beside.Goals as goal

pub returns-clause-here : goal.returns-clause-here
returns-clause-here c v p q b s = beside-skip v c.args.edge.now c.args.own.now p q b s c.requires.beside c.args.k (named c.inter.result) c.requires.place
    (c.inter.ensures.here (λ t. absurd (cc)))
