use Rattle.h264_deblock.proofs.CodedEdges.{four}
use Rattle.h264_deblock.proofs.Numbers.{below-word}
use Rattle.h264_deblock.proofs.strengths.outer_line.Goals as goal

pub returns-clause-here : goal.returns-clause-here
returns-clause-here c p q i s = four c.args.vertical 0 p q _ _ _ _ (c.outer.ensures.here p q i s) (c.outer-2.ensures.here p q i s)
    (c.outer-3.ensures.here p q i s) (c.outer-4.ensures.here p q i s)

pub returns-clause-word : goal.returns-clause-word
returns-clause-word c = below-word _ _ _ _ c.outer.ensures.small c.outer-2.ensures.small c.outer-3.ensures.small c.outer-4.ensures.small
