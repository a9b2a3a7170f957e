use Rattle.h264_deblock.proofs.CodedEdges.{four}
use Rattle.h264_deblock.proofs.Numbers.{below-word}
use Rattle.h264_deblock.proofs.strengths.inner_blocks.Goals as goal

pub returns-clause-here : goal.returns-clause-here
returns-clause-here c a m s = four c.args.vertical c.args.line m m _ _ _ _ (c.inner.ensures.here a m s) (c.inner-2.ensures.here a m s)
    (c.inner-3.ensures.here a m s) (c.inner-4.ensures.here a m s)

pub returns-clause-word : goal.returns-clause-word
returns-clause-word c = below-word _ _ _ _ c.inner.ensures.small c.inner-2.ensures.small c.inner-3.ensures.small c.inner-4.ensures.small
