use Rattle.h264_deblock.proofs.CodedEdges.{three}
use Rattle.h264_deblock.proofs.Numbers.{three-words}
use Rattle.h264_deblock.proofs.strengths.inner_lines.Goals as goal

pub returns-clause-here : goal.returns-clause-here
returns-clause-here c a m s = three c.args.vertical m _ _ _ (c.inner_line.ensures.here a m s) (c.inner_line-2.ensures.here a m s)
    (c.inner_line-3.ensures.here a m s)

pub returns-clause-words : goal.returns-clause-words
returns-clause-words c = three-words _ _ _ c.inner_line.ensures.word c.inner_line-2.ensures.word c.inner_line-3.ensures.word
