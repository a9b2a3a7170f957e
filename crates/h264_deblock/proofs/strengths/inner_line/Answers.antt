use Rattle.h264_deblock.proofs.strengths.inner_line.Goals as goal

pub returns-then-is_joined-clause-here : goal.returns-then-is_joined-clause-here
returns-then-is_joined-clause-here c moves m s = c.inner_blocks.ensures.here (λ t. c.is_joined.ensures c.if-is_joined.true c.args.own.now.motions moves) m s

pub returns-clause-here : goal.returns-clause-here
returns-clause-here c moves m s = c.inner_blocks-2.ensures.here (λ t. absurd (cc)) m s
