use Rattle.std.proofs.Common.{◌∙◌}
use Rattle.h264_inter.proofs.Moved.{middle_is}
use Rattle.h264_inter.proofs.luma_blocks.j8.Goals as goal

pub returns-clause-each : goal.returns-clause-each
returns-clause-each c p x d y six k q = c.central8.ensures.each k q ∙ middle_is p x d y k c.args.w six q
