use Rattle.std.proofs.Common.{sym}
use Rattle.h264_inter.proofs.Moved.{partner_left, partner_right}
use Rattle.h264_inter.proofs.luma_blocks.partner.Goals as goal

pub returns-then-this-eq3-clause-value : goal.returns-then-this-eq3-clause-value
returns-then-this-eq3-clause-value g c = sym (partner_right g.row.X c.if-this-eq3.true)

pub returns-else-this-eq3-clause-value : goal.returns-else-this-eq3-clause-value
returns-else-this-eq3-clause-value g c = sym (partner_left g.row.X c.if-this-eq3.false)
