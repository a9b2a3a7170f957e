use Rattle.h264_write.proofs.Spelled.{spelled-more, spelled-over}
use Rattle.h264_write.proofs.spell.spell.Goals as goal

pub loop-i-preserved : goal.loop-i-preserved
loop-i-preserved c = rw c.in_ok-push.ensures.items (spelled-more c.args.n c.loop-i.i c.args.number c.loop-i.bits.items _ c.loop-i-test.true c.loop-i.invariant)

pub returns : goal.returns
returns c = spelled-over c.args.n c.loop-i.i c.args.number c.loop-i.bits.items _ c.loop-i-test.false c.loop-i.invariant
