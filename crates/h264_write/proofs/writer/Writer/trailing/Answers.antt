use Rattle.std.proofs.Common.{rules, refl}
use Rattle.h264_write.proofs.Stands.{closed}
use Rattle.h264_write.proofs.writer.Writer.trailing.Goals as goal

pub returns : goal.returns
returns c = rw (← c.self.view_is) (closed c.self.inside.bits.items c.spell.new.bits.items c.spell-2.new.bits.items c.len.result _ (search rules) refl
    c.in_ok-spell.ensures c.in_ok-spell-2.ensures)
