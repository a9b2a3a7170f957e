use Rattle.std.proofs.Common.{pos, refl, arith}
use Rattle.h264_base.specs.Word.{Unsigned}
use Rattle.h264_write.proofs.Spelled.{golomb-leading, two-words}
use Rattle.h264_write.proofs.Stands.{written}
use Rattle.h264_write.proofs.writer.Writer.ue.Goals as goal

pub returns : goal.returns
returns c = rw (← c.self.view_is) (written Unsigned (pos c.args.value) c.self.inside.bits.items _ c.spell-2.new.bits.items
    (golomb-leading c.args.value _ refl (omega arith))
    (two-words c.self.inside.bits.items c.spell.new.bits.items c.spell-2.new.bits.items _ _ c.in_ok-spell.ensures c.in_ok-spell-2.ensures))
