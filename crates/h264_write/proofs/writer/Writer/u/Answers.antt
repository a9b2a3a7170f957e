use Rattle.std.proofs.Common.{pos, ap, sym}
use Rattle.h264_base.specs.Word.{Fixed}
use Rattle.h264_write.specs.Written.{spelled}
use Rattle.h264_write.proofs.Spelled.{length-spelled, number-whole}
use Rattle.h264_write.proofs.Stands.{written}
use Rattle.h264_write.proofs.writer.Writer.u.Goals as goal

pub returns : goal.returns
returns c = rw (← c.self.view_is) (written (Fixed c.args.n) (pos c.args.value) c.self.inside.bits.items (spelled c.args.n c.args.value) c.spell.new.bits.items
    (length-spelled c.args.n c.args.value, ap pos (sym (number-whole c.args.n c.args.value c.requires.fits))) c.in_ok-spell.ensures)
