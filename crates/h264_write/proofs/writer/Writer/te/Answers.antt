use Rattle.std.proofs.Common.{pos, arith, ◌-◌}
use Rattle.h264_base.specs.Word.{Words}
use Rattle.h264_tables.specs.declared.table.Table.TheVariants.{InvertedBit}
use Rattle.h264_tables.specs.Table.{code_table}
use Rattle.h264_write.specs.Written.{spelled}
use Rattle.h264_write.proofs.Stands.{written}
use Rattle.h264_write.proofs.Tables.{bit-written, truncated-one, truncated-other}
use Rattle.h264_write.proofs.writer.Writer.te.Goals as goal

pub returns-then-range-eq1 : goal.returns-then-range-eq1
returns-then-range-eq1 c = rw (← c.self.view_is, truncated-one c.args.range c.if-range-eq1.true)
    (written (Words (code_table InvertedBit)) (pos c.args.value) c.self.inside.bits.items (spelled 1 (1 - c.args.value)) c.spell.new.bits.items
    (bit-written c.args.value (omega arith)) c.in_ok-spell.ensures)

pub returns : goal.returns
returns c = rw (truncated-other c.args.range c.if-range-eq1.false) c.in_ok-ue.ensures
