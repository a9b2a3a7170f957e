use Rattle.std.proofs.Common.{pos, ap, arith}
use Rattle.h264_base.specs.Word.{Words}
use Rattle.h264_tables.specs.declared.code_words.CodeWord.{CodeWord}
use Rattle.h264_tables.specs.Table.{code_table}
use Rattle.h264_write.specs.Written.{spelled}
use Rattle.h264_write.proofs.Stands.{written}
use Rattle.h264_write.proofs.Tables.{word-spelled, row-written}
use Rattle.h264_write.proofs.writer.Writer.word.Goals as goal

pub spell-requires : goal.spell-requires
spell-requires c =
    let w = c.in-Some.ensures.some in
    let s = word-spelled c.args.table w.row w.is_row in
    let few = s.1 in
    let l = ap (λ (w : CodeWord). w.length) w.word_is in
    let e = c.from.ensures in
    omega arith

pub returns-clause-ok : goal.returns-clause-ok
returns-clause-ok c =
    let b = rw (c.from.ensures, c.from-2.ensures) at c.in-Ok.ensures in
    rw (← c.self.view_is) (written (Words (code_table c.args.table)) (pos c.args.value) c.self.inside.bits.items
    (spelled c.in-Some.word.length c.in-Some.word.bits) c.spell.new.bits.items
    (row-written c.args.table c.args.value c.in-Some.word c.in-Some.ensures.some) b)
