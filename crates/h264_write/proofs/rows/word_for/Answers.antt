use Rattle.std.proofs.Common.{arith, ap, sym, ◌∙◌}
use Rattle.h264_tables.specs.declared.code_words.CodeWord.{CodeWord}
use Rattle.h264_tables.specs.Table.{rows_of}
use Rattle.h264_write.proofs.Tables.{rows_of-few, row-at, word-row, rows-past, lacks-all}
use Rattle.h264_write.proofs.rows.word_for.Goals as goal

pub returns-in_default-clause-none : goal.returns-in_default-clause-none
returns-in_default-clause-none c = lacks-all c.loop-i.i c.args.table c.args.value (rows-past c.args.table c.loop-i.i c.in_default.ensures) c.loop-i.invariant

pub returns-then-word-value-clause-some : goal.returns-then-word-value-clause-some
returns-then-word-value-clause-some c =
    let r = word-row c.args.table c.loop-i.i c.in-Some.word c.in-Some.ensures in
    record {
      row = r.0;
      is_row = row-at (rows_of c.args.table) c.loop-i.i r.0 r.1;
      word_is = sym r.2;
      value_is = ap (λ (w : CodeWord). w.value) r.2 ∙
          c.if-word-value.true;
    }

pub returns-clause-none : goal.returns-clause-none
returns-clause-none c = let few = rows_of-few c.args.table in lacks-all c.loop-i.i c.args.table c.args.value (omega arith) c.loop-i.invariant
