use Rattle.std.proofs.Common.{ap, sym, rules}
use Rattle.std.specs.Option.{option_map}
use Rattle.h264_tables.specs.Entry.{entry_of}
use Rattle.h264_tables.specs.Table.{rows_of}
use Rattle.h264_tables.proofs.Rows.{rows_of-words, found-none, found-within}
use Rattle.h264_cavlc.specs.Zeros.{total_zeros_table}
use Rattle.h264_cavlc.proofs.ShortWords.{other-size}
use Rattle.h264_cavlc.proofs.totals.total_zeros_word.Goals as goal

pub returns-then-length-eq0-clause-word : goal.returns-then-length-eq0-clause-word
returns-then-length-eq0-clause-word c =
    let table = total_zeros_table 16 c.args.total in
    rw (other-size c.args.size c.args.total c.if-size-ne4.true)
    (ap (option_map entry_of) (sym (found-none (rows_of table) c.args.bits c.short_word-length.result (rows_of-words table) c.short_word-length.ensures
    c.if-length-eq0.true)))

pub returns-else-length-eq0-clause-word : goal.returns-else-length-eq0-clause-word
returns-else-length-eq0-clause-word c = rw (other-size c.args.size c.args.total c.if-size-ne4.true) (search rules)

pub returns-else-length-eq0-clause-known : goal.returns-else-length-eq0-clause-known
returns-else-length-eq0-clause-known c =
    rw (other-size c.args.size c.args.total c.if-size-ne4.true)
    (found-within (total_zeros_table 16 c.args.total) c.args.bits c.short_word-length.result c.short_word-length.ensures)
