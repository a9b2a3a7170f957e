use Rattle.std.proofs.Common.{ap, sym}
use Rattle.std.specs.Option.{option_map}
use Rattle.h264_tables.specs.Entry.{entry_of}
use Rattle.h264_tables.specs.Table.{rows_of}
use Rattle.h264_tables.proofs.Rows.{rows_of-words, found-none, found-within}
use Rattle.h264_tables.proofs.front.lookup.Goals as goal

pub returns-then-length-eq0-clause-word : goal.returns-then-length-eq0-clause-word
returns-then-length-eq0-clause-word c = ap (option_map entry_of)
    (sym (found-none (rows_of c.args.table) c.args.bits c.found-length.result (rows_of-words c.args.table) c.found-length.ensures c.if-length-eq0.true))

pub returns-else-length-eq0-clause-small : goal.returns-else-length-eq0-clause-small
returns-else-length-eq0-clause-small c = found-within c.args.table c.args.bits c.found-length.result c.found-length.ensures
