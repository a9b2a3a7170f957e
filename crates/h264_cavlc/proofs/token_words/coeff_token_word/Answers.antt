use Rattle.std.proofs.Common.{ap, sym}
use Rattle.std.specs.Option.{option_map}
use Rattle.h264_tables.specs.Entry.{entry_of}
use Rattle.h264_tables.specs.Table.{rows_of}
use Rattle.h264_tables.proofs.Rows.{rows_of-words, found-none, found-within}
use Rattle.h264_cavlc.specs.Token.{coeff_token_table}
use Rattle.h264_cavlc.proofs.token_words.coeff_token_word.Goals as goal

pub returns-then-length-eq0-clause-word : goal.returns-then-length-eq0-clause-word
returns-then-length-eq0-clause-word c =
    let table = coeff_token_table c.args.size c.args.nc in
    ap (option_map entry_of) (sym (found-none (rows_of table) c.args.bits c.any_word-length.result (rows_of-words table) c.any_word-length.ensures
    c.if-length-eq0.true))

pub returns-else-length-eq0-clause-known : goal.returns-else-length-eq0-clause-known
returns-else-length-eq0-clause-known c = found-within (coeff_token_table c.args.size c.args.nc) c.args.bits c.any_word-length.result c.any_word-length.ensures
