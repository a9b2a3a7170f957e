use Rattle.std.proofs.Common.{ap, sym}
use Rattle.std.specs.Option.{option_map}
use Rattle.h264_tables.specs.CodeWord.{word_of}
use Rattle.h264_tables.proofs.Columns.{row-there, row-past}
use Rattle.h264_tables.proofs.code_words.row_at.Goals as goal

pub returns-then-i-lengths : goal.returns-then-i-lengths
returns-then-i-lengths c = ap (option_map word_of) (sym (row-past c.args.lengths.now c.args.bits.now c.args.values.now c.args.i c.if-i-lengths.true))

pub returns : goal.returns
returns c = ap (option_map word_of) (sym
    (row-there c.args.lengths.now c.args.bits.now c.args.values.now c.args.i c.requires.spelled c.requires.valued c.if-i-lengths.false))
