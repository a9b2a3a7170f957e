use Rattle.std.proofs.Common.{◌≡◌, ◌+◌, ◌≤◌, ◌/◌, ◌^◌, arith}
use Rattle.h264_bits.specs.Peek.{peek_at}
use Rattle.h264_bits.proofs.Peeks.{peek-top, power-is}
use Rattle.h264_bits.proofs.Held.{held-word, held-fixed, peek-middle}
use Rattle.h264_tables.specs.declared.table.Table.TheVariants.{LevelPrefix}
use Rattle.h264_cavlc.proofs.level.short_level.Goals as goal

pub returns-clause-prefix : goal.returns-clause-prefix
returns-clause-prefix c bytes i e inside =
    let top : c.args.bits / 2 ^ 4 ≡ peek_at 16 bytes i = rw e (peek-top 16 20 bytes i (omega arith)) in
    let short = c.if-word-gt-SHORT_PREFIX.false in
    rw (c.from.ensures, c.from-length.ensures) (held-word LevelPrefix bytes i c.in_ok-word.word (rw top at c.in_ok-word.ensures.word) (omega arith))

pub returns-clause-suffix : goal.returns-clause-suffix
returns-clause-suffix c bytes i e inside =
    let short = c.if-word-gt-SHORT_PREFIX.false in
    let long = c.from-length.ensures in
    let few = c.requires.length in
    let fits : c.from-length.result + c.args.suffix_length ≤ 20 = omega arith in
    let middle = peek-middle c.from-length.result c.args.suffix_length 20 bytes i fits in
    rw (power-is c.args.suffix_length (omega arith), e) (held-fixed c.args.suffix_length bytes (i + c.from-length.result) _ middle (omega arith))
