use Rattle.std.proofs.Common.{◌+◌, pos, arith, refl}
use Rattle.h264_base.specs.Word.{Words}
use Rattle.h264_base.proofs.Words.{value-reads}
use Rattle.h264_tables.specs.Table.{code_table}
use Rattle.h264_bits.proofs.Readings.{none-reads}
use Rattle.h264_bits.proofs.Tables.{entry_if-short, entry-inside, entry-outside, entry-none}
use Rattle.h264_bits.proofs.bits.Bits.entry_if.Goals as goal

pub returns-in_default-clause-none : goal.returns-in_default-clause-none
returns-in_default-clause-none c coded =
    let r = c.args.self.now in
    none-reads (Words (code_table c.args.table)) r.body.bytes r.at
    (entry-none c.args.table r.body.bytes r.at _ refl (rw c.in_default.is at c.requires.word coded))

pub advance-requires : goal.advance-requires
advance-requires c = let few = entry_if-short c.args.coded c.args.table _ c.in-Some.entry (rw c.in-Some.is at c.requires.word)
    (rw c.in-Some.is at c.requires.nothing) in omega arith

pub returns-in-Ok-clause-word : goal.returns-in-Ok-clause-word
returns-in-Ok-clause-word c coded =
    let r = c.args.self.now in
    rw c.in-Ok.ensures.end (value-reads (Words (code_table c.args.table)) r.body.bytes r.at (pos c.in-Some.entry.value) (r.at + c.in-Some.entry.length)
    (entry-inside c.args.table r.body.bytes r.at _ refl c.in-Some.entry (rw c.in-Some.is at c.requires.word coded) c.in-Ok.ensures.fits))

pub returns-in-Err-clause-none : goal.returns-in-Err-clause-none
returns-in-Err-clause-none c coded =
    let r = c.args.self.now in
    none-reads (Words (code_table c.args.table)) r.body.bytes r.at
    (entry-outside c.args.table r.body.bytes r.at _ refl c.in-Some.entry (rw c.in-Some.is at c.requires.word coded) c.in-Err.ensures.none)
