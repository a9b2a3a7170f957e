use Rattle.std.proofs.Common.{rules, arith, refl}
use Rattle.h264_tables.specs.declared.inverted_bit.TheConstants.{ENTRY_LENGTHS, ENTRY_VALUES}
use Rattle.h264_tables.specs.InvertedBit.{inverted_bit}
use Rattle.h264_tables.proofs.Entries.{agrees, entry_fits, entries_fit, shift_of, place_of, are_words, index-fits, entry-found}
use Rattle.h264_tables.proofs.inverted_bit.inverted_bit_entry.Goals as goal

pub bounds-entry : goal.bounds-entry
bounds-entry c = index-fits 1 0 c.args.bits c.saturating_sub-shift.result (omega arith) (omega arith) (omega arith) (search rules)

pub bounds-entry-2 : goal.bounds-entry-2
bounds-entry-2 c = index-fits 1 0 c.args.bits c.saturating_sub-shift.result (omega arith) (omega arith) (omega arith) (search rules)

pub returns : goal.returns
unfolding agrees entry_fits entries_fit shift_of place_of are_words inverted_bit
returns c = entry-found 1 0 c.args.bits c.saturating_sub-shift.result ENTRY_LENGTHS ENTRY_VALUES inverted_bit refl refl (omega arith) (omega arith)
    (omega arith) (omega arith) (search rules)
