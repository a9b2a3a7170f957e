use Rattle.std.proofs.Common.{rules, arith, refl}
use Rattle.h264_tables.specs.declared.coded_block_pattern.TheConstants.{INTRA_ENTRY_LENGTHS, INTRA_ENTRY_VALUES}
use Rattle.h264_tables.specs.CodedBlockPattern.{coded_block_pattern_intra, golomb_rows}
use Rattle.h264_tables.proofs.Entries.{agrees, entry_fits, entries_fit, shift_of, place_of, are_words, index-fits, entry-found}
use Rattle.h264_tables.proofs.coded_block_pattern.coded_block_pattern_intra_entry.Goals as goal

pub bounds-entry : goal.bounds-entry
bounds-entry c = index-fits 11 5 c.args.bits c.saturating_sub-shift.result (omega arith) (omega arith) (omega arith) (search rules)

pub bounds-entry-2 : goal.bounds-entry-2
bounds-entry-2 c = index-fits 11 5 c.args.bits c.saturating_sub-shift.result (omega arith) (omega arith) (omega arith) (search rules)

pub returns : goal.returns
unfolding agrees entry_fits entries_fit shift_of place_of are_words coded_block_pattern_intra golomb_rows
returns c = entry-found 11 5 c.args.bits c.saturating_sub-shift.result INTRA_ENTRY_LENGTHS INTRA_ENTRY_VALUES coded_block_pattern_intra refl refl
    (omega arith) (omega arith) (omega arith) (omega arith) (search rules)
