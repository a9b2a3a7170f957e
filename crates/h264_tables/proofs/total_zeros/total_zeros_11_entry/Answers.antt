use Rattle.std.proofs.Common.{rules, arith, refl}
use Rattle.h264_tables.specs.declared.total_zeros.TheConstants.{INDEX_11_ENTRY_LENGTHS, INDEX_11_ENTRY_VALUES}
use Rattle.h264_tables.specs.TotalZeros.{total_zeros_11}
use Rattle.h264_tables.proofs.Entries.{agrees, entry_fits, entries_fit, shift_of, place_of, are_words, index-fits, entry-found}
use Rattle.h264_tables.proofs.total_zeros.total_zeros_11_entry.Goals as goal

pub bounds-entry : goal.bounds-entry
bounds-entry c = index-fits 4 1 c.args.bits c.saturating_sub-shift.result (omega arith) (omega arith) (omega arith) (search rules)

pub bounds-entry-2 : goal.bounds-entry-2
bounds-entry-2 c = index-fits 4 1 c.args.bits c.saturating_sub-shift.result (omega arith) (omega arith) (omega arith) (search rules)

pub returns : goal.returns
unfolding agrees entry_fits entries_fit shift_of place_of are_words total_zeros_11
returns c = entry-found 4 1 c.args.bits c.saturating_sub-shift.result INDEX_11_ENTRY_LENGTHS INDEX_11_ENTRY_VALUES total_zeros_11 refl refl (omega arith)
    (omega arith) (omega arith) (omega arith) (search rules)
