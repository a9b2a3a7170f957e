use Rattle.std.proofs.Common.{rules, arith, refl}
use Rattle.h264_tables.specs.declared.run_before.TheConstants.{LEFT_5_ENTRY_LENGTHS, LEFT_5_ENTRY_VALUES}
use Rattle.h264_tables.specs.RunBefore.{run_before_5}
use Rattle.h264_tables.proofs.Entries.{agrees, entry_fits, entries_fit, shift_of, place_of, are_words, index-fits, entry-found}
use Rattle.h264_tables.proofs.run_before.run_before_5_entry.Goals as goal

pub bounds-entry : goal.bounds-entry
bounds-entry c = index-fits 3 1 c.args.bits c.saturating_sub-shift.result (omega arith) (omega arith) (omega arith) (search rules)

pub bounds-entry-2 : goal.bounds-entry-2
bounds-entry-2 c = index-fits 3 1 c.args.bits c.saturating_sub-shift.result (omega arith) (omega arith) (omega arith) (search rules)

pub returns : goal.returns
unfolding agrees entry_fits entries_fit shift_of place_of are_words run_before_5
returns c = entry-found 3 1 c.args.bits c.saturating_sub-shift.result LEFT_5_ENTRY_LENGTHS LEFT_5_ENTRY_VALUES run_before_5 refl refl (omega arith)
    (omega arith) (omega arith) (omega arith) (search rules)
