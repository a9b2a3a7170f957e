use Rattle.std.proofs.Common.{rules, arith, refl}
use Rattle.h264_tables.specs.declared.coeff_token.TheConstants.{CHROMA_DC_ENTRY_LENGTHS, CHROMA_DC_ENTRY_VALUES}
use Rattle.h264_tables.specs.CoeffToken.{coeff_token_chroma_dc}
use Rattle.h264_tables.proofs.Entries.{agrees, entry_fits, entries_fit, shift_of, place_of, are_words, index-fits, entry-found}
use Rattle.h264_tables.proofs.coeff_token.coeff_token_chroma_dc_entry.Goals as goal

pub bounds-entry : goal.bounds-entry
bounds-entry c = index-fits 8 2 c.args.bits c.saturating_sub-shift.result (omega arith) (omega arith) (omega arith) (search rules)

pub bounds-entry-2 : goal.bounds-entry-2
bounds-entry-2 c = index-fits 8 2 c.args.bits c.saturating_sub-shift.result (omega arith) (omega arith) (omega arith) (search rules)

pub returns : goal.returns
unfolding agrees entry_fits entries_fit shift_of place_of are_words coeff_token_chroma_dc
returns c = entry-found 8 2 c.args.bits c.saturating_sub-shift.result CHROMA_DC_ENTRY_LENGTHS CHROMA_DC_ENTRY_VALUES coeff_token_chroma_dc refl refl
    (omega arith) (omega arith) (omega arith) (omega arith) (search rules)
