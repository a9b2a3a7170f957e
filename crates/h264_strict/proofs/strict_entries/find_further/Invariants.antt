use Rattle.std.proofs.Common.{take}
use Rattle.h264_strict.specs.StrictEntries.{HaveOtherFurtherLabels}
use Rattle.h264_strict.proofs.strict_entries.find_further.Given as goal

abbrev pub invariant-loop-entry : goal.invariant-loop-entry
invariant-loop-entry l = HaveOtherFurtherLabels l.label (take l.entry-index l.entries)
