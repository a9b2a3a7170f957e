use Rattle.std.proofs.Common.{take}
use Rattle.h264_pages.specs.Entries.{HaveOtherLabels}
use Rattle.h264_pages.proofs.rules.find_labelled.Given as goal

abbrev pub invariant-loop-entry : goal.invariant-loop-entry
invariant-loop-entry l = HaveOtherLabels l.label (take l.entry-index l.entries)
