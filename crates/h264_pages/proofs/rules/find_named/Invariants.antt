use Rattle.std.proofs.Common.{take}
use Rattle.h264_pages.specs.Entries.{HaveOtherNames}
use Rattle.h264_pages.proofs.rules.find_named.Given as goal

abbrev pub invariant-loop-entry : goal.invariant-loop-entry
invariant-loop-entry l = HaveOtherNames l.name (take l.entry-index l.entries)
