use Rattle.h264_strict.proofs.StrictEntries.{early-none}
use Rattle.h264_strict.proofs.strict_entries.early_by_label.Goals as goal

pub returns-clause-none : goal.returns-clause-none
returns-clause-none c = early-none _ c.find_further.result c.args.label.now c.find_further.ensures.none
