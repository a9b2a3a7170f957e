use Rattle.h264_strict.proofs.StrictEntries.{further-none}
use Rattle.h264_strict.proofs.strict_entries.strict_by_label.Goals as goal

pub returns-in-None-clause-none : goal.returns-in-None-clause-none
returns-in-None-clause-none c = further-none _ c.buffer_by_label.result c.args.label.now c.in-None.ensures.none c.buffer_by_label.ensures.none
