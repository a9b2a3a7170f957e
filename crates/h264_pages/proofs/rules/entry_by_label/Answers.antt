use Rattle.h264_pages.proofs.Entries.{found-none}
use Rattle.h264_pages.proofs.rules.entry_by_label.Goals as goal

pub returns-clause-none : goal.returns-clause-none
returns-clause-none c = found-none _ c.find_labelled.result c.args.label.now c.find_labelled.ensures.none
