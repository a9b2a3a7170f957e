use Rattle.h264_command.specs.Lists.{texts_in, HasMore}
use Rattle.h264_command.proofs.lists.add_files.Given as goal

abbrev pub invariant-loop-list : goal.invariant-loop-list
invariant-loop-list g l = HasMore (texts_in l.initial.names.items) (texts_in l.names.items)

abbrev pub invariant-loop-folder : goal.invariant-loop-folder
invariant-loop-folder g l = HasMore (texts_in l.initial.names.items) (texts_in l.names.items)
