use Rattle.h264_command.specs.Lists.{texts_in, HasMore}
use Rattle.h264_command.proofs.lists.add_listed.Given as goal

abbrev pub invariant-loop-name : goal.invariant-loop-name
invariant-loop-name g l = HasMore (texts_in l.fn.names.items) (texts_in l.names.items)
