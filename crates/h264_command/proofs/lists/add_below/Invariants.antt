use Rattle.h264_command.specs.Lists.{texts_in, HasMore}
use Rattle.h264_command.proofs.lists.add_below.Given as goal

abbrev pub invariant-loop-name-2 : goal.invariant-loop-name-2
invariant-loop-name-2 g l = HasMore (texts_in l.fn.names.items) (texts_in l.names.items)
