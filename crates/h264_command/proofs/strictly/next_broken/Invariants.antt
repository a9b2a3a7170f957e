use Rattle.std.specs.Prelude.{take}
use Rattle.h264_command.proofs.StrictTold.{IsNextAmong}
use Rattle.h264_command.proofs.strictly.next_broken.Given as goal

abbrev pub invariant-loop-rule : goal.invariant-loop-rule
invariant-loop-rule l = IsNextAmong l.further l.last l.next (take l.rule-index l.rule-items)
