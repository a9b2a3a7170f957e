use Rattle.std.proofs.Common.{◌≡◌, drop}
use Rattle.h264_marking.specs.Operations.{all_operated}
use Rattle.h264_marking.proofs.operations.operate_all.Given as goal

abbrev pub invariant-loop-o : goal.invariant-loop-o
invariant-loop-o l = all_operated l.current (drop l.o-index l.operations) l.marks ≡ all_operated l.current l.operations l.fn.marks
