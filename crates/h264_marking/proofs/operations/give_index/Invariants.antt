use Rattle.std.proofs.Common.{◌≡◌, take, drop, map, ◌++◌}
use Rattle.h264_marking.specs.Operations.{made_long}
use Rattle.h264_marking.proofs.operations.give_index.Given as goal

abbrev pub invariant-loop-frame : goal.invariant-loop-frame
invariant-loop-frame l = l.frames ≡ map (made_long l.current l.number l.index) (take l.frame-index l.initial.frames) ++ drop l.frame-index l.initial.frames
