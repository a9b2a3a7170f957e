use Rattle.std.proofs.Common.{◌≡◌, take, drop, map, ◌++◌}
use Rattle.h264_marking.specs.Steady.{moved}
use Rattle.h264_marking.proofs.steady.move_each.Given as goal

abbrev pub invariant-loop-frame : goal.invariant-loop-frame
invariant-loop-frame l = l.frame-items ≡ map (moved l.max_frame_num l.count) (take l.frame-index l.initial.frame-items) ++
    drop l.frame-index l.initial.frame-items
