use Rattle.std.proofs.Common.{◌≡◌, ◌*◌, ◌≤◌}
use Rattle.h264_scale.specs.Lanes.{size_below}
use Rattle.h264_scale.proofs.range.total_size.Given as goal

abbrev pub invariant-loop-level : goal.invariant-loop-level
invariant-loop-level g l = record { value : l.size ≡ size_below l.level-index l.levels; bound : l.size ≤ l.level-index * 32768 }
