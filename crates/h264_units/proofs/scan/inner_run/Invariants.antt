use Rattle.std.proofs.Common.{length, ◌-◌, ◌≤◌, drop, take}
use Rattle.h264_units.specs.Stream.{IsInner}
use Rattle.h264_units.proofs.scan.inner_run.Given as goal

abbrev pub invariant-loop-end : goal.invariant-loop-end
invariant-loop-end l = record {
  low : l.start ≤ l.end;
  high : l.end ≤ length l.piece;
  inner : IsInner (take (l.end - l.start) (drop l.start l.piece));
}

abbrev pub decreases-loop-end : goal.decreases-loop-end
decreases-loop-end l = length l.piece - l.end
