use Rattle.std.proofs.Common.{length, ◌-◌, ℕ, ◌+◌, ◌<◌, ◌≤◌}
use Rattle.h264_rbsp.specs.Found.{IsFound}
use Rattle.h264_rbsp.proofs.scan.after_high.Given as goal

abbrev pub invariant-loop-place : goal.invariant-loop-place
invariant-loop-place l = record {
  low : l.start ≤ l.place;
  high : l.place ≤ length l.bytes + 2;
  none : (least place : ℕ) → l.start ≤ place → place < l.place → IsFound l.bytes least place → ⊥;
}

abbrev pub decreases-loop-place : goal.decreases-loop-place
decreases-loop-place l = length l.bytes + 2 - l.place
