use Rattle.std.proofs.Common.{◌≡◌, ◌*◌, ◌^◌, ◌≤ℤ◌, take, pos, neg_ℤ}
use Rattle.h264_poc.specs.Cycle.{sum_of}
use Rattle.h264_poc.proofs.cycle.sum_of.Given as goal

abbrev pub invariant-loop-offset : goal.invariant-loop-offset
invariant-loop-offset l = record {
  so_far : l.sum ≡ sum_of (take l.offset-index l.offsets);
  above : neg_ℤ (pos (l.offset-index * 2 ^ 31)) ≤ℤ l.sum;
  below : l.sum ≤ℤ pos (l.offset-index * 2 ^ 31);
}
