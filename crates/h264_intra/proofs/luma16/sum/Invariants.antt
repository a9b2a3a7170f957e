use Rattle.std.proofs.Common.{◌≡◌, ◌*◌, ◌≤◌, slice_index}
use Rattle.h264_intra.specs.Filters.{total}
use Rattle.h264_intra.proofs.luma16.sum.Given as goal

abbrev pub invariant-loop-k : goal.invariant-loop-k
invariant-loop-k l = record {
  sum : l.sum ≡ total l.k (λ k. slice_index l.side k);
  bound : l.sum ≤ 255 * l.k;
}
