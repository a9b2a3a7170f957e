use Rattle.std.proofs.Common.{◌≡◌, ℕ, ◌+◌, ◌<◌, ◌≤◌, slice_index}
use Rattle.h264_inter.specs.Weighted.{weighted}
use Rattle.h264_inter.proofs.weighted.weigh.Given as goal

abbrev pub invariant-loop-k : goal.invariant-loop-k
invariant-loop-k g l = record {
  here : (n : ℕ) → l.start ≤ n → n < l.start + l.k → slice_index l.samples n ≡ weighted l.weight (slice_index l.fn.samples n);
  before : (n : ℕ) → n < l.start → slice_index l.samples n ≡ slice_index l.fn.samples n;
  after : (n : ℕ) → l.start + l.k ≤ n → slice_index l.samples n ≡ slice_index l.fn.samples n;
}
