use Rattle.std.proofs.Common.{◌≡◌, ℕ, ◌<◌, get_or, length, None}
use Rattle.std.specs.Option.{ForSome}
use Rattle.h264_recon.specs.Weights.{AreInRange, limited_at}
use Rattle.h264_recon.proofs.weights.each_limited.Given as goal

abbrev pub invariant-loop-k : goal.invariant-loop-k
invariant-loop-k l = record {
  size : length l.each ≡ 16;
  here : (k : ℕ) → k < l.k → get_or l.each k None ≡ limited_at l.weights k;
  in_range : (k : ℕ) → k < l.k → ForSome (get_or l.each k None) AreInRange;
}
