use Rattle.std.proofs.Common.{◌≡◌, ℕ, ◌<◌, get_or, length, None}
use Rattle.h264_header.specs.Weights.{weights_of}
use Rattle.h264_picture.proofs.samples.weights_by_index.Given as goal

abbrev pub invariant-loop-k : goal.invariant-loop-k
invariant-loop-k l = record {
  size : length l.weights ≡ 16;
  here : (k : ℕ) → k < l.k → get_or l.weights k None ≡ weights_of l.header k;
}
