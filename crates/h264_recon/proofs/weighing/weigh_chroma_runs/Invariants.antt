use Rattle.std.proofs.Common.{◌≡◌, ℕ, ◌+◌, ◌*◌, ◌/◌, ◌%◌, ◌<◌, ◌≤◌, get_or, slice_index, length, None}
use Rattle.h264_recon.specs.Weights.{weighted_if}
use Rattle.h264_recon.proofs.weighing.weigh_chroma_runs.Given as goal

abbrev pub invariant-loop-r : goal.invariant-loop-r
invariant-loop-r g l = record {
  size : length l.out ≡ 64;
  done : (n : ℕ) → n < 2 * l.r → slice_index l.out n ≡ weighted_if l.plane (get_or l.weights (4 * (n / 16) + n % 8 / 2) None) (slice_index l.fn.out n);
  rest : (n : ℕ) → 2 * l.r ≤ n → slice_index l.out n ≡ slice_index l.fn.out n;
}
