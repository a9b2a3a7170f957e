use Rattle.std.proofs.Common.{◌≡◌, ℕ, ◌+◌, ◌*◌, ◌/◌, ◌%◌, ◌<◌, ◌≤◌, get_or, slice_index, length, None}
use Rattle.h264_plane.specs.declared.frame.Component.TheVariants.{Y}
use Rattle.h264_recon.specs.Weights.{weighted_if}
use Rattle.h264_recon.proofs.weighing.weigh_luma_runs.Given as goal

abbrev pub invariant-loop-r : goal.invariant-loop-r
invariant-loop-r l = record {
  size : length l.out ≡ 256;
  done : (n : ℕ) → n < 4 * l.r → slice_index l.out n ≡ weighted_if Y (get_or l.weights (4 * (n / 64) + n % 16 / 4) None) (slice_index l.fn.out n);
  rest : (n : ℕ) → 4 * l.r ≤ n → slice_index l.out n ≡ slice_index l.fn.out n;
}
