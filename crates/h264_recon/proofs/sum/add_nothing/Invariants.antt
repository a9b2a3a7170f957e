use Rattle.std.proofs.Common.{◌≡◌, ℕ, ◌<◌, slice_index, length, pos, ◌+ℤ◌}
use Rattle.h264_plane.specs.Clip.{clip1}
use Rattle.h264_recon.proofs.sum.add_nothing.Given as goal

abbrev pub invariant-loop-k : goal.invariant-loop-k
invariant-loop-k g l = record {
  size : length l.samples ≡ g.row.N;
  done : (k : ℕ) → k < l.k → slice_index l.samples k ≡ clip1 (pos (slice_index l.fn.samples k) +ℤ pos 0);
  same : (k : ℕ) → slice_index l.samples k ≡ slice_index l.fn.samples k;
}
