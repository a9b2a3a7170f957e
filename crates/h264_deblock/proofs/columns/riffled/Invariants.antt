use Rattle.std.proofs.Common.{◌≡◌, ℕ, ◌+◌, ◌*◌, ◌/◌, ◌%◌, ◌<◌, length, slice_index}
use Rattle.h264_deblock.proofs.columns.riffled.Given as goal

abbrev pub invariant-loop-k : goal.invariant-loop-k
invariant-loop-k l = record {
  size : length l.out ≡ 128;
  each : (m : ℕ) → m < 2 * l.k → slice_index l.out m ≡ slice_index l.x (m % 2 * 64 + m / 2);
}
