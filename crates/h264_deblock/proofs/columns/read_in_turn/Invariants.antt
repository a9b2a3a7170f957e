use Rattle.std.proofs.Common.{◌≡◌, ℕ, ◌+◌, ◌*◌, ◌/◌, ◌<◌, length, slice_index}
use Rattle.h264_plane.specs.Samples.{at}
use Rattle.h264_deblock.specs.Rows.{in_turn}
use Rattle.h264_deblock.proofs.columns.read_in_turn.Given as goal

abbrev pub invariant-loop-v : goal.invariant-loop-v
invariant-loop-v l = record {
  size : length l.samples ≡ 128;
  first : l.i ≡ (l.y + l.v) * l.a.width + l.x;
  second : l.j ≡ (l.z + l.v) * l.b.width + l.x;
  above : (b : ℕ) → b < l.v → (u : ℕ) → u < 16 →
      slice_index l.samples (16 * b + u) ≡ in_turn (at l.a (l.x + u / 2) (l.y + b)) (at l.b (l.x + u / 2) (l.z + b)) u;
}
