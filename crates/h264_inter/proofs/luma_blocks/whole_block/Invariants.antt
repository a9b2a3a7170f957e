use Rattle.std.proofs.Common.{◌≡◌, ℕ, ◌+◌, ◌*◌, ◌<◌, slice_index}
use Rattle.h264_plane.specs.Samples.{at}
use Rattle.h264_inter.proofs.luma_blocks.whole_block.Given as goal

abbrev pub invariant-loop-v : goal.invariant-loop-v
invariant-loop-v g l = record {
  above : (b : ℕ) → b < l.v → (a : ℕ) → a < g.row.W → slice_index l.out (g.row.W * b + a) ≡ at l.p (l.x + a) (l.y + b);
}
