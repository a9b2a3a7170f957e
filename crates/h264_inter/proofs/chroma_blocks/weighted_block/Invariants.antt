use Rattle.std.proofs.Common.{◌≡◌, ℕ, ◌+◌, ◌*◌, ◌<◌, slice_index}
use Rattle.h264_plane.specs.Samples.{at}
use Rattle.h264_inter.specs.Chroma.{weighted}
use Rattle.h264_inter.specs.Rows.{ArePairs}
use Rattle.h264_inter.proofs.chroma_blocks.weighted_block.Given as goal

abbrev pub invariant-loop-v : goal.invariant-loop-v
invariant-loop-v g l = record {
  above : (b : ℕ) → b < l.v → (a : ℕ) → a < g.row.W →
      slice_index l.out (g.row.W * b + a) ≡ weighted l.w.a l.w.b l.w.c l.w.d (λ i j. at l.p (l.left + a + i) (l.top + b + j));
  rows : ArePairs g.row.W l.p l.left (l.top + l.v) 0 l.upper;
}
