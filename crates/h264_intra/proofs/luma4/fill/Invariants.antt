use Rattle.std.proofs.Common.{◌≡◌, ℕ, ◌+◌, ◌*◌, ◌<◌, length, slice_index}
use Rattle.h264_intra.specs.Luma4.{directed, mode4_of, from_border}
use Rattle.h264_intra.proofs.luma4.fill.Given as goal

abbrev pub invariant-loop-x : goal.invariant-loop-x
invariant-loop-x g l = record {
  size : length l.out ≡ 16;
  rows : (v : ℕ) → v < l.y → (u : ℕ) → u < 4 → slice_index l.out (4 * v + u) ≡ directed (mode4_of g.row.MODE) l.flat (from_border l.b) u v;
  here : (u : ℕ) → u < l.x → slice_index l.out (4 * l.y + u) ≡ directed (mode4_of g.row.MODE) l.flat (from_border l.b) u l.y;
}

abbrev pub invariant-loop-y : goal.invariant-loop-y
invariant-loop-y g l = record {
  size : length l.out ≡ 16;
  rows : (v : ℕ) → v < l.y → (u : ℕ) → u < 4 → slice_index l.out (4 * v + u) ≡ directed (mode4_of g.row.MODE) l.flat (from_border l.b) u v;
}
