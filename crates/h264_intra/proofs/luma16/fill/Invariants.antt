use Rattle.std.proofs.Common.{◌≡◌, ℕ, ◌+◌, ◌*◌, ◌<◌, length, slice_index}
use Rattle.h264_intra.specs.Luma16.{chosen16}
use Rattle.h264_intra.proofs.luma16.fill.Given as goal

abbrev pub invariant-loop-x : goal.invariant-loop-x
invariant-loop-x g l = record {
  size : length l.out ≡ 256;
  rows : (v : ℕ) → v < l.y → (u : ℕ) → u < 16 → slice_index l.out (16 * v + u) ≡ chosen16 g.row.MODE l.left l.above l.flat l.plane u v;
  here : (u : ℕ) → u < l.x → slice_index l.out (16 * l.y + u) ≡ chosen16 g.row.MODE l.left l.above l.flat l.plane u l.y;
}

abbrev pub invariant-loop-y : goal.invariant-loop-y
invariant-loop-y g l = record {
  size : length l.out ≡ 256;
  rows : (v : ℕ) → v < l.y → (u : ℕ) → u < 16 → slice_index l.out (16 * v + u) ≡ chosen16 g.row.MODE l.left l.above l.flat l.plane u v;
}
