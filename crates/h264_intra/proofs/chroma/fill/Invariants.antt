use Rattle.std.proofs.Common.{◌≡◌, ℕ, ◌+◌, ◌*◌, ◌<◌, length, slice_index}
use Rattle.h264_intra.specs.Chroma.{chosen_chroma}
use Rattle.h264_intra.proofs.chroma.fill.Given as goal

abbrev pub invariant-loop-x : goal.invariant-loop-x
invariant-loop-x g l = record {
  size : length l.out ≡ 64;
  rows : (v : ℕ) → v < l.y → (u : ℕ) → u < 8 → slice_index l.out (8 * v + u) ≡ chosen_chroma g.row.MODE l.left l.above l.flats l.plane u v;
  here : (u : ℕ) → u < l.x → slice_index l.out (8 * l.y + u) ≡ chosen_chroma g.row.MODE l.left l.above l.flats l.plane u l.y;
}

abbrev pub invariant-loop-y : goal.invariant-loop-y
invariant-loop-y g l = record {
  size : length l.out ≡ 64;
  rows : (v : ℕ) → v < l.y → (u : ℕ) → u < 8 → slice_index l.out (8 * v + u) ≡ chosen_chroma g.row.MODE l.left l.above l.flats l.plane u v;
}
