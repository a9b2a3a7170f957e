use Rattle.std.proofs.Common.{◌≡◌, ℕ, ◌+◌, ◌*◌, ◌-◌, ◌<◌, ◌≤◌, slice_index, length}
use Rattle.h264_recon.proofs.store.right_column.Given as goal

abbrev pub invariant-loop-k : goal.invariant-loop-k
invariant-loop-k g l = record {
  size : length l.column ≡ 16;
  here : (m : ℕ) → m < l.k → slice_index l.column m ≡ slice_index l.own (g.row.N * m + (g.row.N - 1));
  rest : (m : ℕ) → l.k ≤ m → slice_index l.column m ≡ 0;
}
