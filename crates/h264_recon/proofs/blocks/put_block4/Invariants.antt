use Rattle.std.proofs.Common.{◌≡◌, ◌≢◌, ◌⊎◌, ℕ, ◌/◌, ◌%◌, ◌<◌, slice_index, length}
use Rattle.h264_recon.specs.Blocks4.{place4}
use Rattle.h264_recon.proofs.blocks.put_block4.Given as goal

abbrev pub invariant-loop-k : goal.invariant-loop-k
invariant-loop-k l = record {
  size : length l.own ≡ 256;
  here : (m : ℕ) → m < l.k → slice_index l.own (place4 l.x l.y (m % 4) (m / 4)) ≡ slice_index l.block m;
  kept : (u v i j : ℕ) → u < 4 → v < 4 → i < 4 → j < 4 → (u ≢ l.x) ⊎ (v ≢ l.y) → slice_index l.own (place4 u v i j) ≡ slice_index l.fn.own (place4 u v i j);
}
