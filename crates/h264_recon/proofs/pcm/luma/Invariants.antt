use Rattle.std.proofs.Common.{◌≡◌, ℕ, ◌<◌, get_or, length}
use Rattle.h264_recon.proofs.pcm.luma.Given as goal

abbrev pub invariant-loop-k : goal.invariant-loop-k
invariant-loop-k l = record {
  size : length l.out ≡ 256;
  here : (m : ℕ) → m < l.k → get_or l.out m 0 ≡ get_or l.samples m 0;
}
