use Rattle.std.proofs.Common.{◌≡◌, ℕ, ◌+◌, ◌<◌, get_or, length}
use Rattle.h264_recon.proofs.pcm.from.Given as goal

abbrev pub invariant-loop-k : goal.invariant-loop-k
invariant-loop-k l = record {
  size : length l.out ≡ 64;
  here : (m : ℕ) → m < l.k → get_or l.out m 0 ≡ get_or l.samples (l.start + m) 0;
}
