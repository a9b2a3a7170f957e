use Rattle.std.proofs.Common.{◌≡◌, ℕ, ◌<◌, Some, None, get_or, length}
use Rattle.h264_verify.specs.Keeping.{IsNear}
use Rattle.h264_verify.proofs.decoder.Decoder.frame_places.Given as goal

abbrev pub invariant-loop-k : goal.invariant-loop-k
invariant-loop-k l = record {
  near : (k n : ℕ) → k < l.k → get_or l.references k None ≡ Some n → IsNear l.self n (get_or l.places k 0);
  all : length l.places ≡ 16;
}
