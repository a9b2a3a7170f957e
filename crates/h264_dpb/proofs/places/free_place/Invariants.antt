use Rattle.std.proofs.Common.{◌≡◌, ℕ, ◌<◌, ◌≤◌, true}
use Rattle.h264_dpb.specs.Numbered.{is_taken}
use Rattle.h264_dpb.proofs.places.free_place.Given as goal

abbrev pub invariant-loop-place : goal.invariant-loop-place
invariant-loop-place l = record {
  taken : (p : ℕ) → l.first ≤ p → p < l.place → is_taken l.entries p ≡ true;
}
