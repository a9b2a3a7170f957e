use Rattle.std.proofs.Common.{◌≡◌, ℕ, ◌-◌, ◌<◌, ◌≤◌, get_or, length}
use Rattle.h264_picture.specs.Sound.{IsPlace}
use Rattle.h264_picture.proofs.places.places_within.Given as goal

abbrev pub invariant-loop-n : goal.invariant-loop-n
invariant-loop-n l = record {
  size : length l.own ≡ 16;
  stand : (m : ℕ) → m < l.n → IsPlace l.frames (get_or l.own m 0);
  values : (m : ℕ) → m < l.n → l.base ≤ get_or l.places m 0 → IsPlace l.frames (get_or l.places m 0 - l.base) → get_or l.own m 0 ≡ get_or l.places m 0 - l.base;
}
