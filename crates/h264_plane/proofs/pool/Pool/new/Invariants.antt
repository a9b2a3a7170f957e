use Rattle.std.proofs.Common.{◌≡◌, ℕ, ◌<◌, length}
use Rattle.h264_plane.specs.Frames.{plane_of, frame_at, IsFrame}
use Rattle.h264_plane.specs.Samples.{IsBlank}
use Rattle.h264_plane.specs.declared.frame.Component.{Component}
use Rattle.h264_plane.proofs.pool.Pool.new.Given as goal

abbrev pub invariant-loop : goal.invariant-loop
invariant-loop l = record {
  count : length l.frames.items ≡ l.counter;
  blank : (k : ℕ) → k < l.counter → (c : Component) → IsBlank (plane_of c (frame_at l.frames.items k));
  size : (k : ℕ) → k < l.counter → IsFrame (frame_at l.frames.items k) l.width l.height;
}
