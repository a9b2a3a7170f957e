use Rattle.std.proofs.Common.{◌≡◌, ℕ, ◌<◌, length, get_or, None, slice_get}
use Rattle.std.specs.Option.{option_and_then}
use Rattle.h264_picture.specs.Context.{picture_in}
use Rattle.h264_picture.proofs.context.references.Given as goal

abbrev pub invariant-loop-k : goal.invariant-loop-k
invariant-loop-k l = record {
  size : length l.pictures ≡ 16;
  here : (m : ℕ) → m < l.k → get_or l.pictures m None ≡ option_and_then picture_in (slice_get l.list m);
}
