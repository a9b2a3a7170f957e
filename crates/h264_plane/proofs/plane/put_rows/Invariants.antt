use Rattle.std.proofs.Common.{◌≡◌, ℕ, ◌+◌, ◌*◌, ◌≤◌, length}
use Rattle.h264_plane.specs.Samples.{at, ShowsSamples, with_block, rows_of}
use Rattle.h264_plane.proofs.plane.put_rows.Given as goal

abbrev pub invariant-loop-n : goal.invariant-loop-n
invariant-loop-n g l = record {
  start : l.start ≡ (l.y + l.n) * l.width + l.x;
  size : length l.samples ≡ length l.fn.samples;
  block : (height : ℕ) → length l.fn.samples ≡ height * l.width → l.y + g.row.H ≤ height → ShowsSamples (rows_of l.width height l.fn.samples)
      (rows_of l.width height l.samples) (with_block g.row.W l.n l.x l.y l.block (at (rows_of l.width height l.fn.samples)));
}
