use Rattle.std.proofs.Common.{◌≡◌, ◌*◌}
use Rattle.h264_intra.specs.Sides.{with_corner}
use Rattle.h264_intra.specs.Slope.{total_z, difference}
use Rattle.h264_intra.proofs.slope.gradient.Given as goal
use Rattle.h264_plane.specs.Clip.{IsIn}

abbrev pub invariant-loop-k : goal.invariant-loop-k
invariant-loop-k g l = record {
  value : l.sum ≡ total_z l.k (difference g.row.HALF (with_corner l.corner l.side));
  bound : IsIn (2040 * l.k) l.sum;
}
