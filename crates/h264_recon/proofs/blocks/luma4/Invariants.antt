use Rattle.std.proofs.Common.{◌≡◌, ◌<◌, ℕ, IsTrue, length, true}
use Rattle.h264_intra.specs.Luma4.{is_possible4}
use Rattle.h264_plane.specs.Blocks.{column_of, row_of}
use Rattle.h264_scale.specs.Residual.{residual_at, residual_fits}
use Rattle.h264_scale.specs.Macroblock.{luma_d, all_below}
use Rattle.h264_recon.specs.Blocks.{sides4_of}
use Rattle.h264_recon.specs.Constructed.{mode_at}
use Rattle.h264_recon.specs.Blocks4.{AreMade4, intra4}
use Rattle.h264_recon.specs.ReadLevels.{levels_in}
use Rattle.h264_recon.proofs.blocks.luma4.Given as goal

abbrev pub invariant-loop-b : goal.invariant-loop-b
invariant-loop-b l = record {
  size : length l.own ≡ 256;
  fit : all_below l.b (λ b. residual_fits (luma_d (levels_in l.levels).qp (levels_in l.levels).luma (column_of b) (row_of b))) ≡ true;
  made : ((x y : ℕ) → x < 4 → y < 4 → IsTrue (is_possible4 (mode_at l.modes x y) (sides4_of l.a x y))) →
      AreMade4 l.b (intra4 l.modes l.a (λ x y. residual_at (luma_d (levels_in l.levels).qp (levels_in l.levels).luma x y))) l.store l.column l.own;
}
