use Rattle.std.proofs.Common.{◌≡◌, length, true}
use Rattle.h264_plane.specs.Blocks.{number_of, column_of, row_of}
use Rattle.h264_scale.specs.Residual.{residual_at, residual_fits}
use Rattle.h264_scale.specs.Macroblock.{luma_d, all_below}
use Rattle.h264_recon.specs.ReadLevels.{levels_in}
use Rattle.h264_recon.specs.Residuals.{AreBlocksAdded}
use Rattle.h264_recon.proofs.added.add_luma.Given as goal

abbrev pub invariant-loop-b : goal.invariant-loop-b
invariant-loop-b l = record {
  size : length l.samples ≡ 256;
  fit : all_below l.b (λ b. residual_fits (luma_d (levels_in l.levels).qp (levels_in l.levels).luma (column_of b) (row_of b))) ≡ true;
  added : AreBlocksAdded 16 l.b number_of (λ x y. residual_at (luma_d (levels_in l.levels).qp (levels_in l.levels).luma x y)) l.fn.samples l.samples;
}
