use Rattle.std.proofs.Common.{◌≡◌, true}
use Rattle.h264_plane.specs.Blocks.{column_of, row_of}
use Rattle.h264_scale.specs.Residual.{residual_fits}
use Rattle.h264_scale.specs.Macroblock.{luma_d, all_below}
use Rattle.h264_recon.specs.ReadLevels.{luma_by}
use Rattle.h264_recon.proofs.range.luma_fits.Given as goal

abbrev pub invariant-loop-b : goal.invariant-loop-b
invariant-loop-b l = all_below l.b (λ b. residual_fits (luma_d l.mb.qp (luma_by l.mb.kind l.mb) (column_of b) (row_of b))) ≡ true
