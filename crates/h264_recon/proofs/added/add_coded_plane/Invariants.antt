use Rattle.std.proofs.Common.{◌≡◌, ◌+◌, ◌*◌, ◌/◌, ◌%◌, length, get_or, replicate, pos, true}
use Rattle.h264_mbsyntax.specs.Stored.{shown}
use Rattle.h264_scale.specs.Residual.{residual_at, residual_fits}
use Rattle.h264_scale.specs.Macroblock.{chroma_d, all_below}
use Rattle.h264_scale.specs.declared.levels.ChromaLevels.TheVariants as chroma
use Rattle.h264_recon.specs.Table.{table}
use Rattle.h264_recon.specs.Residuals.{AreBlocksAdded, raster}
use Rattle.h264_recon.proofs.added.add_coded_plane.Given as goal

abbrev pub invariant-loop-b : goal.invariant-loop-b
invariant-loop-b l = record {
  size : length l.samples ≡ 64;
  fit : all_below l.b (λ b. residual_fits (chroma_d l.qp (chroma.WithDc (record {
    dc = l.levels;
    ac = table 4 (λ k. shown 15 (get_or l.mb.contexts.chroma_totals (4 * l.c + k) 0) (get_or l.mb.residual.chroma_ac (4 * l.c + k) (replicate 15 (pos 0))));
  })) (b % 2) (b / 2))) ≡ true;
  added : AreBlocksAdded 8 l.b raster (λ x y. residual_at (chroma_d l.qp (chroma.WithDc (record {
    dc = l.levels;
    ac = table 4 (λ k. shown 15 (get_or l.mb.contexts.chroma_totals (4 * l.c + k) 0) (get_or l.mb.residual.chroma_ac (4 * l.c + k) (replicate 15 (pos 0))));
  })) x y)) l.fn.samples l.samples;
}
