use Rattle.std.proofs.Common.{◌≡◌, ◌+◌, ◌*◌, ◌/◌, ◌%◌, get_or, replicate, pos, true}
use Rattle.h264_mbsyntax.specs.Stored.{shown}
use Rattle.h264_scale.specs.Residual.{residual_fits}
use Rattle.h264_scale.specs.Macroblock.{chroma_d, all_below}
use Rattle.h264_scale.specs.declared.levels.ChromaLevels.TheVariants as chroma
use Rattle.h264_recon.specs.Table.{table}
use Rattle.h264_recon.proofs.range.coded_plane_fits.Given as goal

abbrev pub invariant-loop-b : goal.invariant-loop-b
invariant-loop-b l = all_below l.b (λ b. residual_fits (chroma_d l.qp (chroma.WithDc (record {
  dc = l.levels;
  ac = table 4 (λ k. shown 15 (get_or l.mb.contexts.chroma_totals (4 * l.c + k) 0) (get_or l.mb.residual.chroma_ac (4 * l.c + k) (replicate 15 (pos 0))));
})) (b % 2) (b / 2))) ≡ true
