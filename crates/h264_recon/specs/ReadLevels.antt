-- The levels of a macroblock, as they were read, and as its transform takes them block by block. A working form.
use Rattle.std.specs.Prelude.{◌≡◌, ℕ, ◌+◌, ◌*◌, ◌<◌, Bool, true, false, [], get_or, take, drop, replicate, ℤ, pos}
use Rattle.h264_tables.specs.ChromaQp.{chroma_qp_of}
use Rattle.h264_plane.specs.Blocks.{number_of}
use Rattle.h264_mbsyntax.specs.Stored.{shown}
use Rattle.h264_mbsyntax.specs.declared.macroblock.Kind.{Kind}
use Rattle.h264_mbsyntax.specs.declared.macroblock.Kind.TheVariants as kind
use Rattle.h264_mbsyntax.specs.declared.macroblock.Macroblock.{Macroblock}
use Rattle.h264_scale.specs.Residual.{d_of, d_with_dc}
use Rattle.h264_scale.specs.Macroblock.{luma_d, luma_dc_fits}
use Rattle.h264_scale.specs.declared.levels.LumaLevels.{LumaLevels}
use Rattle.h264_scale.specs.declared.levels.LumaLevels.TheVariants as luma
use Rattle.h264_scale.specs.declared.levels.ChromaLevels.{ChromaLevels}
use Rattle.h264_scale.specs.declared.levels.ChromaLevels.TheVariants as chroma
use Rattle.h264_scale.specs.declared.levels.Levels.{Levels}
use Rattle.h264_recon.specs.Levels.{luma_blocks, chroma_blocks}
use Rattle.h264_recon.specs.Predicted.{Prediction, Intra, Inter, Pcm}
use Rattle.h264_recon.specs.Table.{table}
use Rattle.h264_recon.specs.declared.scaled.ReadLevels.{ReadLevels}
use Rattle.h264_recon.specs.declared.scaled.LumaBlocks.{LumaBlocks}
use Rattle.h264_recon.specs.declared.scaled.LumaBlocks.TheVariants.{NotCoded, Plain, WithDc}

-- ---- of a macroblock that was read

abbrev pub luma_read : Macroblock → LumaLevels
luma_read mb = luma_blocks mb.contexts.totals (table 16 (λ k. shown 16 (get_or mb.contexts.totals k 0) (get_or mb.residual.luma k (replicate 16 (pos 0)))))

abbrev pub luma16_read : Macroblock → LumaLevels
luma16_read mb = luma.WithDc (record {
  dc = shown 16 mb.residual.luma_dc_total mb.residual.luma_dc;
  ac = table 16 (λ k. shown 15 (get_or mb.contexts.totals k 0) (get_or mb.residual.luma_ac k (replicate 15 (pos 0))));
})

unfoldable pub luma_by : Kind → Macroblock → LumaLevels
luma_by kind.Intra4x4 mb = luma_read mb
luma_by (kind.Intra16x16 mode) mb = luma16_read mb
luma_by kind.Pcm mb = luma.NotCoded
luma_by (kind.Inter partition) mb = luma_read mb

-- of Cb, 0, or of Cr, 1
abbrev pub chroma_read : ℕ → Macroblock → ChromaLevels
chroma_read c mb = chroma_blocks (take 4 (drop (4 * c) mb.contexts.chroma_totals))
    (shown 4 (get_or mb.residual.chroma_dc_totals c 0) (get_or mb.residual.chroma_dc c (replicate 4 (pos 0))))
    (table 4 (λ k. shown 15 (get_or mb.contexts.chroma_totals (4 * c + k) 0) (get_or mb.residual.chroma_ac (4 * c + k) (replicate 15 (pos 0)))))

abbrev pub is_pcm : Kind → Bool
is_pcm kind.Intra4x4 = false
is_pcm (kind.Intra16x16 mode) = false
is_pcm kind.Pcm = true
is_pcm (kind.Inter partition) = false

-- a prediction by the samples of I_PCM
abbrev pub is_of_samples : Prediction → Bool
is_of_samples (Intra modes) = false
is_of_samples (Inter motions) = false
is_of_samples (Pcm samples) = true

unfoldable pub chroma_by : Bool → ℕ → Macroblock → ChromaLevels
chroma_by true c mb = chroma.NotCoded
chroma_by false c mb = chroma_read c mb

-- with QP'Y and QP'C
unfoldable pub levels_in : ReadLevels → Levels
levels_in r = record {
  luma = luma_by r.read.now.kind r.read.now;
  cb = chroma_by (is_pcm r.read.now.kind) 0 r.read.now;
  cr = chroma_by (is_pcm r.read.now.kind) 1 r.read.now;
  qp = r.read.now.qp;
  qp_cb = chroma_qp_of r.read.now.qp r.chroma_qp_index_offset;
  qp_cr = chroma_qp_of r.read.now.qp r.chroma_qp_index_offset;
}

-- ---- block by block

-- d of a luma block (8.5.9, 8.5.10)
abbrev pub d_in : ℕ → LumaBlocks → ℕ → ℕ → ℕ → ℕ → ℤ
d_in qp NotCoded x y = d_of [] qp
d_in qp (Plain b) x y = d_of (shown 16 (get_or b.totals.now (number_of x y) 0) (get_or b.levels.now (number_of x y) (replicate 16 (pos 0)))) qp
d_in qp (WithDc b) x y = d_with_dc (get_or b.dc (4 * y + x) (pos 0))
    (shown 15 (get_or b.totals.now (number_of x y) 0) (get_or b.levels.now (number_of x y) (replicate 15 (pos 0)))) qp

-- the blocks have these levels
pub record AreBlocksOf (qp : ℕ) (blocks : LumaBlocks) (l : LumaLevels) : Type 0 where
  pub dc : luma_dc_fits qp l ≡ true
  pub each : (x y : ℕ) → x < 4 → y < 4 → d_in qp blocks x y ≡ luma_d qp l x y
