-- The levels of a coded macroblock, as its transform takes them (8.5). To be read beside the standard.
use Rattle.std.specs.Prelude.{ℕ, ◌+◌, ◌*◌, ◌&&◌, Bool, List, [], get_or, take, drop, ℤ, pos, if◌then◌else◌}
use Rattle.std.specs.Ordering.{int_eq}
use Rattle.std.specs.List.{list_all}
use Rattle.h264_tables.specs.ChromaQp.{chroma_qp_of}
use Rattle.h264_near.specs.Coded.{CodedMacroblock, Prediction, Intra4x4, Intra16x16, Pcm, Inter, Residual, are_blank}
use Rattle.h264_scale.specs.declared.levels.LumaLevels.{LumaLevels}
use Rattle.h264_scale.specs.declared.levels.LumaLevels.TheVariants as luma
use Rattle.h264_scale.specs.declared.levels.ChromaLevels.{ChromaLevels}
use Rattle.h264_scale.specs.declared.levels.ChromaLevels.TheVariants as chroma
use Rattle.h264_scale.specs.declared.levels.Levels.{Levels}
use Rattle.h264_recon.specs.Table.{table}

-- so many blocks of levels from the one with number b on
abbrev pub blocks_from : ℕ → ℕ → List (List ℤ) → List (List ℤ)
blocks_from b n levels = table n (λ k. get_or levels (b + k) [])

abbrev pub are_zero : List ℤ → Bool
are_zero levels = list_all (λ l. int_eq l (pos 0)) levels

-- LumaLevel4x4; blocks without a coefficient have no levels
unfoldable pub luma_blocks : List ℕ → List (List ℤ) → LumaLevels
luma_blocks totals blocks = if are_blank totals then luma.NotCoded else luma.Blocks blocks

unfoldable pub luma_levels : Prediction → List ℕ → Residual → LumaLevels
luma_levels (Intra4x4 modes mode) totals r = luma_blocks totals (blocks_from 0 16 r.luma)
luma_levels (Intra16x16 mode chroma_mode) totals r = luma.WithDc (record { dc = r.luma_dc; ac = blocks_from 0 16 r.luma })
luma_levels (Pcm samples) totals r = luma.NotCoded
luma_levels (Inter motions) totals r = luma_blocks totals (blocks_from 0 16 r.luma)

-- ChromaDCLevel and ChromaACLevel of a plane
unfoldable pub chroma_blocks : List ℕ → List ℤ → List (List ℤ) → ChromaLevels
chroma_blocks totals dc ac = if are_zero dc && are_blank totals then chroma.NotCoded else chroma.WithDc (record { dc = dc; ac = ac })

-- of Cb, 0, or of Cr, 1
abbrev pub plane_levels : ℕ → List ℕ → Residual → ChromaLevels
plane_levels c totals r = chroma_blocks (take 4 (drop (4 * c) totals)) (get_or r.chroma_dc c []) (blocks_from (4 * c) 4 r.chroma)

unfoldable pub chroma_levels : ℕ → Prediction → List ℕ → Residual → ChromaLevels
chroma_levels c (Intra4x4 modes mode) totals r = plane_levels c totals r
chroma_levels c (Intra16x16 mode chroma_mode) totals r = plane_levels c totals r
chroma_levels c (Pcm samples) totals r = chroma.NotCoded
chroma_levels c (Inter motions) totals r = plane_levels c totals r

-- with QP'Y and QP'C, by chroma_qp_index_offset (8.5.8)
unfoldable pub levels_of : ℤ → CodedMacroblock → Levels
levels_of offset m = record {
  luma = luma_levels m.prediction m.totals m.residual;
  cb = chroma_levels 0 m.prediction m.chroma_totals m.residual;
  cr = chroma_levels 1 m.prediction m.chroma_totals m.residual;
  qp = m.qp;
  qp_cb = chroma_qp_of m.qp offset;
  qp_cr = chroma_qp_of m.qp offset;
}
