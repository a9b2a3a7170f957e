-- The deblocking filter of a slice, by its header and its picture parameter set (7.4.3). To be read beside the standard.
use Rattle.std.specs.Prelude.{◌≡◌, ℤ, pos, negsuc, ◌*ℤ◌, min}
use Rattle.h264_pps.specs.declared.Pps.{Pps}
use Rattle.h264_header.specs.declared.header.Deblocking.{Deblocking}
use Rattle.h264_header.specs.declared.header.Deblocking.TheVariants as stated
use Rattle.h264_header.specs.declared.header.FilterOffsets.{FilterOffsets}
use Rattle.h264_header.specs.declared.header.Header.{Header}
use Rattle.h264_deblock.specs.declared.slice_filter.Deblocking.{Deblocking as Edges}
use Rattle.h264_deblock.specs.declared.slice_filter.Deblocking.TheVariants.{AllEdges, Off, WithinSlice}
use Rattle.h264_deblock.specs.declared.slice_filter.SliceFilter.{SliceFilter}

-- Clip3(-6, 6, z), which is z in each header that is accepted
abbrev pub clip_6 : ℤ → ℤ
clip_6 (pos n) = pos (min n 6)
clip_6 (negsuc n) = negsuc (min n 5)

-- the offsets of this header are what they are without the clamp
abbrev pub AreStated : FilterOffsets → Type 0
AreStated offsets =
    (clip_6 offsets.slice_alpha_c0_offset_div2 ≡ offsets.slice_alpha_c0_offset_div2) × (clip_6 offsets.slice_beta_offset_div2 ≡ offsets.slice_beta_offset_div2)

abbrev pub HasOffsets : Deblocking → Type 0
HasOffsets (stated.AllEdges offsets) = AreStated offsets
HasOffsets stated.Off = Unit {0}
HasOffsets (stated.WithinSlice offsets) = AreStated offsets

-- FilterOffsetA and FilterOffsetB
abbrev pub filter_by : Edges → FilterOffsets → ℤ → SliceFilter
filter_by edges offsets chroma = record {
  deblocking = edges;
  filter_offset_a = pos 2 *ℤ clip_6 offsets.slice_alpha_c0_offset_div2;
  filter_offset_b = pos 2 *ℤ clip_6 offsets.slice_beta_offset_div2;
  chroma_qp_index_offset = chroma;
}

abbrev pub filter_in : Deblocking → ℤ → SliceFilter
filter_in (stated.AllEdges offsets) chroma = filter_by AllEdges offsets chroma
filter_in stated.Off chroma = record { deblocking = Off; filter_offset_a = pos 0; filter_offset_b = pos 0; chroma_qp_index_offset = chroma }
filter_in (stated.WithinSlice offsets) chroma = filter_by WithinSlice offsets chroma

unfoldable pub slice_filter : Pps → Header → SliceFilter
slice_filter pps h = filter_in h.deblocking pps.chroma_qp_index_offset
