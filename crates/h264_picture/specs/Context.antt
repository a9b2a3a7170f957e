-- What macroblocks take from their slice, by its header, its parameter sets and its reference list (7.4.3, 7.4.5). To be read beside the standard.
use Rattle.std.specs.Prelude.{ℕ, ◌*◌, min, List, length, Option, None, ℤ, pos, ◌+ℤ◌, slice_get}
use Rattle.std.specs.Option.{option_and_then, option_map_or}
use Rattle.h264_tables.specs.ChromaQp.{clip_51}
use Rattle.h264_tables.specs.Level.{limits_of}
use Rattle.h264_tables.specs.declared.level.Limits.{Limits}
use Rattle.h264_sps.specs.declared.sps.Sps.{Sps}
use Rattle.h264_pps.specs.declared.Pps.{Pps}
use Rattle.h264_header.specs.declared.header.Header.{Header}
use Rattle.h264_header.specs.Header.{slice_type_of}
use Rattle.h264_lists.specs.declared.slot.RefSlot.{RefSlot}
use Rattle.h264_lists.specs.declared.slot.RefSlot.TheVariants as slot
use Rattle.h264_vectors.specs.declared.slice.SliceContext.{SliceContext}
use Rattle.h264_recon.specs.Table.{table}

-- The number of the picture in a place of the list; a frame of a gap in frame_num has none (8.2.5.2).
abbrev pub picture_in : RefSlot → Option ℕ
picture_in slot.NoPicture = None
picture_in (slot.Held frame) = frame.picture

-- SliceQPY as it is stated (7-30)
abbrev pub stated_qp : Pps → Header → ℤ
stated_qp pps h = (pos 26 +ℤ pps.pic_init_qp_minus26) +ℤ h.slice_qp_delta.value

-- SliceQPY, which lies in 0 to 51
abbrev pub slice_qp : Pps → Header → ℕ
slice_qp pps h = clip_51 (stated_qp pps h)

-- v of the level in quarter samples (A.3.1)
unfoldable pub vector_limit : Sps → ℕ
vector_limit sps = option_map_or (λ (l : Limits). 4 * l.max_vector) (limits_of sps.level_idc sps.constraint_set_flags.set3) 0

-- An I slice has an empty list.
unfoldable pub slice_context : Pps → Sps → Header → List RefSlot → SliceContext
slice_context pps sps h list = record {
  number = h.first_mb_in_slice.value;
  slice_type = slice_type_of h.kind.value;
  qp = slice_qp pps h;
  active = min (length list) 16;
  references = table 16 (λ k. option_and_then picture_in (slice_get list k));
  constrained_intra = pps.constrained_intra_pred_flag;
  chroma_qp_index_offset = pps.chroma_qp_index_offset;
  vector_limit = vector_limit sps;
}
