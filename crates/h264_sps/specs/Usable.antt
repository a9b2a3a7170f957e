-- To be read beside the standard. What holds of each sequence parameter set that some unit gives (7.4.2.1.1, A.3.1, E.2.1): the lengths of elements in
-- slice headers, the size of a frame, the cropping rectangle, and the picture buffer.
use Rattle.std.specs.Prelude.{ℕ, ◌+◌, ◌*◌, nat_le, nat_lt, ◌&&◌, Bool, true, Option, Some, None, unwrap_or}
use Rattle.std.specs.Option.{option_and_then, option_map, option_map_or}
use Rattle.h264_tables.specs.declared.level.Limits.{Limits}
use Rattle.h264_tables.specs.Level.{limits_of}
use Rattle.h264_sps.specs.declared.count_type.CountType.{CountType}
use Rattle.h264_sps.specs.declared.count_type.CountType.TheVariants as count_type
use Rattle.h264_sps.specs.declared.sps.FrameCropping.{FrameCropping}
use Rattle.h264_sps.specs.declared.sps.FrameSize.{FrameSize}
use Rattle.h264_sps.specs.declared.sps.Sps.{Sps}
use Rattle.h264_sps.specs.declared.vui.Vui.{Vui}
use Rattle.h264_sps.specs.declared.vui.BitstreamRestriction.{BitstreamRestriction}
use Rattle.h264_sps.specs.Sps.{max_dpb_frames}

-- the lengths of frame_num and pic_order_cnt_lsb are those that a sequence parameter set may give
abbrev pub has_count_lengths : CountType → Bool
has_count_lengths (count_type.Lsb length) = nat_le length 16
has_count_lengths (count_type.Cycle always_zero non_ref bottom cycle) = true
has_count_lengths count_type.DecodingOrder = true

abbrev pub has_lengths : Sps → Bool
has_lengths sps = nat_le sps.log2_max_frame_num 16 && has_count_lengths sps.count_type

-- a frame of some macroblocks, of no more than the greatest MaxFS, in rows and columns of no more than Sqrt(8 * MaxFS) (A.3.1)
abbrev pub is_frame_size : FrameSize → Bool
is_frame_size s = nat_lt 0 s.width && (nat_lt 0 s.height && (nat_le (s.width * s.height) 36864 && (nat_le s.width 543 && nat_le s.height 543)))

-- something is left of each row and of each column
abbrev pub is_within : FrameSize → FrameCropping → Bool
is_within size c = nat_lt (c.left + c.right) (8 * size.width) && nat_lt (c.top + c.bottom) (8 * size.height)

abbrev pub crops_within : FrameSize → Option FrameCropping → Bool
crops_within size None = true
crops_within size (Some c) = is_within size c

-- max_dec_frame_buffering, where it is given
abbrev pub given_frames : Sps → Option ℕ
given_frames sps = option_map (λ (r : BitstreamRestriction). r.max_dec_frame_buffering) (option_and_then (λ (v : Vui). v.bitstream_restriction) sps.vui)

-- MaxDpbFrames of the level and the frame size
abbrev pub dpb_frames : Sps → ℕ
dpb_frames sps = option_map_or (λ (l : Limits). max_dpb_frames l sps.frame_size) (limits_of sps.level_idc sps.constraint_set_flags.set3) 0

-- the picture buffer holds the reference frames
abbrev pub holds_references : Sps → Bool
holds_references sps = nat_le sps.max_num_ref_frames (unwrap_or (given_frames sps) (dpb_frames sps))

-- it is no larger than the level allows: max_dec_frame_buffering, where it is given, is at most MaxDpbFrames (E.2.1)
abbrev pub buffers_within : Sps → Bool
buffers_within sps = option_map_or (λ (frames : ℕ). nat_le frames (dpb_frames sps)) (given_frames sps) true

unfoldable pub is_usable : Sps → Bool
is_usable sps = is_frame_size sps.frame_size && (crops_within sps.frame_size sps.frame_cropping && (holds_references sps && buffers_within sps))

-- it is one that some unit may give
abbrev pub is_accepted : Sps → Bool
is_accepted sps = has_lengths sps && is_usable sps
