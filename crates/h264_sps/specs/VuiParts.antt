-- A working form. Parts of the structures that stand whole in Hrd and Vui: what the functions meet that read a structure part by part. Each `.._from_..`
-- is the rest of a structure, from the named element on.
use Rattle.std.specs.Prelude.{ℕ, nat_le, ◌&&◌, ◌||◌, Bool, Result, Ok, Err, Option, Some}
use Rattle.std.specs.Option.{is_some}
use Rattle.h264_base.specs.declared.element_name.ElementName.TheVariants.{NalHrdParametersPresentFlag, VclHrdParametersPresentFlag, LowDelayHrdFlag}
use Rattle.h264_base.specs.declared.element_name.ElementName.TheVariants.{PicStructPresentFlag, BitstreamRestrictionFlag}
use Rattle.h264_base.specs.Grammar.{Grammar, Done, ◌>>=◌}
use Rattle.h264_base.specs.declared.stop.Stop.{Stop}
use Rattle.h264_bits.specs.Forms.{flag, optional}
use Rattle.h264_sps.specs.declared.vui.Frames.{Frames}
use Rattle.h264_sps.specs.declared.vui.Shown.{Shown}
use Rattle.h264_sps.specs.declared.vui.Vui.{Vui as VuiParameters}
use Rattle.h264_sps.specs.Hrd.{hrd}
use Rattle.h264_sps.specs.Vui.{flagged, bitstream_restriction}

-- what was read of a part that is there
abbrev pub there : {T : Type 0} → Result T Stop → Result (Option T) Stop
there (Ok x) = Ok (Some x)
there (Err e) = Err e

-- a picture buffer of so many frames holds the reference frames and those that are reordered, and the level allows it
abbrev pub is_buffering_allowed : Frames → ℕ → ℕ → Bool
is_buffering_allowed frames reorder buffering =
    nat_le reorder buffering && (nat_le frames.max_num_ref_frames buffering && nat_le buffering frames.max_dpb_frames)

unfoldable pub vui_from_hrd : Shown → Frames → Grammar VuiParameters
vui_from_hrd shown frames = do
  nal ← flagged (flag NalHrdParametersPresentFlag) hrd
  vcl ← flagged (flag VclHrdParametersPresentFlag) hrd
  low_delay ← optional (is_some nal || is_some vcl) (flag LowDelayHrdFlag)
  pic_struct ← flag PicStructPresentFlag
  restriction ← flagged (flag BitstreamRestrictionFlag) (bitstream_restriction frames.max_num_ref_frames frames.max_dpb_frames)
  Done (record {
    sample_aspect_ratio = shown.ratio;
    overscan_appropriate_flag = shown.overscan;
    video_signal_type = shown.signal;
    chroma_location = shown.location;
    timing = shown.time;
    nal_hrd = nal;
    vcl_hrd = vcl;
    low_delay_hrd_flag = low_delay;
    pic_struct_present_flag = pic_struct;
    bitstream_restriction = restriction;
  })
