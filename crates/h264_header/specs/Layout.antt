-- The parameter sets of a slice, and what they say of the elements of its header (7.3.3, 7.4.1.2.1). To be read beside the standard.
use Rattle.std.specs.Prelude.{ℕ, ◌≤◌, nat_le, false, Option, Some, None, if◌then◌else◌}
use Rattle.std.specs.Option.{option_and_then}
use Rattle.h264_sps.specs.declared.sps.Sps.{Sps}
use Rattle.h264_sps.specs.declared.count_type.CountType.{CountType}
use Rattle.h264_sps.specs.declared.count_type.CountType.TheVariants as count_type
use Rattle.h264_sps.specs.Usable.{is_accepted}
use Rattle.h264_pps.specs.declared.Pps.{Pps}
use Rattle.h264_sets.specs.Sets.{Maps, sps_of, pps_of}
use Rattle.h264_header.specs.declared.layout.CountElements.{CountElements}
use Rattle.h264_header.specs.declared.layout.CountElements.TheVariants.{Lsb, Deltas, ZeroDeltas, DecodingOrder}
use Rattle.h264_header.specs.declared.layout.Layout.{Layout}

abbrev pub if_accepted : Pps → Sps → Option (Pps × Sps)
if_accepted pps sps = if is_accepted sps then Some (pps, sps) else None

-- The picture parameter set of an id with the sequence parameter set that it names, if both are there.
-- There is no sequence parameter set with an id above 31, and each is one that some unit gave.
abbrev pub sps_named : Maps → Pps → Option (Pps × Sps)
sps_named maps pps = if nat_le pps.seq_parameter_set_id 31 then option_and_then (if_accepted pps) (sps_of maps pps.seq_parameter_set_id) else None

abbrev pub sets_of : Maps → ℕ → Option (Pps × Sps)
sets_of maps id = option_and_then (sps_named maps) (pps_of maps id)

-- which elements of the picture order count stand in a header
abbrev pub count_elements_of : CountType → CountElements
count_elements_of (count_type.Lsb length) = Lsb length
count_elements_of (count_type.Cycle always_zero non_ref bottom cycle) = if always_zero then ZeroDeltas else Deltas
count_elements_of count_type.DecodingOrder = DecodingOrder

abbrev pub layout_of : Pps × Sps → Layout
layout_of sets = record {
  frame_num_length = sets.1.log2_max_frame_num;
  count = count_elements_of sets.1.count_type;
  has_bottom = sets.0.bottom_field_pic_order_in_frame_present_flag;
  default_active_minus1 = sets.0.num_ref_idx_l0_default_active_minus1;
  has_weights = sets.0.weighted_pred_flag;
  has_deblocking_control = sets.0.deblocking_filter_control_present_flag;
}

abbrev pub no_layout : Layout
no_layout = record {
  frame_num_length = 0;
  count = DecodingOrder;
  has_bottom = false;
  default_active_minus1 = 0;
  has_weights = false;
  has_deblocking_control = false;
}

-- the lengths are at most 16
abbrev pub IsShortCount : CountElements → Type 0
IsShortCount (Lsb length) = length ≤ 16
IsShortCount Deltas = Unit {0}
IsShortCount ZeroDeltas = Unit {0}
IsShortCount DecodingOrder = Unit {0}

pub record IsShort (layout : Layout) : Type 0 where
  pub frame_num : layout.frame_num_length ≤ 16
  pub count : IsShortCount layout.count
