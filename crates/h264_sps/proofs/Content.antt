-- Sequence parameter sets that the code finds equal have one content.
use Rattle.std.proofs.Common.{◌≡◌, ℕ, ℤ, Bool, true, false, ◌&&◌, Option, Some, None, List, [], ◌∷◌, refl, ap}
use Rattle.std.proofs.lemmas.Bool.Decides.{Decides-and, Decides-like, Decides-eqb, Decides-int_eq}
use Rattle.std.specs.Bool.{Decides}
use Rattle.std.specs.Option.{option_eq}
use mathlib.Core.Bool.{beq}
use lib.Pointwise.{pointwise}
use Rattle.h264_sps.specs.declared.sps.ConstraintSetFlags.{ConstraintSetFlags}
use Rattle.h264_sps.specs.contracts.sps.ConstraintSetFlagsPartialEq.TheImpl as eq_constraint_set_flags
use Rattle.h264_sps.specs.declared.sps.FrameSize.{FrameSize}
use Rattle.h264_sps.specs.contracts.sps.FrameSizePartialEq.TheImpl as eq_frame_size
use Rattle.h264_sps.specs.declared.sps.FrameCropping.{FrameCropping}
use Rattle.h264_sps.specs.contracts.sps.FrameCroppingPartialEq.TheImpl as eq_frame_cropping
use Rattle.h264_sps.specs.declared.vui.ExtendedRatio.{ExtendedRatio}
use Rattle.h264_sps.specs.contracts.vui.ExtendedRatioPartialEq.TheImpl as eq_extended_ratio
use Rattle.h264_sps.specs.declared.vui.SampleAspectRatio.{SampleAspectRatio}
use Rattle.h264_sps.specs.contracts.vui.SampleAspectRatioPartialEq.TheImpl as eq_sample_aspect_ratio
use Rattle.h264_sps.specs.declared.vui.ColourDescription.{ColourDescription}
use Rattle.h264_sps.specs.contracts.vui.ColourDescriptionPartialEq.TheImpl as eq_colour_description
use Rattle.h264_sps.specs.declared.vui.VideoSignalType.{VideoSignalType}
use Rattle.h264_sps.specs.contracts.vui.VideoSignalTypePartialEq.TheImpl as eq_video_signal_type
use Rattle.h264_sps.specs.declared.vui.ChromaLocation.{ChromaLocation}
use Rattle.h264_sps.specs.contracts.vui.ChromaLocationPartialEq.TheImpl as eq_chroma_location
use Rattle.h264_sps.specs.declared.vui.Timing.{Timing}
use Rattle.h264_sps.specs.contracts.vui.TimingPartialEq.TheImpl as eq_timing
use Rattle.h264_sps.specs.declared.hrd.Cpb.{Cpb}
use Rattle.h264_sps.specs.contracts.hrd.CpbPartialEq.TheImpl as eq_cpb
use Rattle.h264_sps.specs.declared.hrd.Cpbs.{Cpbs}
use Rattle.h264_sps.specs.contracts.hrd.CpbsPartialEq.TheImpl as eq_cpbs
use Rattle.h264_sps.specs.declared.hrd.Hrd.{Hrd}
use Rattle.h264_sps.specs.contracts.hrd.HrdPartialEq.TheImpl as eq_hrd
use Rattle.h264_sps.specs.declared.vui.BitstreamRestriction.{BitstreamRestriction}
use Rattle.h264_sps.specs.contracts.vui.BitstreamRestrictionPartialEq.TheImpl as eq_bitstream_restriction
use Rattle.h264_sps.specs.declared.vui.Vui.{Vui}
use Rattle.h264_sps.specs.contracts.vui.VuiPartialEq.TheImpl as eq_vui
use Rattle.h264_sps.specs.declared.count_type.Cycle.{Cycle}
use Rattle.h264_sps.specs.contracts.count_type.CyclePartialEq.TheImpl as eq_cycle
use Rattle.h264_sps.specs.declared.sps.Sps.{Sps}
use Rattle.h264_sps.specs.contracts.sps.SpsPartialEq.TheImpl as eq_sps
use Rattle.h264_sps.specs.declared.count_type.CountType.{CountType}
use Rattle.h264_sps.specs.contracts.count_type.CountTypePartialEq.TheImpl as eq_count_type
use Rattle.h264_sps.specs.declared.count_type.CountType.TheVariants as kind

decides-flag : (x y : Bool) → Decides (beq x y) (x ≡ y)
decides-flag true true = (λ _. refl, λ _. refl)
decides-flag true false = (λ h. absurd (cc), λ h. absurd (cc))
decides-flag false true = (λ h. absurd (cc), λ h. absurd (cc))
decides-flag false false = (λ _. refl, λ _. refl)

decides-option : {T : Type 0} (E : T → T → Bool) → ((x y : T) → Decides (E x y) (x ≡ y)) → (a b : Option T) → Decides (option_eq E a b) (a ≡ b)
decides-option E each None None = (λ _. refl, λ _. refl)
decides-option E each None (Some y) = (λ h. absurd (cc), λ h. absurd (cc))
decides-option E each (Some x) None = (λ h. absurd (cc), λ h. absurd (cc))
decides-option E each (Some x) (Some y) = (λ h. ap Some ((each x y).0 h), λ e. (each x y).1 (cc))

decides-list : {T : Type 0} (E : T → T → Bool) → ((x y : T) → Decides (E x y) (x ≡ y)) → (a b : List T) → Decides (pointwise E a b) (a ≡ b)
decides-list E each [] [] = (λ _. refl, λ _. refl)
decides-list E each [] (y ∷ ys) = (λ h. absurd (cc), λ h. absurd (cc))
decides-list E each (x ∷ xs) [] = (λ h. absurd (cc), λ h. absurd (cc))
decides-list E each (x ∷ xs) (y ∷ ys) =
    let rest = decides-list E each xs ys in
    Decides-like (E x y && pointwise E xs ys) (λ h. cons-same x y xs ys h.0 h.1) (λ e. (head-same x y xs ys e, tail-same x y xs ys e))
    (Decides-and (E x y) (pointwise E xs ys) (each x y) rest)
  where
    cons-same : {T : Type 0} (x y : T) (xs ys : List T) → x ≡ y → xs ≡ ys → (x ∷ xs) ≡ (y ∷ ys)
    cons-same x y xs ys e f = cc

    head-same : {T : Type 0} (x y : T) (xs ys : List T) → (x ∷ xs) ≡ (y ∷ ys) → x ≡ y
    head-same x y xs ys e = cc

    tail-same : {T : Type 0} (x y : T) (xs ys : List T) → (x ∷ xs) ≡ (y ∷ ys) → xs ≡ ys
    tail-same x y xs ys e = cc

same-constraint_set_flags : (a0 b0 : Bool) (a1 b1 : Bool) (a2 b2 : Bool) (a3 b3 : Bool) (a4 b4 : Bool) (a5 b5 : Bool) → a0 ≡ b0 → a1 ≡ b1 → a2 ≡ b2 →
    a3 ≡ b3 → a4 ≡ b4 → a5 ≡ b5 → (let s : ConstraintSetFlags = record { set0 = a0; set1 = a1; set2 = a2; set3 = a3; set4 = a4; set5 = a5 } in s) ≡
    record { set0 = b0; set1 = b1; set2 = b2; set3 = b3; set4 = b4; set5 = b5 }
same-constraint_set_flags a0 b0 a1 b1 a2 b2 a3 b3 a4 b4 a5 b5 e0 e1 e2 e3 e4 e5 = cc

decides-constraint_set_flags : (a b : ConstraintSetFlags) → Decides (eq_constraint_set_flags.ghosts.eq a b) (a ≡ b)
decides-constraint_set_flags a b = Decides-like _
    (λ h. same-constraint_set_flags a.set0 b.set0 a.set1 b.set1 a.set2 b.set2 a.set3 b.set3 a.set4 b.set4 a.set5 b.set5 h.0 h.1.0 h.1.1.0 h.1.1.1.0
    h.1.1.1.1.0 h.1.1.1.1.1) (λ e. (
      ap (λ (s : ConstraintSetFlags). s.set0) e,
      (
        ap (λ (s : ConstraintSetFlags). s.set1) e,
        (
          ap (λ (s : ConstraintSetFlags). s.set2) e,
          (ap (λ (s : ConstraintSetFlags). s.set3) e, (ap (λ (s : ConstraintSetFlags). s.set4) e, ap (λ (s : ConstraintSetFlags). s.set5) e)),
        ),
      ),
    ))
    (Decides-and _ _ (decides-flag a.set0 b.set0)
    (Decides-and _ _ (decides-flag a.set1 b.set1)
    (Decides-and _ _ (decides-flag a.set2 b.set2)
    (Decides-and _ _ (decides-flag a.set3 b.set3) (Decides-and _ _ (decides-flag a.set4 b.set4) (decides-flag a.set5 b.set5))))))

same-frame_size : (a0 b0 : ℕ) (a1 b1 : ℕ) → a0 ≡ b0 → a1 ≡ b1 →
    (let s : FrameSize = record { width = a0; height = a1 } in s) ≡ record { width = b0; height = b1 }
same-frame_size a0 b0 a1 b1 e0 e1 = cc

decides-frame_size : (a b : FrameSize) → Decides (eq_frame_size.ghosts.eq a b) (a ≡ b)
decides-frame_size a b = Decides-like _ (λ h. same-frame_size a.width b.width a.height b.height h.0 h.1)
    (λ e. (ap (λ (s : FrameSize). s.width) e, ap (λ (s : FrameSize). s.height) e))
    (Decides-and _ _ (Decides-eqb a.width b.width) (Decides-eqb a.height b.height))

same-frame_cropping : (a0 b0 : ℕ) (a1 b1 : ℕ) (a2 b2 : ℕ) (a3 b3 : ℕ) → a0 ≡ b0 → a1 ≡ b1 → a2 ≡ b2 → a3 ≡ b3 →
    (let s : FrameCropping = record { left = a0; right = a1; top = a2; bottom = a3 } in s) ≡ record { left = b0; right = b1; top = b2; bottom = b3 }
same-frame_cropping a0 b0 a1 b1 a2 b2 a3 b3 e0 e1 e2 e3 = cc

decides-frame_cropping : (a b : FrameCropping) → Decides (eq_frame_cropping.ghosts.eq a b) (a ≡ b)
decides-frame_cropping a b = Decides-like _ (λ h. same-frame_cropping a.left b.left a.right b.right a.top b.top a.bottom b.bottom h.0 h.1.0 h.1.1.0 h.1.1.1)
    (λ e. (
      ap (λ (s : FrameCropping). s.left) e,
      (ap (λ (s : FrameCropping). s.right) e, (ap (λ (s : FrameCropping). s.top) e, ap (λ (s : FrameCropping). s.bottom) e)),
    ))
    (Decides-and _ _ (Decides-eqb a.left b.left)
    (Decides-and _ _ (Decides-eqb a.right b.right) (Decides-and _ _ (Decides-eqb a.top b.top) (Decides-eqb a.bottom b.bottom))))

same-extended_ratio : (a0 b0 : ℕ) (a1 b1 : ℕ) → a0 ≡ b0 → a1 ≡ b1 →
    (let s : ExtendedRatio = record { sar_width = a0; sar_height = a1 } in s) ≡ record { sar_width = b0; sar_height = b1 }
same-extended_ratio a0 b0 a1 b1 e0 e1 = cc

decides-extended_ratio : (a b : ExtendedRatio) → Decides (eq_extended_ratio.ghosts.eq a b) (a ≡ b)
decides-extended_ratio a b = Decides-like _ (λ h. same-extended_ratio a.sar_width b.sar_width a.sar_height b.sar_height h.0 h.1)
    (λ e. (ap (λ (s : ExtendedRatio). s.sar_width) e, ap (λ (s : ExtendedRatio). s.sar_height) e))
    (Decides-and _ _ (Decides-eqb a.sar_width b.sar_width) (Decides-eqb a.sar_height b.sar_height))

same-sample_aspect_ratio : (a0 b0 : ℕ) (a1 b1 : Option ExtendedRatio) → a0 ≡ b0 → a1 ≡ b1 →
    (let s : SampleAspectRatio = record { aspect_ratio_idc = a0; extended = a1 } in s) ≡ record { aspect_ratio_idc = b0; extended = b1 }
same-sample_aspect_ratio a0 b0 a1 b1 e0 e1 = cc

decides-sample_aspect_ratio : (a b : SampleAspectRatio) → Decides (eq_sample_aspect_ratio.ghosts.eq a b) (a ≡ b)
decides-sample_aspect_ratio a b = Decides-like _ (λ h. same-sample_aspect_ratio a.aspect_ratio_idc b.aspect_ratio_idc a.extended b.extended h.0 h.1)
    (λ e. (ap (λ (s : SampleAspectRatio). s.aspect_ratio_idc) e, ap (λ (s : SampleAspectRatio). s.extended) e))
    (Decides-and _ _ (Decides-eqb a.aspect_ratio_idc b.aspect_ratio_idc) (decides-option _ decides-extended_ratio a.extended b.extended))

same-colour_description : (a0 b0 : ℕ) (a1 b1 : ℕ) (a2 b2 : ℕ) → a0 ≡ b0 → a1 ≡ b1 → a2 ≡ b2 →
    (let s : ColourDescription = record { colour_primaries = a0; transfer_characteristics = a1; matrix_coefficients = a2 } in s) ≡
    record { colour_primaries = b0; transfer_characteristics = b1; matrix_coefficients = b2 }
same-colour_description a0 b0 a1 b1 a2 b2 e0 e1 e2 = cc

decides-colour_description : (a b : ColourDescription) → Decides (eq_colour_description.ghosts.eq a b) (a ≡ b)
decides-colour_description a b = Decides-like _
    (λ h. same-colour_description a.colour_primaries b.colour_primaries a.transfer_characteristics b.transfer_characteristics a.matrix_coefficients
    b.matrix_coefficients h.0 h.1.0 h.1.1) (λ
    e. (
      ap (λ (s : ColourDescription). s.colour_primaries) e,
      (ap (λ (s : ColourDescription). s.transfer_characteristics) e, ap (λ (s : ColourDescription). s.matrix_coefficients) e),
    ))
    (Decides-and _ _ (Decides-eqb a.colour_primaries b.colour_primaries)
    (Decides-and _ _ (Decides-eqb a.transfer_characteristics b.transfer_characteristics) (Decides-eqb a.matrix_coefficients b.matrix_coefficients)))

same-video_signal_type : (a0 b0 : ℕ) (a1 b1 : Bool) (a2 b2 : Option ColourDescription) → a0 ≡ b0 → a1 ≡ b1 → a2 ≡ b2 →
    (let s : VideoSignalType = record { video_format = a0; video_full_range_flag = a1; colour_description = a2 } in s) ≡
    record { video_format = b0; video_full_range_flag = b1; colour_description = b2 }
same-video_signal_type a0 b0 a1 b1 a2 b2 e0 e1 e2 = cc

decides-video_signal_type : (a b : VideoSignalType) → Decides (eq_video_signal_type.ghosts.eq a b) (a ≡ b)
decides-video_signal_type a b = Decides-like _
    (λ h. same-video_signal_type a.video_format b.video_format a.video_full_range_flag b.video_full_range_flag a.colour_description b.colour_description h.0
    h.1.0 h.1.1) (λ e. (
      ap (λ (s : VideoSignalType). s.video_format) e,
      (ap (λ (s : VideoSignalType). s.video_full_range_flag) e, ap (λ (s : VideoSignalType). s.colour_description) e),
    ))
    (Decides-and _ _ (Decides-eqb a.video_format b.video_format)
    (Decides-and _ _ (decides-flag a.video_full_range_flag b.video_full_range_flag)
    (decides-option _ decides-colour_description a.colour_description b.colour_description)))

same-chroma_location : (a0 b0 : ℕ) (a1 b1 : ℕ) → a0 ≡ b0 → a1 ≡ b1 →
    (let s : ChromaLocation = record { top_field = a0; bottom_field = a1 } in s) ≡ record { top_field = b0; bottom_field = b1 }
same-chroma_location a0 b0 a1 b1 e0 e1 = cc

decides-chroma_location : (a b : ChromaLocation) → Decides (eq_chroma_location.ghosts.eq a b) (a ≡ b)
decides-chroma_location a b = Decides-like _ (λ h. same-chroma_location a.top_field b.top_field a.bottom_field b.bottom_field h.0 h.1)
    (λ e. (ap (λ (s : ChromaLocation). s.top_field) e, ap (λ (s : ChromaLocation). s.bottom_field) e))
    (Decides-and _ _ (Decides-eqb a.top_field b.top_field) (Decides-eqb a.bottom_field b.bottom_field))

same-timing : (a0 b0 : ℕ) (a1 b1 : ℕ) (a2 b2 : Bool) → a0 ≡ b0 → a1 ≡ b1 → a2 ≡ b2 →
    (let s : Timing = record { num_units_in_tick = a0; time_scale = a1; fixed_frame_rate_flag = a2 } in s) ≡
    record { num_units_in_tick = b0; time_scale = b1; fixed_frame_rate_flag = b2 }
same-timing a0 b0 a1 b1 a2 b2 e0 e1 e2 = cc

decides-timing : (a b : Timing) → Decides (eq_timing.ghosts.eq a b) (a ≡ b)
decides-timing a b = Decides-like _ (λ h. same-timing a.num_units_in_tick b.num_units_in_tick a.time_scale b.time_scale a.fixed_frame_rate_flag
    b.fixed_frame_rate_flag h.0 h.1.0 h.1.1)
    (λ e. (ap (λ (s : Timing). s.num_units_in_tick) e, (ap (λ (s : Timing). s.time_scale) e, ap (λ (s : Timing). s.fixed_frame_rate_flag) e)))
    (Decides-and _ _ (Decides-eqb a.num_units_in_tick b.num_units_in_tick)
    (Decides-and _ _ (Decides-eqb a.time_scale b.time_scale) (decides-flag a.fixed_frame_rate_flag b.fixed_frame_rate_flag)))

same-cpb : (a0 b0 : ℕ) (a1 b1 : ℕ) (a2 b2 : Bool) → a0 ≡ b0 → a1 ≡ b1 → a2 ≡ b2 →
    (let s : Cpb = record { bit_rate_value_minus1 = a0; cpb_size_value_minus1 = a1; cbr_flag = a2 } in s) ≡
    record { bit_rate_value_minus1 = b0; cpb_size_value_minus1 = b1; cbr_flag = b2 }
same-cpb a0 b0 a1 b1 a2 b2 e0 e1 e2 = cc

decides-cpb : (a b : Cpb) → Decides (eq_cpb.ghosts.eq a b) (a ≡ b)
decides-cpb a b = Decides-like _ (λ h. same-cpb a.bit_rate_value_minus1 b.bit_rate_value_minus1 a.cpb_size_value_minus1 b.cpb_size_value_minus1 a.cbr_flag
    b.cbr_flag h.0 h.1.0 h.1.1) (λ e. (
      ap (λ (s : Cpb). s.bit_rate_value_minus1) e,
      (ap (λ (s : Cpb). s.cpb_size_value_minus1) e, ap (λ (s : Cpb). s.cbr_flag) e),
    ))
    (Decides-and _ _ (Decides-eqb a.bit_rate_value_minus1 b.bit_rate_value_minus1)
    (Decides-and _ _ (Decides-eqb a.cpb_size_value_minus1 b.cpb_size_value_minus1) (decides-flag a.cbr_flag b.cbr_flag)))

same-cpbs : (a0 b0 : List Cpb) (a1 b1 : ℕ) → a0 ≡ b0 → a1 ≡ b1 → (let s : Cpbs = record { entries = a0; count = a1 } in s) ≡ record { entries = b0; count = b1 }
same-cpbs a0 b0 a1 b1 e0 e1 = cc

decides-cpbs : (a b : Cpbs) → Decides (eq_cpbs.ghosts.eq a b) (a ≡ b)
decides-cpbs a b = Decides-like _ (λ h. same-cpbs a.entries b.entries a.count b.count h.0 h.1)
    (λ e. (ap (λ (s : Cpbs). s.entries) e, ap (λ (s : Cpbs). s.count) e))
    (Decides-and _ _ (decides-list _ decides-cpb a.entries b.entries) (Decides-eqb a.count b.count))

same-hrd : (a0 b0 : ℕ) (a1 b1 : ℕ) (a2 b2 : Cpbs) (a3 b3 : ℕ) (a4 b4 : ℕ) (a5 b5 : ℕ) (a6 b6 : ℕ) → a0 ≡ b0 → a1 ≡ b1 → a2 ≡ b2 → a3 ≡ b3 → a4 ≡ b4 →
    a5 ≡ b5 → a6 ≡ b6 → (let s : Hrd = record {
      bit_rate_scale = a0;
      cpb_size_scale = a1;
      cpbs = a2;
      initial_cpb_removal_delay_length_minus1 = a3;
      cpb_removal_delay_length_minus1 = a4;
      dpb_output_delay_length_minus1 = a5;
      time_offset_length = a6;
    } in s) ≡
    record {
      bit_rate_scale = b0;
      cpb_size_scale = b1;
      cpbs = b2;
      initial_cpb_removal_delay_length_minus1 = b3;
      cpb_removal_delay_length_minus1 = b4;
      dpb_output_delay_length_minus1 = b5;
      time_offset_length = b6;
    }
same-hrd a0 b0 a1 b1 a2 b2 a3 b3 a4 b4 a5 b5 a6 b6 e0 e1 e2 e3 e4 e5 e6 = cc

decides-hrd : (a b : Hrd) → Decides (eq_hrd.ghosts.eq a b) (a ≡ b)
decides-hrd a b = Decides-like _ (λ h. same-hrd a.bit_rate_scale b.bit_rate_scale a.cpb_size_scale b.cpb_size_scale a.cpbs b.cpbs
    a.initial_cpb_removal_delay_length_minus1 b.initial_cpb_removal_delay_length_minus1 a.cpb_removal_delay_length_minus1 b.cpb_removal_delay_length_minus1
    a.dpb_output_delay_length_minus1 b.dpb_output_delay_length_minus1 a.time_offset_length b.time_offset_length h.0 h.1.0 h.1.1.0 h.1.1.1.0 h.1.1.1.1.0
    h.1.1.1.1.1.0 h.1.1.1.1.1.1) (λ e. (
      ap (λ (s : Hrd). s.bit_rate_scale) e,
      (
        ap (λ (s : Hrd). s.cpb_size_scale) e,
        (
          ap (λ (s : Hrd). s.cpbs) e,
          (
            ap (λ (s : Hrd). s.initial_cpb_removal_delay_length_minus1) e,
            (
              ap (λ (s : Hrd). s.cpb_removal_delay_length_minus1) e,
              (ap (λ (s : Hrd). s.dpb_output_delay_length_minus1) e, ap (λ (s : Hrd). s.time_offset_length) e),
            ),
          ),
        ),
      ),
    ))
    (Decides-and _ _ (Decides-eqb a.bit_rate_scale b.bit_rate_scale)
    (Decides-and _ _ (Decides-eqb a.cpb_size_scale b.cpb_size_scale)
    (Decides-and _ _ (decides-cpbs a.cpbs b.cpbs)
    (Decides-and _ _ (Decides-eqb a.initial_cpb_removal_delay_length_minus1 b.initial_cpb_removal_delay_length_minus1)
    (Decides-and _ _ (Decides-eqb a.cpb_removal_delay_length_minus1 b.cpb_removal_delay_length_minus1)
    (Decides-and _ _ (Decides-eqb a.dpb_output_delay_length_minus1 b.dpb_output_delay_length_minus1)
    (Decides-eqb a.time_offset_length b.time_offset_length)))))))

same-bitstream_restriction : (a0 b0 : Bool) (a1 b1 : ℕ) (a2 b2 : ℕ) (a3 b3 : ℕ) (a4 b4 : ℕ) (a5 b5 : ℕ) (a6 b6 : ℕ) → a0 ≡ b0 → a1 ≡ b1 → a2 ≡ b2 → a3 ≡ b3 →
    a4 ≡ b4 → a5 ≡ b5 → a6 ≡ b6 → (let s : BitstreamRestriction =
    record {
      motion_vectors_over_pic_boundaries_flag = a0;
      max_bytes_per_pic_denom = a1;
      max_bits_per_mb_denom = a2;
      log2_max_mv_length_horizontal = a3;
      log2_max_mv_length_vertical = a4;
      max_num_reorder_frames = a5;
      max_dec_frame_buffering = a6;
    } in s) ≡
    record {
      motion_vectors_over_pic_boundaries_flag = b0;
      max_bytes_per_pic_denom = b1;
      max_bits_per_mb_denom = b2;
      log2_max_mv_length_horizontal = b3;
      log2_max_mv_length_vertical = b4;
      max_num_reorder_frames = b5;
      max_dec_frame_buffering = b6;
    }
same-bitstream_restriction a0 b0 a1 b1 a2 b2 a3 b3 a4 b4 a5 b5 a6 b6 e0 e1 e2 e3 e4 e5 e6 = cc

decides-bitstream_restriction : (a b : BitstreamRestriction) → Decides (eq_bitstream_restriction.ghosts.eq a b) (a ≡ b)
decides-bitstream_restriction a b = Decides-like _
    (λ h. same-bitstream_restriction a.motion_vectors_over_pic_boundaries_flag b.motion_vectors_over_pic_boundaries_flag a.max_bytes_per_pic_denom
    b.max_bytes_per_pic_denom a.max_bits_per_mb_denom b.max_bits_per_mb_denom a.log2_max_mv_length_horizontal b.log2_max_mv_length_horizontal
    a.log2_max_mv_length_vertical b.log2_max_mv_length_vertical a.max_num_reorder_frames b.max_num_reorder_frames a.max_dec_frame_buffering
    b.max_dec_frame_buffering h.0 h.1.0 h.1.1.0 h.1.1.1.0 h.1.1.1.1.0 h.1.1.1.1.1.0 h.1.1.1.1.1.1)
    (λ e. (
      ap (λ (s : BitstreamRestriction). s.motion_vectors_over_pic_boundaries_flag) e,
      (
        ap (λ (s : BitstreamRestriction). s.max_bytes_per_pic_denom) e,
        (
          ap (λ (s : BitstreamRestriction). s.max_bits_per_mb_denom) e,
          (
            ap (λ (s : BitstreamRestriction). s.log2_max_mv_length_horizontal) e,
            (
              ap (λ (s : BitstreamRestriction). s.log2_max_mv_length_vertical) e,
              (ap (λ (s : BitstreamRestriction). s.max_num_reorder_frames) e, ap (λ (s : BitstreamRestriction). s.max_dec_frame_buffering) e),
            ),
          ),
        ),
      ),
    ))
    (Decides-and _ _ (decides-flag a.motion_vectors_over_pic_boundaries_flag b.motion_vectors_over_pic_boundaries_flag)
    (Decides-and _ _ (Decides-eqb a.max_bytes_per_pic_denom b.max_bytes_per_pic_denom)
    (Decides-and _ _ (Decides-eqb a.max_bits_per_mb_denom b.max_bits_per_mb_denom)
    (Decides-and _ _ (Decides-eqb a.log2_max_mv_length_horizontal b.log2_max_mv_length_horizontal)
    (Decides-and _ _ (Decides-eqb a.log2_max_mv_length_vertical b.log2_max_mv_length_vertical)
    (Decides-and _ _ (Decides-eqb a.max_num_reorder_frames b.max_num_reorder_frames) (Decides-eqb a.max_dec_frame_buffering b.max_dec_frame_buffering)))))))

same-vui : (a0 b0 : Option SampleAspectRatio) (a1 b1 : Option Bool) (a2 b2 : Option VideoSignalType) (a3 b3 : Option ChromaLocation) (a4 b4 : Option Timing)
    (a5 b5 : Option Hrd) (a6 b6 : Option Hrd) (a7 b7 : Option Bool) (a8 b8 : Bool) (a9 b9 : Option BitstreamRestriction) → a0 ≡ b0 → a1 ≡ b1 → a2 ≡ b2 →
    a3 ≡ b3 → a4 ≡ b4 → a5 ≡ b5 → a6 ≡ b6 → a7 ≡ b7 → a8 ≡ b8 → a9 ≡ b9 →
    (let s : Vui = record {
      sample_aspect_ratio = a0;
      overscan_appropriate_flag = a1;
      video_signal_type = a2;
      chroma_location = a3;
      timing = a4;
      nal_hrd = a5;
      vcl_hrd = a6;
      low_delay_hrd_flag = a7;
      pic_struct_present_flag = a8;
      bitstream_restriction = a9;
    } in s) ≡
    record {
      sample_aspect_ratio = b0;
      overscan_appropriate_flag = b1;
      video_signal_type = b2;
      chroma_location = b3;
      timing = b4;
      nal_hrd = b5;
      vcl_hrd = b6;
      low_delay_hrd_flag = b7;
      pic_struct_present_flag = b8;
      bitstream_restriction = b9;
    }
same-vui a0 b0 a1 b1 a2 b2 a3 b3 a4 b4 a5 b5 a6 b6 a7 b7 a8 b8 a9 b9 e0 e1 e2 e3 e4 e5 e6 e7 e8 e9 = cc

decides-vui : (a b : Vui) → Decides (eq_vui.ghosts.eq a b) (a ≡ b)
decides-vui a b = Decides-like _ (λ h. same-vui a.sample_aspect_ratio b.sample_aspect_ratio a.overscan_appropriate_flag b.overscan_appropriate_flag
    a.video_signal_type b.video_signal_type a.chroma_location b.chroma_location a.timing b.timing a.nal_hrd b.nal_hrd a.vcl_hrd b.vcl_hrd a.low_delay_hrd_flag
    b.low_delay_hrd_flag a.pic_struct_present_flag b.pic_struct_present_flag a.bitstream_restriction b.bitstream_restriction h.0 h.1.0 h.1.1.0 h.1.1.1.0
    h.1.1.1.1.0 h.1.1.1.1.1.0 h.1.1.1.1.1.1.0 h.1.1.1.1.1.1.1.0 h.1.1.1.1.1.1.1.1.0 h.1.1.1.1.1.1.1.1.1)
    (λ e. (
      ap (λ (s : Vui). s.sample_aspect_ratio) e,
      (
        ap (λ (s : Vui). s.overscan_appropriate_flag) e,
        (
          ap (λ (s : Vui). s.video_signal_type) e,
          (
            ap (λ (s : Vui). s.chroma_location) e,
            (
              ap (λ (s : Vui). s.timing) e,
              (
                ap (λ (s : Vui). s.nal_hrd) e,
                (
                  ap (λ (s : Vui). s.vcl_hrd) e,
                  (ap (λ (s : Vui). s.low_delay_hrd_flag) e, (ap (λ (s : Vui). s.pic_struct_present_flag) e, ap (λ (s : Vui). s.bitstream_restriction) e)),
                ),
              ),
            ),
          ),
        ),
      ),
    ))
    (Decides-and _ _ (decides-option _ decides-sample_aspect_ratio a.sample_aspect_ratio b.sample_aspect_ratio)
    (Decides-and _ _ (decides-option _ decides-flag a.overscan_appropriate_flag b.overscan_appropriate_flag)
    (Decides-and _ _ (decides-option _ decides-video_signal_type a.video_signal_type b.video_signal_type)
    (Decides-and _ _ (decides-option _ decides-chroma_location a.chroma_location b.chroma_location)
    (Decides-and _ _ (decides-option _ decides-timing a.timing b.timing)
    (Decides-and _ _ (decides-option _ decides-hrd a.nal_hrd b.nal_hrd)
    (Decides-and _ _ (decides-option _ decides-hrd a.vcl_hrd b.vcl_hrd)
    (Decides-and _ _ (decides-option _ decides-flag a.low_delay_hrd_flag b.low_delay_hrd_flag)
    (Decides-and _ _ (decides-flag a.pic_struct_present_flag b.pic_struct_present_flag)
    (decides-option _ decides-bitstream_restriction a.bitstream_restriction b.bitstream_restriction))))))))))

same-cycle : (a0 b0 : List ℤ) (a1 b1 : ℕ) → a0 ≡ b0 → a1 ≡ b1 →
    (let s : Cycle = record { offset_for_ref_frame = a0; length = a1 } in s) ≡ record { offset_for_ref_frame = b0; length = b1 }
same-cycle a0 b0 a1 b1 e0 e1 = cc

decides-cycle : (a b : Cycle) → Decides (eq_cycle.ghosts.eq a b) (a ≡ b)
decides-cycle a b = Decides-like _ (λ h. same-cycle a.offset_for_ref_frame b.offset_for_ref_frame a.length b.length h.0 h.1)
    (λ e. (ap (λ (s : Cycle). s.offset_for_ref_frame) e, ap (λ (s : Cycle). s.length) e))
    (Decides-and _ _ (decides-list _ Decides-int_eq a.offset_for_ref_frame b.offset_for_ref_frame) (Decides-eqb a.length b.length))

-- the two ways to count that have values
same-lsb : (a b : ℕ) → a ≡ b → kind.Lsb a ≡ kind.Lsb b
same-lsb a b e = cc

lsb-same : (a b : ℕ) → kind.Lsb a ≡ kind.Lsb b → a ≡ b
lsb-same a b e = cc

same-cycles : (a0 b0 : Bool) (a1 b1 a2 b2 : ℤ) (a3 b3 : Cycle) → a0 ≡ b0 → a1 ≡ b1 → a2 ≡ b2 → a3 ≡ b3 → kind.Cycle a0 a1 a2 a3 ≡ kind.Cycle b0 b1 b2 b3
same-cycles a0 b0 a1 b1 a2 b2 a3 b3 e0 e1 e2 e3 = cc

cycles-same : (a0 b0 : Bool) (a1 b1 a2 b2 : ℤ) (a3 b3 : Cycle) → kind.Cycle a0 a1 a2 a3 ≡ kind.Cycle b0 b1 b2 b3 → (a0 ≡ b0) ×
    ((a1 ≡ b1) × ((a2 ≡ b2) × (a3 ≡ b3)))
cycles-same a0 b0 a1 b1 a2 b2 a3 b3 e = (cc, (cc, (cc, cc)))

decides-count_type : (a b : CountType) → Decides (eq_count_type.ghosts.eq a b) (a ≡ b)
decides-count_type (kind.Lsb a) (kind.Lsb b) = Decides-like _ (same-lsb a b) (lsb-same a b) (Decides-eqb a b)
decides-count_type (kind.Lsb a) (kind.Cycle b0 b1 b2 b3) = (λ h. absurd (cc), λ h. absurd (cc))
decides-count_type (kind.Lsb a) kind.DecodingOrder = (λ h. absurd (cc), λ h. absurd (cc))
decides-count_type (kind.Cycle a0 a1 a2 a3) (kind.Lsb b) = (λ h. absurd (cc), λ h. absurd (cc))
decides-count_type (kind.Cycle a0 a1 a2 a3) (kind.Cycle b0 b1 b2 b3) =
    Decides-like _ (λ h. same-cycles a0 b0 a1 b1 a2 b2 a3 b3 h.0 h.1.0 h.1.1.0 h.1.1.1) (cycles-same a0 b0 a1 b1 a2 b2 a3 b3)
    (Decides-and _ _ (decides-flag a0 b0) (Decides-and _ _ (Decides-int_eq a1 b1) (Decides-and _ _ (Decides-int_eq a2 b2) (decides-cycle a3 b3))))
decides-count_type (kind.Cycle a0 a1 a2 a3) kind.DecodingOrder = (λ h. absurd (cc), λ h. absurd (cc))
decides-count_type kind.DecodingOrder (kind.Lsb b) = (λ h. absurd (cc), λ h. absurd (cc))
decides-count_type kind.DecodingOrder (kind.Cycle b0 b1 b2 b3) = (λ h. absurd (cc), λ h. absurd (cc))
decides-count_type kind.DecodingOrder kind.DecodingOrder = (λ _. refl, λ _. refl)

same-sps : (a0 b0 : ℕ) (a1 b1 : ConstraintSetFlags) (a2 b2 : ℕ) (a3 b3 : ℕ) (a4 b4 : ℕ) (a5 b5 : ℕ) (a6 b6 : CountType) (a7 b7 : ℕ) (a8 b8 : Bool)
    (a9 b9 : FrameSize) (a10 b10 : Bool) (a11 b11 : Option FrameCropping) (a12 b12 : Option Vui) → a0 ≡ b0 → a1 ≡ b1 → a2 ≡ b2 → a3 ≡ b3 → a4 ≡ b4 → a5 ≡ b5 →
    a6 ≡ b6 → a7 ≡ b7 → a8 ≡ b8 → a9 ≡ b9 → a10 ≡ b10 → a11 ≡ b11 → a12 ≡ b12 →
    (let s : Sps = record {
      profile_idc = a0;
      constraint_set_flags = a1;
      reserved_zero_2bits = a2;
      level_idc = a3;
      seq_parameter_set_id = a4;
      log2_max_frame_num = a5;
      count_type = a6;
      max_num_ref_frames = a7;
      gaps_in_frame_num_value_allowed_flag = a8;
      frame_size = a9;
      direct_8x8_inference_flag = a10;
      frame_cropping = a11;
      vui = a12;
    } in s) ≡
    record {
      profile_idc = b0;
      constraint_set_flags = b1;
      reserved_zero_2bits = b2;
      level_idc = b3;
      seq_parameter_set_id = b4;
      log2_max_frame_num = b5;
      count_type = b6;
      max_num_ref_frames = b7;
      gaps_in_frame_num_value_allowed_flag = b8;
      frame_size = b9;
      direct_8x8_inference_flag = b10;
      frame_cropping = b11;
      vui = b12;
    }
same-sps a0 b0 a1 b1 a2 b2 a3 b3 a4 b4 a5 b5 a6 b6 a7 b7 a8 b8 a9 b9 a10 b10 a11 b11 a12 b12 e0 e1 e2 e3 e4 e5 e6 e7 e8 e9 e10 e11 e12 = cc

pub decides-sps : (a b : Sps) → Decides (eq_sps.ghosts.eq a b) (a ≡ b)
decides-sps a b = Decides-like _ (λ h. same-sps a.profile_idc b.profile_idc a.constraint_set_flags b.constraint_set_flags a.reserved_zero_2bits
    b.reserved_zero_2bits a.level_idc b.level_idc a.seq_parameter_set_id b.seq_parameter_set_id a.log2_max_frame_num b.log2_max_frame_num a.count_type
    b.count_type a.max_num_ref_frames b.max_num_ref_frames a.gaps_in_frame_num_value_allowed_flag b.gaps_in_frame_num_value_allowed_flag a.frame_size
    b.frame_size a.direct_8x8_inference_flag b.direct_8x8_inference_flag a.frame_cropping b.frame_cropping a.vui b.vui h.0 h.1.0 h.1.1.0 h.1.1.1.0 h.1.1.1.1.0
    h.1.1.1.1.1.0 h.1.1.1.1.1.1.0 h.1.1.1.1.1.1.1.0 h.1.1.1.1.1.1.1.1.0 h.1.1.1.1.1.1.1.1.1.0 h.1.1.1.1.1.1.1.1.1.1.0 h.1.1.1.1.1.1.1.1.1.1.1.0
    h.1.1.1.1.1.1.1.1.1.1.1.1) (λ e. (
      ap (λ (s : Sps). s.profile_idc) e,
      (
        ap (λ (s : Sps). s.constraint_set_flags) e,
        (
          ap (λ (s : Sps). s.reserved_zero_2bits) e,
          (
            ap (λ (s : Sps). s.level_idc) e,
            (
              ap (λ (s : Sps). s.seq_parameter_set_id) e,
              (
                ap (λ (s : Sps). s.log2_max_frame_num) e,
                (
                  ap (λ (s : Sps). s.count_type) e,
                  (
                    ap (λ (s : Sps). s.max_num_ref_frames) e,
                    (
                      ap (λ (s : Sps). s.gaps_in_frame_num_value_allowed_flag) e,
                      (
                        ap (λ (s : Sps). s.frame_size) e,
                        (
                          ap (λ (s : Sps). s.direct_8x8_inference_flag) e,
                          (ap (λ (s : Sps). s.frame_cropping) e, ap (λ (s : Sps). s.vui) e),
                        ),
                      ),
                    ),
                  ),
                ),
              ),
            ),
          ),
        ),
      ),
    ))
    (Decides-and _ _ (Decides-eqb a.profile_idc b.profile_idc)
    (Decides-and _ _ (decides-constraint_set_flags a.constraint_set_flags b.constraint_set_flags)
    (Decides-and _ _ (Decides-eqb a.reserved_zero_2bits b.reserved_zero_2bits)
    (Decides-and _ _ (Decides-eqb a.level_idc b.level_idc)
    (Decides-and _ _ (Decides-eqb a.seq_parameter_set_id b.seq_parameter_set_id)
    (Decides-and _ _ (Decides-eqb a.log2_max_frame_num b.log2_max_frame_num)
    (Decides-and _ _ (decides-count_type a.count_type b.count_type)
    (Decides-and _ _ (Decides-eqb a.max_num_ref_frames b.max_num_ref_frames)
    (Decides-and _ _ (decides-flag a.gaps_in_frame_num_value_allowed_flag b.gaps_in_frame_num_value_allowed_flag)
    (Decides-and _ _ (decides-frame_size a.frame_size b.frame_size)
    (Decides-and _ _ (decides-flag a.direct_8x8_inference_flag b.direct_8x8_inference_flag)
    (Decides-and _ _ (decides-option _ decides-frame_cropping a.frame_cropping b.frame_cropping) (decides-option _ decides-vui a.vui b.vui)))))))))))))
