-- The schedules of HRD parameters (E.1.2, E.2.2), and what a level allows of them (A.3.1). To be read beside the standard.
use Rattle.std.specs.Prelude.{ℕ, ◌+◌, ◌*◌, ◌-◌, ◌^◌, ◌==◌, ◌&&◌, ◌||◌, Bool, true, false, not, nat_lt, nat_le, min}
use Rattle.std.specs.Prelude.{if◌then◌else◌, Option, None, Some}
use Rattle.h264_base.specs.declared.element_name.ElementName.{ElementName}
use Rattle.h264_base.specs.declared.element_name.ElementName.TheVariants as names
use Rattle.h264_bits.specs.Counts.{grown}
use Rattle.h264_strict.specs.StrictLevels.{bit_limits}
use Rattle.h264_strict.specs.declared.strict_levels.BitLimits.{BitLimits}
use Rattle.h264_strict.specs.declared.strict_schedules.Schedules.{Schedules}

-- a product, counted in 64 bits
abbrev pub times : ℕ → ℕ → ℕ
times n k = min (n * k) (2 ^ 64 - 1)

-- before the first parameters
abbrev pub no_schedules : Schedules
no_schedules = record {
  is_nal = false;
  cpb_cnt_minus1 = 0;
  bit_rate_scale = 0;
  cpb_size_scale = 0;
  sched_sel_idx = 0;
  last_rate = None;
  last_size = None;
  bit_rate = 0;
  is_kept = false;
}

-- ---- the order of schedules (E.2.2)

-- a schedule after the first has a greater bit_rate_value_minus1
abbrev pub rises_not : Option ℕ → ℕ → Bool
rises_not None value = false
rises_not (Some last) value = nat_le value last

-- and no greater cpb_size_value_minus1
abbrev pub rises : Option ℕ → ℕ → Bool
rises None value = false
rises (Some last) value = nat_lt last value

-- ---- what a level allows

-- (value_minus1 + 1) * 2 ^ (exponent + scale), where the scale has 4 bits (E.1.2)
abbrev pub scaled : (exponent : ℕ) → (scale : ℕ) → ℕ → ℕ
scaled exponent scale value_minus1 = times (grown value_minus1 1) (2 ^ (exponent + min scale 15))

-- BitRate of bit_rate_value_minus1, in bits a second, and CpbSize of cpb_size_value_minus1, in bits (E.2.2)
abbrev pub bit_rate_of : Schedules → ℕ → ℕ
bit_rate_of s value_minus1 = scaled 6 s.bit_rate_scale value_minus1

abbrev pub cpb_size_of : Schedules → ℕ → ℕ
cpb_size_of s value_minus1 = scaled 4 s.cpb_size_scale value_minus1

-- cpbBrNalFactor and cpbBrVclFactor of Baseline, Main and Extended: how many bits a unit of MaxBR and MaxCPB has
abbrev pub bits_of_unit : (is_nal : Bool) → ℕ
bits_of_unit is_nal = if is_nal then 1200 else 1000

-- The schedule whose cpb_size_value_minus1 is read keeps to both limits; a level that is none has no limits.
abbrev pub keeps : Option BitLimits → Schedules → ℕ → Bool
keeps None s value_minus1 = true
keeps (Some limits) s value_minus1 =
    nat_le s.bit_rate (bits_of_unit s.is_nal * limits.max_br) && nat_le (cpb_size_of s value_minus1) (bits_of_unit s.is_nal * limits.max_cpb)

-- The cpb_size_value_minus1 of the last schedule is read, and no SchedSelIdx keeps to the limits (A.3.1).
abbrev pub none_keeps : Option BitLimits → Schedules → ℕ → Bool
none_keeps limits s value_minus1 = (s.sched_sel_idx == s.cpb_cnt_minus1) && not (s.is_kept || keeps limits s value_minus1)

-- ---- what the elements so far leave, in a set of this level

unfoldable pub schedules_after : (level_idc : ℕ) → (set3 : Bool) → Schedules → ElementName → ℕ → Schedules
schedules_after level_idc set3 s names.NalHrdParametersPresentFlag v = record s { is_nal = true }
schedules_after level_idc set3 s names.VclHrdParametersPresentFlag v = record s { is_nal = false }
schedules_after level_idc set3 s names.CpbCntMinus1 v =
    record s { cpb_cnt_minus1 = v; sched_sel_idx = 0; last_rate = None; last_size = None; is_kept = false }
schedules_after level_idc set3 s names.BitRateScale v = record s { bit_rate_scale = v }
schedules_after level_idc set3 s names.CpbSizeScale v = record s { cpb_size_scale = v }
schedules_after level_idc set3 s names.BitRateValueMinus1 v = record s { last_rate = Some v; bit_rate = bit_rate_of s v }
schedules_after level_idc set3 s names.CpbSizeValueMinus1 v = record s {
  last_size = Some v;
  sched_sel_idx = grown s.sched_sel_idx 1;
  is_kept = s.is_kept || keeps (bit_limits level_idc set3) s v;
}
schedules_after level_idc set3 s name v = s
