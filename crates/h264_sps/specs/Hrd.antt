-- hrd_parameters() (E.1.2). To be read beside the standard.
use Rattle.std.specs.Prelude.{◌+◌, ◌-◌, false, List, [], ◌++◌, length, replicate}
use Rattle.h264_base.specs.declared.element_name.ElementName.TheVariants.{CpbCntMinus1, BitRateScale, CpbSizeScale, BitRateValueMinus1, CpbSizeValueMinus1}
use Rattle.h264_base.specs.declared.element_name.ElementName.TheVariants.{CbrFlag, InitialCpbRemovalDelayLengthMinus1, CpbRemovalDelayLengthMinus1}
use Rattle.h264_base.specs.declared.element_name.ElementName.TheVariants.{DpbOutputDelayLengthMinus1, TimeOffsetLength}
use Rattle.h264_base.specs.Grammar.{Grammar, Done, ◌>>=◌}
use Rattle.h264_bits.specs.Forms.{unsigned_to, unsigned, bits, flag, repeated}
use Rattle.h264_sps.specs.declared.hrd.Cpb.{Cpb}
use Rattle.h264_sps.specs.declared.hrd.Cpbs.{Cpbs}
use Rattle.h264_sps.specs.declared.hrd.Hrd.{Hrd}

unfoldable pub cpb : Grammar Cpb
cpb = do
  bit_rate ← unsigned BitRateValueMinus1
  size ← unsigned CpbSizeValueMinus1
  constant ← flag CbrFlag
  Done (record { bit_rate_value_minus1 = bit_rate; cpb_size_value_minus1 = size; cbr_flag = constant })

abbrev pub no_cpb : Cpb
no_cpb = record { bit_rate_value_minus1 = 0; cpb_size_value_minus1 = 0; cbr_flag = false }

-- the buffers, and zeros in the places after them
abbrev pub cpbs_of : List Cpb → Cpbs
cpbs_of cpbs = record { entries = cpbs ++ replicate (32 - length cpbs) no_cpb; count = length cpbs }

unfoldable pub hrd : Grammar Hrd
hrd = do
  count_minus1 ← unsigned_to CpbCntMinus1 31
  bit_rate_scale ← bits BitRateScale 4
  size_scale ← bits CpbSizeScale 4
  cpbs ← repeated cpb [] (count_minus1 + 1)
  initial ← bits InitialCpbRemovalDelayLengthMinus1 5
  removal ← bits CpbRemovalDelayLengthMinus1 5
  output ← bits DpbOutputDelayLengthMinus1 5
  offset ← bits TimeOffsetLength 5
  Done (record {
    bit_rate_scale = bit_rate_scale;
    cpb_size_scale = size_scale;
    cpbs = cpbs_of cpbs;
    initial_cpb_removal_delay_length_minus1 = initial;
    cpb_removal_delay_length_minus1 = removal;
    dpb_output_delay_length_minus1 = output;
    time_offset_length = offset;
  })
