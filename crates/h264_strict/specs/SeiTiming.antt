-- The syntax of messages that need a sequence parameter set (D.1, D.2). To be read beside the standard.
-- They are buffering_period() and pic_timing(); and the set that they need.
use Rattle.std.specs.Prelude.{ℕ, zero, suc, ◌+◌, ◌-◌, ◌*◌, ◌^◌, ◌==◌, ◌&&◌, ◌||◌, Bool, false, not, min, nat_le, if◌then◌else◌}
use Rattle.std.specs.Prelude.{get_or, Option, None, Some, Result, Ok, Err}
use Rattle.h264_base.specs.Body.{Body}
use Rattle.h264_base.specs.Run.{run}
use Rattle.h264_base.specs.declared.mode.Target.TheVariants.{MainIP}
use Rattle.h264_base.specs.declared.stop.Stop.{Stop}
use Rattle.h264_sps.specs.Hrd.{no_cpb}
use Rattle.h264_sps.specs.Sps.{sps}
use Rattle.h264_sps.specs.declared.hrd.Cpb.{Cpb}
use Rattle.h264_sps.specs.declared.hrd.Hrd.{Hrd}
use Rattle.h264_sps.specs.declared.sps.Sps.{Sps}
use Rattle.h264_sps.specs.declared.vui.Timing.{Timing}
use Rattle.h264_sps.specs.declared.vui.Vui.{Vui}
use Rattle.h264_strict.specs.SeiContent.{any}
use Rattle.h264_strict.specs.SeiPart.{Part, ◌>>=◌, give, must, u, ue, u_to, when, times}
use Rattle.h264_strict.specs.declared.sei.timing.FirstDelays.{FirstDelays}
use Rattle.h264_strict.specs.declared.sei.timing.InitialDelay.{InitialDelay}
use Rattle.h264_strict.specs.declared.sei.timing.KnownSet.{KnownSet}
use Rattle.h264_strict.specs.declared.sei.timing.KnownSet.TheVariants.{NotYet, One, Unknown}

-- ---- what a set says

abbrev pub nal_of : Option Vui → Option Hrd
nal_of None = None
nal_of (Some vui) = vui.nal_hrd

abbrev pub vcl_of : Option Vui → Option Hrd
vcl_of None = None
vcl_of (Some vui) = vui.vcl_hrd

abbrev pub has_pic_struct : Option Vui → Bool
has_pic_struct None = false
has_pic_struct (Some vui) = vui.pic_struct_present_flag

-- fixed_frame_rate_flag; 0 is inferred
abbrev pub is_fixed : Option Timing → Bool
is_fixed None = false
is_fixed (Some timing) = timing.fixed_frame_rate_flag

abbrev pub has_fixed_rate : Option Vui → Bool
has_fixed_rate None = false
has_fixed_rate (Some vui) = is_fixed vui.timing

-- NAL HRD parameters, or else those of VCL; their lengths are the same where both are there
abbrev pub or_else : Option Hrd → Option Hrd → Option Hrd
or_else (Some hrd) other = Some hrd
or_else None other = other

abbrev pub hrd_of : Option Vui → Option Hrd
hrd_of vui = or_else (nal_of vui) (vcl_of vui)

-- the numbers of bits are told in 5 bits
abbrev pub five_bits : ℕ → ℕ
five_bits n = min n 31

-- ---- buffering_period()

-- BitRate and CpbSize of a schedule (E.2.2): (value_minus1 + 1) * 2 ^ (exponent + scale), where the scale has 4 bits
abbrev pub scaled : (exponent scale : ℕ) → ℕ → ℕ
scaled exponent scale value_minus1 = (value_minus1 + 1) * 2 ^ (exponent + min scale 15)

abbrev pub bit_rate : Hrd → Cpb → ℕ
bit_rate hrd cpb = scaled 6 hrd.bit_rate_scale cpb.bit_rate_value_minus1

abbrev pub cpb_size : Hrd → Cpb → ℕ
cpb_size hrd cpb = scaled 4 hrd.cpb_size_scale cpb.cpb_size_value_minus1

-- A delay before the first removal is not 0, and at most 90000 * CpbSize / BitRate, the time in which the buffer fills.
abbrev pub is_delay : Hrd → Cpb → ℕ → Bool
is_delay hrd cpb delay = not (delay == 0) && nat_le (delay * bit_rate hrd cpb) (90000 * cpb_size hrd cpb)

-- initial_cpb_removal_delay and initial_cpb_removal_delay_offset of a schedule
abbrev pub initial_delay : Hrd → Cpb → Part InitialDelay
initial_delay hrd cpb = do
  initial_cpb_removal_delay ← u (five_bits hrd.initial_cpb_removal_delay_length_minus1 + 1)
  _ ← must (is_delay hrd cpb initial_cpb_removal_delay)
  initial_cpb_removal_delay_offset ← u (five_bits hrd.initial_cpb_removal_delay_length_minus1 + 1)
  give (record { delay = initial_cpb_removal_delay; offset = initial_cpb_removal_delay_offset })

-- the delays of so many schedules, from this SchedSelIdx on
unfoldable pub delays_from : Hrd → ℕ → ℕ → Part (Unit {0})
delays_from hrd zero i = give tt
delays_from hrd (suc n) i = do
  _ ← initial_delay hrd (get_or hrd.cpbs.entries i no_cpb)
  delays_from hrd n (i + 1)

-- the delays of each SchedSelIdx, of which there are at most 32; it gives those of SchedSelIdx 0
abbrev pub delays_of : Hrd → Part InitialDelay
delays_of hrd = do
  first ← initial_delay hrd (get_or hrd.cpbs.entries 0 no_cpb)
  _ ← delays_from hrd (min hrd.cpbs.count 32 - 1) 1
  give first

-- where the HRD parameters are there
abbrev pub initial_delays : Option Hrd → Part (Option InitialDelay)
initial_delays None = give None
initial_delays (Some hrd) = do
  first ← delays_of hrd
  give (Some first)

-- It gives the delays of SchedSelIdx 0.
abbrev pub buffering_period : Sps → Part FirstDelays
buffering_period set = do
  seq_parameter_set_id ← ue
  _ ← must (seq_parameter_set_id == set.seq_parameter_set_id)
  nal ← initial_delays (nal_of set.vui)
  vcl ← initial_delays (vcl_of set.vui)
  give (record { nal = nal; vcl = vcl })

-- ---- pic_timing()

-- cpb_removal_delay, which it gives, and dpb_output_delay, where there are HRD parameters
abbrev pub delays : Option Hrd → Part (Option ℕ)
delays None = give None
delays (Some hrd) = do
  cpb_removal_delay ← u (five_bits hrd.cpb_removal_delay_length_minus1 + 1)
  _ ← any (five_bits hrd.dpb_output_delay_length_minus1 + 1)
  give (Some cpb_removal_delay)

-- time_offset_length; 24 is inferred
abbrev pub offset_length : Option Hrd → ℕ
offset_length None = 24
offset_length (Some hrd) = five_bits hrd.time_offset_length

abbrev pub hours_value : Part (Unit {0})
hours_value = do
  _ ← u_to 5 23
  give tt

-- hours_flag, and hours_value where it is 1
abbrev pub hours : Part (Unit {0})
hours = do
  hours_flag ← u 1
  when (hours_flag == 1) hours_value

abbrev pub minutes_and_hours : Part (Unit {0})
minutes_and_hours = do
  minutes_value ← u_to 6 59
  hours

-- minutes_flag, and what follows where it is 1
abbrev pub minutes : Part (Unit {0})
minutes = do
  minutes_flag ← u 1
  when (minutes_flag == 1) minutes_and_hours

abbrev pub seconds_and_minutes : Part (Unit {0})
seconds_and_minutes = do
  seconds_value ← u_to 6 59
  minutes

abbrev pub seconds : Part (Unit {0})
seconds = do
  seconds_flag ← u 1
  when (seconds_flag == 1) seconds_and_minutes

-- where full_timestamp_flag is 1
abbrev pub full_time : Part (Unit {0})
full_time = do
  seconds_value ← u_to 6 59
  minutes_value ← u_to 6 59
  hours_value ← u_to 5 23
  give tt

abbrev pub time : (full_timestamp_flag : ℕ) → Part (Unit {0})
time full_timestamp_flag bytes i = if full_timestamp_flag == 1 then full_time bytes i else seconds bytes i

-- nuit_field_based_flag is the bit after ct_type; discontinuity_flag, cnt_dropped_flag and n_frames are the 10 bits
abbrev pub timestamp : (offset : ℕ) → Part (Unit {0})
timestamp offset = do
  ct_type ← u_to 2 2
  _ ← u 1
  counting_type ← u_to 5 6
  full_timestamp_flag ← u 1
  _ ← u 10
  _ ← time full_timestamp_flag
  any offset

abbrev pub clock_timestamp : (offset : ℕ) → Part (Unit {0})
clock_timestamp offset = do
  clock_timestamp_flag ← u 1
  when (clock_timestamp_flag == 1) (timestamp offset)

-- NumClockTS (table D-1)
abbrev pub num_clock_ts : ℕ → ℕ
num_clock_ts pic_struct = if nat_le pic_struct 2 then 1 else (if nat_le pic_struct 4 || (pic_struct == 7) then 2 else 3)

-- What table D-1 lets a frame be, and each picture of this profile is one: 1 and 2 show a single field, and 7 and 8, which show a frame two and three times,
-- ask for a fixed frame rate.
abbrev pub fits_frame : (has_fixed_rate : Bool) → (pic_struct : ℕ) → Bool
fits_frame fixed pic_struct = (pic_struct == 0) || nat_le 3 pic_struct && (nat_le pic_struct 6 || fixed)

abbrev pub structure : (has_fixed_rate : Bool) → (offset : ℕ) → Part (Unit {0})
structure fixed offset = do
  pic_struct ← u_to 4 8
  _ ← must (fits_frame fixed pic_struct)
  times (num_clock_ts pic_struct) (clock_timestamp offset)

-- It gives cpb_removal_delay.
abbrev pub pic_timing : Sps → Part (Option ℕ)
pic_timing set = do
  cpb_removal_delay ← delays (hrd_of set.vui)
  _ ← when (has_pic_struct set.vui) (structure (has_fixed_rate set.vui) (offset_length (hrd_of set.vui)))
  give cpb_removal_delay

-- ---- the set that messages need

-- with one more set
abbrev pub with_one : KnownSet → Sps → KnownSet
with_one NotYet set = One set
with_one (One other) set = if other.seq_parameter_set_id == set.seq_parameter_set_id then One set else Unknown
with_one Unknown set = Unknown

-- one more was read, or could not be
abbrev pub with_set : KnownSet → Result (Sps × ℕ) Stop → KnownSet
with_set known (Err stop) = Unknown
with_set known (Ok x) = with_one known x.0

-- The only set, after a unit of type 7 with this RBSP: the last one as long as all have one seq_parameter_set_id.
abbrev pub known_after : KnownSet → Body → KnownSet
known_after known body = with_set known (run (sps MainIP) body 0).answer
