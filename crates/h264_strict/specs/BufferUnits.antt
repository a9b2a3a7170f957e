-- Access units as the coded picture buffer sees them (C.1, 7.4.1.2.3), and what each breaks. To be read beside the standard.
use Rattle.std.specs.Prelude.{ℕ, ◌-◌, ◌*◌, ◌==◌, ◌&&◌, ◌||◌, Bool, false, nat_lt, nat_le, if◌then◌else◌, List, [], ◌++◌, length, get_or}
use Rattle.std.specs.Prelude.{Option, None, Some}
use Rattle.h264_sps.specs.Hrd.{no_cpb}
use Rattle.h264_sps.specs.declared.hrd.Cpb.{Cpb}
use Rattle.h264_sps.specs.declared.hrd.Hrd.{Hrd}
use Rattle.h264_sps.specs.declared.sps.Sps.{Sps}
use Rattle.h264_sps.specs.declared.vui.Timing.{Timing}
use Rattle.h264_sps.specs.declared.vui.Vui.{Vui}
use Rattle.h264_units.specs.Stream.{NalUnit, past}
use Rattle.h264_strict.specs.Buffer.{step, lack_of}
use Rattle.h264_bits.specs.Counts.{grown}
use Rattle.h264_strict.specs.SeiTimes.{no_times, times_more}
use Rattle.h264_strict.specs.SeiTiming.{nal_of, vcl_of, bit_rate, cpb_size}
use Rattle.h264_strict.specs.Strict.{bits_for}
use Rattle.h264_strict.specs.StrictBytes.{kind_of}
use Rattle.h264_strict.specs.StrictLevels.{max_mbps, min_cr}
use Rattle.h264_strict.specs.StrictRules.{broken_if, listed}
use Rattle.h264_strict.specs.declared.buffer.Coded.{Coded}
use Rattle.h264_strict.specs.declared.buffer.Lack.{Lack}
use Rattle.h264_strict.specs.declared.buffer.Lack.TheVariants.{NoParameters, OtherUnit}
use Rattle.h264_strict.specs.declared.buffer.Pace.{Pace}
use Rattle.h264_strict.specs.declared.buffer.Rates.{Rates}
use Rattle.h264_strict.specs.declared.buffer.Step.{Step}
use Rattle.h264_strict.specs.declared.buffer.Watch.TheVariants.{Before, Off}
use Rattle.h264_strict.specs.declared.buffer_units.AccessUnit.{AccessUnit}
use Rattle.h264_strict.specs.declared.buffer_units.Buffer.{Buffer}
use Rattle.h264_strict.specs.declared.buffer_units.Ended.{Ended}
use Rattle.h264_strict.specs.declared.buffer_units.Came.{Came}
use Rattle.h264_strict.specs.declared.buffer_units.Watches.{Watches}
use Rattle.h264_strict.specs.declared.sei.times.TimesTold.{TimesTold}
use Rattle.h264_strict.specs.declared.sei.timing.FirstDelays.{FirstDelays}
use Rattle.h264_strict.specs.declared.sei.timing.InitialDelay.{InitialDelay}
use Rattle.h264_strict.specs.declared.sei.timing.KnownSet.{KnownSet}
use Rattle.h264_strict.specs.declared.sei.timing.KnownSet.TheVariants.{NotYet, One, Unknown}
use Rattle.h264_strict.specs.declared.strict_rule.StrictRule.{StrictRule}
use Rattle.h264_strict.specs.declared.strict_rule.StrictRule.TheVariants as rules

-- ---- what a set says of the schedule with SchedSelIdx 0 (E.2.1, E.2.2)

abbrev pub is_set : Option Bool → Bool
is_set None = false
is_set (Some flag) = flag

abbrev pub rates_by : Hrd → Cpb → Timing → (low_delay : Bool) → Rates
rates_by hrd cpb timing low_delay = record {
  bit_rate = bit_rate hrd cpb;
  cpb_size = cpb_size hrd cpb;
  cbr_flag = cpb.cbr_flag;
  low_delay_hrd_flag = low_delay;
  num_units_in_tick = timing.num_units_in_tick;
  time_scale = timing.time_scale;
}

-- where the VUI has times, which are not 0
abbrev pub timed_rates : Option Timing → (low_delay : Bool) → Hrd → Option Rates
timed_rates None low_delay hrd = None
timed_rates (Some timing) low_delay hrd =
    if (timing.num_units_in_tick == 0) || (timing.time_scale == 0) then None else Some (rates_by hrd (get_or hrd.cpbs.entries 0 no_cpb) timing low_delay)

abbrev pub rates_of : Option Vui → Option Hrd → Option Rates
rates_of None hrd = None
rates_of (Some vui) None = None
rates_of (Some vui) (Some hrd) = timed_rates vui.timing (is_set vui.low_delay_hrd_flag) hrd

-- by the NAL HRD parameters of the only set, and by its VCL HRD parameters
abbrev pub nal_rates : KnownSet → Option Rates
nal_rates (One set) = rates_of set.vui (nal_of set.vui)
nal_rates NotYet = None
nal_rates Unknown = None

abbrev pub vcl_rates : KnownSet → Option Rates
vcl_rates (One set) = rates_of set.vui (vcl_of set.vui)
vcl_rates NotYet = None
vcl_rates Unknown = None

-- what the level of the only set asks of the time after a picture (A.3.1)
abbrev pub pace_by : Sps → Option ℕ → Option Pace
pace_by set None = None
pace_by set (Some mbps) = Some (record { pic_size_in_mbs = set.frame_size.width * set.frame_size.height; max_mbps = mbps; min_cr = min_cr set.level_idc })

abbrev pub pace_of : KnownSet → Option Pace
pace_of (One set) = pace_by set (max_mbps set.level_idc set.constraint_set_flags.set3)
pace_of NotYet = None
pace_of Unknown = None

-- ---- an access unit as a whole

abbrev pub nal_delay : Option FirstDelays → Option InitialDelay
nal_delay None = None
nal_delay (Some delays) = delays.nal

abbrev pub vcl_delay : Option FirstDelays → Option InitialDelay
vcl_delay None = None
vcl_delay (Some delays) = delays.vcl

-- All bytes of the byte stream from its first on, up to this place, arrive in the buffer of NAL HRD parameters.
abbrev pub to_nal : KnownSet → AccessUnit → (end : ℕ) → Coded
to_nal set unit end = record {
  rates = nal_rates set;
  bytes = end - unit.from;
  slice_bytes = unit.slice_bytes;
  initial = nal_delay unit.times.period;
  removal = unit.times.removal;
  pace = pace_of set;
}

-- The bytes of its slices and of its filler data arrive in the buffer of VCL HRD parameters.
abbrev pub to_vcl : KnownSet → AccessUnit → Coded
to_vcl set unit = record {
  rates = vcl_rates set;
  bytes = unit.vcl_bytes;
  slice_bytes = unit.slice_bytes;
  initial = vcl_delay unit.times.period;
  removal = unit.times.removal;
  pace = pace_of set;
}

abbrev pub ended_with : (bit : ℕ) → Step → Step → Ended
ended_with bit nal vcl = record {
  watches = record { nal = nal.watch; vcl = vcl.watch };
  bit = bit;
  underflow = nal.findings.underflow || vcl.findings.underflow;
  initial_delay = nal.findings.initial_delay || vcl.findings.initial_delay;
  overflow = nal.findings.overflow || vcl.findings.overflow;
  removal_rate = nal.findings.removal_rate || vcl.findings.removal_rate;
  compression = nal.findings.compression || vcl.findings.compression;
}

-- An access unit has ended before this place.
abbrev pub ended : KnownSet → Watches → (end : ℕ) → AccessUnit → Ended
ended set w end unit = ended_with unit.bit (step w.nal (to_nal set unit end)) (step w.vcl (to_vcl set unit))

-- ---- units

-- Units that are known to arrive, and to hide no end of an access unit: types 1 to 12.
abbrev pub is_plain : ℕ → Bool
is_plain kind = nat_le 1 kind && nat_le kind 12

-- VCL NAL units, which are slices and parts of them; and those and filler data
abbrev pub is_slice_part : ℕ → Bool
is_slice_part kind = nat_le 1 kind && nat_le kind 5

abbrev pub is_vcl : ℕ → Bool
is_vcl kind = is_slice_part kind || (kind == 12)

abbrev pub with_bytes : ℕ → (counts : Bool) → (length : ℕ) → ℕ
with_bytes bytes counts length = if counts then grown bytes length else bytes

-- with a unit
abbrev pub unit_with : AccessUnit → NalUnit → TimesTold → AccessUnit
unit_with a unit t = record a {
  slice_bytes = with_bytes a.slice_bytes (is_slice_part (kind_of unit)) (length unit.body);
  vcl_bytes = with_bytes a.vcl_bytes (is_vcl (kind_of unit)) (length unit.body);
  times = times_more a.times t;
}

-- before its first unit
abbrev pub unit_at : (from bit : ℕ) → AccessUnit
unit_at from bit = record { from = from; bit = bit; slice_bytes = 0; vcl_bytes = 0; times = no_times }

-- The first byte of an access unit whose first unit begins at this place, after a unit that ends at that place: the zero_byte of its start code, where it
-- has one. The 00 bytes before that follow the unit before (B.1.1); before the first unit of the input they are its own.
abbrev pub first_place : (past from : ℕ) → ℕ
first_place past from = if past == 0 then 0 else (if nat_lt past (from - 3) then from - 4 else from - 3)

-- These schedules are followed no more where a unit is not plain.
abbrev pub watched : Watches → (kind : ℕ) → Watches
watched w kind = if is_plain kind then w else record { nal = Off OtherUnit; vcl = Off OtherUnit }

-- No access unit is open, and none that ends.
abbrev pub came_with : Watches → Option Ended → Option AccessUnit → NalUnit → TimesTold → Came
came_with w e None unit t = record { buffer = record { current = None; watches = watched w (kind_of unit) }; ended = e }
came_with w e (Some a) unit t = record { buffer = record { current = Some (unit_with a unit t); watches = watched w (kind_of unit) }; ended = e }

-- the access unit that was open ends
abbrev pub came_first : KnownSet → Buffer → (past : ℕ) → NalUnit → TimesTold → Option AccessUnit → Came
came_first set b past unit t None = came_with b.watches None (Some (unit_at (first_place past unit.from) (8 * unit.from))) unit t
came_first set b past unit t (Some before) =
    let e = ended set b.watches (first_place past unit.from) before in
    came_with e.watches (Some e) (Some (unit_at (first_place past unit.from) (8 * unit.from))) unit t

-- A unit came, which is the first of its access unit or not; the set was known before it, and the unit before ends at this place.
abbrev pub came : KnownSet → Buffer → (past : ℕ) → (is_first : Bool) → NalUnit → TimesTold → Came
came set b past is_first unit t = if is_first then came_first set b past unit t b.current else came_with b.watches None b.current unit t

-- The input ends at this place, and the access unit that is open too.
abbrev pub ended_at : KnownSet → Watches → (end : ℕ) → Option AccessUnit → Option Ended
ended_at set w end None = None
ended_at set w end (Some unit) = Some (ended set w end unit)

abbrev pub no_buffer : Buffer
no_buffer = record { current = None; watches = record { nal = Before; vcl = Before } }

-- ---- the rules that an access unit breaks, at the first bit of its first unit

abbrev pub broken_ended : Ended → List StrictRule
broken_ended e =
    listed (broken_if e.underflow rules.BufferUnderflow)
    ++ (listed (broken_if e.initial_delay rules.InitialDelay)
    ++ (listed (broken_if e.overflow rules.BufferOverflow)
    ++ (listed (broken_if e.removal_rate rules.RemovalRate)
    ++ listed (broken_if e.compression rules.MinCompression))))

abbrev pub ended_bits : StrictRule → Option Ended → List ℕ
ended_bits rule None = []
ended_bits rule (Some e) = bits_for rule e.bit (broken_ended e)

-- ---- why not all is judged

-- NAL or VCL HRD parameters that are not there ask for nothing where the others are.
abbrev pub lack_of_both : (nal vcl : Option Lack) → Option Lack
lack_of_both (Some NoParameters) vcl = vcl
lack_of_both None (Some NoParameters) = None
lack_of_both None vcl = vcl
lack_of_both nal vcl = nal

abbrev pub lack_in : Watches → Option Lack
lack_in w = lack_of_both (lack_of w.nal) (lack_of w.vcl)

-- the schedules after an access unit, if one ended last
abbrev pub watches_after : Buffer → Option Ended → Watches
watches_after b None = b.watches
watches_after b (Some e) = e.watches
