-- The coded picture buffer of one schedule (C.1, C.3, A.3.1). To be read beside the standard.
-- When access units arrive and are removed (C.1.1, C.1.2), and what must hold of that.
-- Times count from the arrival of the first bit on, in units of 1 / (90000 * time_scale * BitRate) seconds: so each time of C.1 is a whole number.
use Rattle.std.specs.Prelude.{List, ◌∷◌, sum, map, filter, take, get_or, replicate}
use Rattle.std.specs.List.{list_any}
use Rattle.std.specs.Prelude.{ℕ, ◌+◌, ◌-◌, ◌*◌, ◌^◌, ◌==◌, ◌&&◌, ◌||◌, Bool, true, false, not, max, nat_lt, nat_le, if◌then◌else◌, Option, None, Some}
use Rattle.h264_strict.specs.declared.buffer.Arrival.{Arrival}
use Rattle.h264_strict.specs.declared.buffer.Coded.{Coded}
use Rattle.h264_strict.specs.declared.buffer.Findings.{Findings}
use Rattle.h264_strict.specs.declared.buffer.Lack.{Lack}
use Rattle.h264_strict.specs.declared.buffer.Lack.TheVariants as lacks
use Rattle.h264_strict.specs.declared.buffer.Pace.{Pace}
use Rattle.h264_strict.specs.declared.buffer.Rates.{Rates}
use Rattle.h264_strict.specs.declared.buffer.Schedule.{Schedule}
use Rattle.h264_strict.specs.declared.buffer.Step.{Step}
use Rattle.h264_strict.specs.declared.buffer.Waiting.{Waiting}
use Rattle.h264_strict.specs.declared.buffer.Watch.{Watch}
use Rattle.h264_strict.specs.declared.buffer.Watch.TheVariants.{Before, Runs, Off}
use Rattle.h264_strict.specs.declared.sei.timing.InitialDelay.{InitialDelay}

-- ---- units of time

-- t_c, which is num_units_in_tick / time_scale seconds
abbrev pub clock_tick : Rates → ℕ
clock_tick r = 90000 * r.num_units_in_tick * r.bit_rate

-- 1 / 90000 second
abbrev pub delay_tick : Rates → ℕ
delay_tick r = r.time_scale * r.bit_rate

-- 1 / BitRate seconds, in which a bit arrives, and 8 / BitRate seconds
abbrev pub bit_time : Rates → ℕ
bit_time r = 90000 * r.time_scale

abbrev pub byte_time : Rates → ℕ
byte_time r = 720000 * r.time_scale

abbrev pub second : Rates → ℕ
second r = 90000 * r.time_scale * r.bit_rate

-- a time that 128 bits count
abbrev pub counted : ℕ → Option ℕ
counted t = if nat_lt t (2 ^ 128) then Some t else None

-- ---- an access unit after the first (C.1.1, C.1.2)

-- t_r,n(n): cpb_removal_delay counts clock ticks from t_r,n(n_b) on, where n_b is the first access unit of the last buffering period that began before this one
abbrev pub nominal_removal : Schedule → (cpb_removal_delay : ℕ) → ℕ
nominal_removal s delay = s.period_removal + clock_tick s.rates * delay

-- t_r,n(n) - t_ai,earliest(n) in 1 / 90000 seconds. An access unit that begins a buffering period arrives no earlier than initial_cpb_removal_delay
-- before it is removed, and another one may do so by initial_cpb_removal_delay_offset more.
abbrev pub longest_stay : Schedule → Option InitialDelay → ℕ
longest_stay s (Some own) = own.delay
longest_stay s None = s.initial.delay + s.initial.offset

-- t_ai(n): with cbr_flag 1 at the end of the arrival before, and else no earlier than t_ai,earliest(n)
abbrev pub initial_arrival : Schedule → Option InitialDelay → (removal : ℕ) → ℕ
initial_arrival s own removal =
    if s.rates.cbr_flag then s.arrived else max s.arrived (removal - delay_tick s.rates * longest_stay s own)

-- t_af(n) of so many bytes
abbrev pub final_arrival : Rates → (begins bytes : ℕ) → ℕ
final_arrival r begins bytes = begins + byte_time r * bytes

-- the times of an access unit; none where 128 bits do not count them
abbrev pub with_end : (removal begins : ℕ) → Option ℕ → Option Arrival
with_end removal begins None = None
with_end removal begins (Some ends) = Some (record { removal = removal; begins = begins; ends = ends })

abbrev pub with_removal : Schedule → Coded → Option ℕ → Option Arrival
with_removal s c None = None
with_removal s c (Some removal) =
    with_end removal (initial_arrival s c.initial removal) (counted (final_arrival s.rates (initial_arrival s c.initial removal) c.bytes))

abbrev pub arrival_of : Schedule → Coded → (cpb_removal_delay : ℕ) → Option Arrival
arrival_of s c delay = with_removal s c (counted (nominal_removal s delay))

-- of the first access unit: t_ai(0) is 0, and t_r,n(0) is initial_cpb_removal_delay
abbrev pub with_delay : Rates → (bytes : ℕ) → Option ℕ → Option Arrival
with_delay r bytes None = None
with_delay r bytes (Some removal) = with_end removal 0 (counted (final_arrival r 0 bytes))

abbrev pub first_arrival : Rates → InitialDelay → (bytes : ℕ) → Option Arrival
first_arrival r own bytes = with_delay r bytes (counted (0 + delay_tick r * own.delay))

-- ---- what stands in the buffer

-- how many access units are kept in mind
abbrev pub most_waiting : ℕ
most_waiting = 256

-- the last access units, the newest first
abbrev pub none_waiting : List Waiting
none_waiting = replicate most_waiting (record { removal = 0; bytes = 0 })

abbrev pub waiting_after : List Waiting → Waiting → List Waiting
waiting_after waiting unit = unit ∷ take (most_waiting - 1) waiting

abbrev pub no_unit : Waiting
no_unit = record { removal = 0; bytes = 0 }

-- The oldest one that is kept in mind is not yet removed, and older ones may not be either.
abbrev pub is_crowded : List Waiting → (time : ℕ) → Bool
is_crowded waiting time = nat_lt time (get_or waiting (most_waiting - 1) no_unit).removal

-- the bytes of those that are not removed before this time
abbrev pub held_bytes : List Waiting → (time : ℕ) → ℕ
held_bytes waiting time = sum (map (λ (w : Waiting). w.bytes) (filter (λ (w : Waiting). nat_le time w.removal) waiting))

-- ---- what must hold (C.3)

-- With low_delay_hrd_flag 0, t_r,n(n) is not before t_af(n).
abbrev pub underflows : Rates → Arrival → Bool
underflows r a = not r.low_delay_hrd_flag && nat_lt a.removal a.ends

-- t_g,90(n) is the time from t_af(n - 1) to t_r,n(n), in 1 / 90000 seconds. A delay is above Ceil(t_g,90(n)) where the delay less 1 is t_g,90(n) or more.
abbrev pub is_too_long : Schedule → (delay removal : ℕ) → Bool
is_too_long s delay removal = nat_le removal (s.arrived + delay_tick s.rates * (delay - 1))

-- It is below Floor(t_g,90(n)) where the delay and 1 are t_g,90(n) or less.
abbrev pub is_too_short : Schedule → (delay removal : ℕ) → Bool
is_too_short s delay removal = nat_le (s.arrived + delay_tick s.rates * (delay + 1)) removal

-- At a buffering period, initial_cpb_removal_delay is at most Ceil(t_g,90(n)), and with cbr_flag 1 also at least Floor(t_g,90(n)).
abbrev pub misses_delay : Schedule → Option InitialDelay → (removal : ℕ) → Bool
misses_delay s None removal = false
misses_delay s (Some own) removal = is_too_long s own.delay removal || s.rates.cbr_flag && is_too_short s own.delay removal

-- At this time, before what is removed then, the buffer holds more than CpbSize bits: those that arrived before, and what has come of an access unit.
abbrev pub overfills : Rates → List Waiting → (begins time : ℕ) → Bool
overfills r waiting begins time = nat_lt (bit_time r * r.cpb_size) ((time - begins) + byte_time r * held_bytes waiting time)

-- where this one is removed while an access unit arrives
abbrev pub overfills_before : Rates → List Waiting → Arrival → Waiting → Bool
overfills_before r waiting a w = nat_lt a.begins w.removal && nat_lt w.removal a.ends && overfills r waiting a.begins w.removal

-- The buffer fills while an access unit arrives, and is fullest at the end of that, or before a removal in that time.
abbrev pub overflows : Rates → List Waiting → Arrival → Bool
overflows r waiting a = overfills r waiting a.begins a.ends || list_any (overfills_before r waiting a) waiting

abbrev pub is_late : Rates → Arrival → Bool
is_late r a = r.low_delay_hrd_flag && nat_lt a.removal a.ends

-- A time is less than this limit, in parts of its unit.
abbrev pub is_less : (time parts : ℕ) → Option ℕ → Bool
is_less time parts None = false
is_less time parts (Some limit) = nat_lt (time * parts) limit

-- This time after another one a picture is removed: that is less than PicSizeInMbs / MaxMBPS, or less than 1/172 of a second (A.3.1).
abbrev pub hurries : Rates → Option Pace → (time : ℕ) → Bool
hurries r None time = false
hurries r (Some pace) time = is_less time pace.max_mbps (counted (second r * pace.pic_size_in_mbs)) || is_less time 172 (counted (second r * 1))

-- t_r,n(n) - t_r(n - 1)
abbrev pub since_last : Schedule → (removal : ℕ) → ℕ
since_last s removal = removal - (get_or s.waiting 0 no_unit).removal

-- So many bytes of slices are more than 384 * MaxMBPS / MinCR bytes a second allow in this time (A.3.1).
abbrev pub is_bulky : Rates → Option Pace → (bytes time : ℕ) → Bool
is_bulky r None bytes time = false
is_bulky r (Some pace) bytes time = is_less time (384 * pace.max_mbps) (counted (second r * (bytes * pace.min_cr)))

-- The first picture has more than 384 / MinCR bytes for each of its macroblocks, and more than 1/172 of a second allows.
abbrev pub is_bulky_first : Option Pace → (bytes : ℕ) → Bool
is_bulky_first None bytes = false
is_bulky_first (Some pace) bytes =
    nat_lt (384 * pace.pic_size_in_mbs) (bytes * pace.min_cr) && is_less (384 * pace.max_mbps) 1 (counted (172 * (bytes * pace.min_cr)))

abbrev pub found_at : Schedule → Coded → Arrival → Findings
found_at s c a = record {
  underflow = underflows s.rates a;
  initial_delay = misses_delay s c.initial a.removal;
  overflow = not (is_crowded s.waiting a.begins || s.is_crowded) && overflows s.rates s.waiting a;
  removal_rate = hurries s.rates s.pace (since_last s a.removal);
  compression = not (is_late s.rates a) && is_bulky s.rates c.pace c.slice_bytes (since_last s a.removal);
}

abbrev pub found_first : Rates → Coded → Arrival → Findings
found_first r c a = record {
  underflow = underflows r a;
  initial_delay = false;
  overflow = overflows r none_waiting a;
  removal_rate = false;
  compression = not (is_late r a) && is_bulky_first c.pace c.slice_bytes;
}

abbrev pub none_found : Findings
none_found = record { underflow = false; initial_delay = false; overflow = false; removal_rate = false; compression = false }

-- ---- the schedule after an access unit

abbrev pub waits : Arrival → (bytes : ℕ) → Waiting
waits a bytes = record { removal = a.removal; bytes = bytes }

-- with an access unit
abbrev pub filled : Schedule → Coded → Arrival → Schedule
filled s c a = record s {
  arrived = a.ends;
  pace = c.pace;
  waiting = waiting_after s.waiting (waits a c.bytes);
  is_crowded = is_crowded s.waiting a.begins || s.is_crowded;
}

-- one that begins no buffering period, or one that does
abbrev pub schedule_after : Schedule → (cpb_removal_delay : ℕ) → Option InitialDelay → Arrival → Schedule
schedule_after s delay None a = record s { last_delay = delay }
schedule_after s delay (Some own) a = record s { last_delay = 0; period_removal = a.removal; initial = own }

abbrev pub first_schedule : Rates → InitialDelay → Arrival → Coded → Schedule
first_schedule r own a c = record {
  rates = r;
  period_removal = a.removal;
  last_delay = 0;
  arrived = a.ends;
  initial = own;
  pace = c.pace;
  waiting = waiting_after none_waiting (waits a c.bytes);
  is_crowded = false;
}

-- ---- how long a schedule is followed

abbrev pub step_to : Watch → Step
step_to watch = record { watch = watch; findings = none_found }

-- With low_delay_hrd_flag 1 one that is late is removed at a later tick, and this schedule is followed no more.
abbrev pub runs_on : Arrival → Schedule → Watch
runs_on a s = if is_late s.rates a then Off lacks.Late else Runs s

abbrev pub first_step_to : Rates → InitialDelay → Coded → Option Arrival → Step
first_step_to r own c None = step_to (Off lacks.OutOfRange)
first_step_to r own c (Some a) = record { watch = runs_on a (first_schedule r own a c); findings = found_first r c a }

-- the first access unit has HRD parameters and a buffering_period()
abbrev pub first_step : Coded → Option Rates → Option InitialDelay → Step
first_step c None own = step_to (Off lacks.NoParameters)
first_step c (Some r) None = step_to (Off lacks.NoPeriod)
first_step c (Some r) (Some own) = first_step_to r own c (first_arrival r own c.bytes)

abbrev pub arrives : Schedule → Coded → (cpb_removal_delay : ℕ) → Option Arrival → Step
arrives s c delay None = step_to (Off lacks.OutOfRange)
arrives s c delay (Some a) = record { watch = runs_on a (schedule_after (filled s c a) delay c.initial a); findings = found_at s c a }

-- A later one has a pic_timing(). Its delay is above that of the access unit before, or else counts of delays came round, which say no time.
abbrev pub delayed : Schedule → Coded → Option ℕ → Step
delayed s c None = step_to (Off lacks.NoTiming)
delayed s c (Some delay) = if nat_le delay s.last_delay then step_to (Off lacks.NoRise) else arrives s c delay (arrival_of s c delay)

abbrev pub same_flag : Bool → Bool → Bool
same_flag true flag = flag
same_flag false flag = not flag

abbrev pub same_rates : Rates → Rates → Bool
same_rates a b =
    (a.bit_rate == b.bit_rate) && (a.num_units_in_tick == b.num_units_in_tick) && (a.time_scale == b.time_scale) && (a.cpb_size == b.cpb_size)
    && same_flag a.cbr_flag b.cbr_flag && same_flag a.low_delay_hrd_flag b.low_delay_hrd_flag

-- and the HRD parameters of those before
abbrev pub later_step : Schedule → Coded → Option Rates → Step
later_step s c None = step_to (Off lacks.OtherParameters)
later_step s c (Some r) = if same_rates s.rates r then delayed s c c.removal else step_to (Off lacks.OtherParameters)

-- HRD parameters that come later are others than those that were not there.
abbrev pub lack_after : Lack → Option Rates → Lack
lack_after lacks.NoParameters (Some r) = lacks.OtherParameters
lack_after lack rates = lack

-- an access unit came
abbrev pub step : Watch → Coded → Step
step Before c = first_step c c.rates c.initial
step (Runs s) c = later_step s c c.rates
step (Off lack) c = step_to (Off (lack_after lack c.rates))

-- why not all is judged, if it is not
abbrev pub lack_of : Watch → Option Lack
lack_of Before = None
lack_of (Runs s) = if s.is_crowded then Some lacks.Crowded else None
lack_of (Off lack) = Some lack
