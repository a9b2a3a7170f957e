-- The rate of frames, and the size that is shown. To be read beside the standard (E.2.1, 7.4.2.1.1).
use Rattle.std.specs.Prelude.{ℕ, ◌-◌, ◌*◌, ◌/◌, ◌^◌, ◌==◌, min, if◌then◌else◌, Option, None, Some}
use Rattle.h264_bits.specs.Counts.{grown}
use Rattle.h264_pages.specs.declared.survey.sequence.Timing.{Timing}

-- a product, in 64 bits
abbrev pub product : ℕ → ℕ → ℕ
product n k = min (n * k) (2 ^ 64 - 1)

-- thousandths of a frame a second: 1000 * time_scale / (2 * num_units_in_tick)
abbrev pub rate_of_timing : Timing → Option ℕ
rate_of_timing t = if t.num_units_in_tick == 0 then None else Some (product t.time_scale 1000 / product t.num_units_in_tick 2)

-- none where no timing is given
abbrev pub rate_in : Option Timing → Option ℕ
rate_in None = None
rate_in (Some timing) = rate_of_timing timing

-- so many samples of macroblocks, less what two offsets cut off, which count two samples each
abbrev pub shown_side : (macroblocks first second : ℕ) → ℕ
shown_side macroblocks first second = product macroblocks 16 - product (grown first second) 2
