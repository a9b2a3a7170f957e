-- The numbers of h264v.h. To be read beside include/h264v.h.
use Rattle.std.specs.Prelude.{ℕ, ◌*◌, ◌+◌, ◌==◌, Option, None, Some, if◌then◌else◌}
use Rattle.h264_base.specs.declared.mode.Mode.{Mode}
use Rattle.h264_base.specs.declared.mode.Mode.TheVariants.{Units, Headers, Verdict, Full}
use Rattle.h264_base.specs.declared.mode.Target.{Target}
use Rattle.h264_base.specs.declared.mode.Target.TheVariants.{Baseline, MainIP}

-- the number of a version, which grows with each version
abbrev pub version_number : (major minor patch : ℕ) → ℕ
version_number major minor patch = 65536 * major + (256 * minor + patch)

abbrev pub mode_by : ℕ → Option Mode
mode_by n = if n == 0 then Some Units else if n == 1 then Some Headers else if n == 2 then Some Full
    else if n == 3 then Some Verdict else None

abbrev pub target_by : ℕ → Option Target
target_by n = if n == 0 then Some Baseline else if n == 1 then Some MainIP else None
