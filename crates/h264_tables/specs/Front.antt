-- The word that some bits begin with. A working form.
use Rattle.std.specs.Prelude.{ℕ, ◌-◌, ◌/◌, ◌^◌, Bool, List, [], ◌∷◌, ◌==◌, Option, Some, None, if◌then◌else◌}
use Rattle.h264_base.specs.Table.{Row}

-- a number of w bits begins with the row's word
unfoldable pub begins : ℕ → Row → ℕ → Bool
begins w r y = y / 2 ^ (w - r.length) == r.bits

-- the first row whose word a number of w bits begins with
unfoldable pub front_of : ℕ → List Row → ℕ → Option Row
front_of w [] y = None
front_of w (r ∷ rows) y = if begins w r y then Some r else front_of w rows y

-- its length and value, or 0 and 0
abbrev pub found_of : Option Row → ℕ × ℕ
found_of None = (0, 0)
found_of (Some r) = (r.length, r.value)
