-- Counts of things. A working form.
use Rattle.std.specs.Prelude.{ℕ, ◌+◌, ◌-◌, ◌^◌, min}

-- so many more, counted in 64 bits
abbrev pub grown : ℕ → ℕ → ℕ
grown n k = min (n + k) (2 ^ 64 - 1)
