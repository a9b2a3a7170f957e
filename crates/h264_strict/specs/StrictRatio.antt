-- Whether the terms of a sample aspect ratio are relatively prime (E.2.1). To be read beside the standard.
use Rattle.std.specs.Prelude.{ℕ, ◌-◌, ◌%◌, ◌==◌, ◌&&◌, Bool, nat_lt}
use Rattle.std.specs.List.{list_any, range_with_len}

-- d divides both numbers
abbrev pub divides_both : (n k : ℕ) → (d : ℕ) → Bool
divides_both n k d = (n % d == 0) && (k % d == 0)

-- a number from 2 to n divides both
abbrev pub have_common_factor : (n k : ℕ) → Bool
have_common_factor n k = list_any (divides_both n k) (range_with_len 2 (n - 1))

-- sar_width and sar_height are neither relatively prime nor is one of them 0
abbrev pub is_reducible : (sar_width sar_height : ℕ) → Bool
is_reducible sar_width sar_height = (nat_lt 0 sar_width && nat_lt 0 sar_height) && have_common_factor sar_width sar_height
