-- Bits that were loaded ahead. A working form.
use Rattle.std.specs.Prelude.{◌≡◌, ℕ, ◌-◌, ◌/◌, ◌^◌, ◌≤◌, List}
use Rattle.h264_bits.specs.Peek.{peek_at}
use Rattle.h264_bits.specs.declared.window.Upcoming.{Upcoming}

-- the highest bits of the number are those from bit i on
pub record IsUpcoming (bytes : List ℕ) (i : ℕ) (k : Upcoming) : Type 0 where
  pub few : k.count ≤ 64
  pub are : k.number / 2 ^ (64 - k.count) ≡ peek_at k.count bytes i
