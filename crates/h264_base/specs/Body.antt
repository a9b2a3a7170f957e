-- The bytes of a unit's RBSP, and where each of its bits stands in the stream (7.3.1). To be read beside the standard.
use Rattle.std.specs.Prelude.{ℕ, ◌+◌, ◌*◌, ◌/◌, List, nat_le}
use Rattle.std.specs.List.{count_by}

pub record Body : Type 0 where
  -- the bytes of the RBSP
  pub bytes : List ℕ
  -- the stream bit of the first bit of the first byte
  pub first : ℕ
  -- before which of these bytes, counted from 0, an emulation_prevention_three_byte was dropped; the length where after the last
  pub dropped : List ℕ

-- the stream bit of RBSP bit i; for i equal to the RBSP's length the first bit after the unit
unfoldable pub place : Body → ℕ → ℕ
place body i = body.first + i + 8 * count_by (λ d. nat_le d (i / 8)) body.dropped
