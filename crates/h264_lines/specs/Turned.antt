-- Places that are written round and round.
use Rattle.std.specs.Prelude.{ℕ, ◌≡◌, ◌<◌, ◌≤◌, Vec, vec_capacity, vec_len}

-- There are sixteen places. The next is the oldest once all are taken.
pub record IsTurned {X Z : Type 0} (elements : Vec X Z) (next : ℕ) : Type 0 where
  pub capacity : vec_capacity elements ≡ 16
  pub at_most : vec_len elements ≤ 16
  pub within : next < 16
  pub growing : vec_len elements < 16 → next ≡ 0
