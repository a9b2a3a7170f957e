-- What a search in a unit's bytes finds. A working form.
use Rattle.std.specs.Prelude.{ℕ, ◌≤◌, List, slice_index}
use Rattle.h264_rbsp.specs.Emulation.{AfterZeros}

-- a byte from the least to 03 after two 00 bytes
pub record IsFound (bytes : List ℕ) (least place : ℕ) : Type 0 where
  pub zeros : AfterZeros bytes place
  pub low : least ≤ slice_index bytes place
  pub high : slice_index bytes place ≤ 3
