-- To be read beside the standard. Where the levels of a block stand (9.2.4). Places count from 0 in the order of the scan; levels count from 0, the
-- first at the highest place.
use Rattle.std.specs.Prelude.{ℕ, ◌+◌, ◌-◌, ◌==◌, List, length, map, take, sum_by, slice_index_or, ℤ, pos}
use Rattle.std.specs.List.{position_or_len, range_with_len}

-- The place of level k of so many: below it are the levels after it, and the zeros that the runs before it leave.
unfoldable pub place_of : ℕ → ℕ → List ℕ → ℕ → ℕ
place_of total zeros runs k = total - 1 - k + (zeros - sum_by (λ run. run) (take k runs))

-- which level stands at a place; the number of levels where none does
unfoldable pub level_number : ℕ → ℕ → List ℕ → ℕ → ℕ
level_number total zeros runs place = position_or_len (λ k. place_of total zeros runs k == place) (range_with_len 0 total)

-- the level at a place, 0 where none stands
unfoldable pub level_at : List ℤ → ℕ → List ℕ → ℕ → ℤ
level_at levels zeros runs place = slice_index_or levels (level_number (length levels) zeros runs place) (pos 0)

-- the levels by place, of so many places
unfoldable pub by_place : ℕ → List ℤ → ℕ → List ℕ → List ℤ
by_place size levels zeros runs = map (level_at levels zeros runs) (range_with_len 0 size)
