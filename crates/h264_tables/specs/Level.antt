-- What the levels allow (A.3.1, Table A-1). To be read beside the standard.
use Rattle.std.specs.Prelude.{ℕ, Bool, List, [], ◌∷◌, ◌==◌, ◌&&◌, Option, find, if◌then◌else◌}
use Rattle.std.specs.Option.{option_map}
use Rattle.h264_tables.specs.declared.level.Limits.{Limits}

-- a row of Table A-1
pub record LevelRow : Type 0 where
  -- ten times the level's number; 9 for level 1b
  pub level : ℕ
  pub limits : Limits

-- the level, MaxFS, MaxDpbMbs, and the range of vertical vector components in luma samples
abbrev pub level_row : ℕ → ℕ → ℕ → ℕ → LevelRow
level_row level fs dpb vector = record { level = level; limits = record { max_fs = fs; max_dpb_mbs = dpb; max_vector = vector } }

unfoldable pub level_rows : List LevelRow
level_rows =
    level_row 9 99 396 64 ∷
    level_row 10 99 396 64 ∷
    level_row 11 396 900 128 ∷
    level_row 12 396 2376 128 ∷
    level_row 13 396 2376 128 ∷
    level_row 20 396 2376 128 ∷
    level_row 21 792 4752 256 ∷
    level_row 22 1620 8100 256 ∷
    level_row 30 1620 8100 256 ∷
    level_row 31 3600 18000 512 ∷
    level_row 32 5120 20480 512 ∷
    level_row 40 8192 32768 512 ∷
    level_row 41 8192 32768 512 ∷
    level_row 42 8704 34816 512 ∷
    level_row 50 22080 110400 512 ∷
    level_row 51 36864 184320 512 ∷
    level_row 52 36864 184320 512 ∷
    []

-- The level that level_idc names: level 1b is level_idc 11 with constraint_set3_flag, and level_idc 9.
abbrev pub level_named : ℕ → Bool → ℕ
level_named level_idc set3 = if level_idc == 11 && set3 then 9 else level_idc

-- its row, if it has one
unfoldable pub limits_of : ℕ → Bool → Option Limits
limits_of level_idc set3 = option_map (λ r. r.limits) (find (λ r. r.level == level_named level_idc set3) level_rows)
