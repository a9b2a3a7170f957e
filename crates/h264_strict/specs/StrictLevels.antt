-- What the levels allow of rates, buffers and vectors (A.3.1, Table A-1). To be read beside the standard.
use Rattle.std.specs.Prelude.{ℕ, Bool, List, [], ◌∷◌, ◌==◌, ◌&&◌, ◌||◌, nat_lt, Option, None, Some, find, if◌then◌else◌}
use Rattle.std.specs.Option.{option_map}
use Rattle.h264_strict.specs.declared.strict_levels.BitLimits.{BitLimits}
use Rattle.h264_tables.specs.Level.{level_named}

-- a row of Table A-1
pub record RateRow : Type 0 where
  -- ten times the level's number; 9 for level 1b
  pub level : ℕ
  -- MaxMBPS, in macroblocks a second
  pub mbps : ℕ
  -- MaxBR and MaxCPB, in 1000 bits a second and 1000 bits of VCL parameters, and in 1200 of NAL parameters
  pub br : ℕ
  pub cpb : ℕ

abbrev pub rate_row : ℕ → ℕ → ℕ → ℕ → RateRow
rate_row level mbps br cpb = record { level = level; mbps = mbps; br = br; cpb = cpb }

unfoldable pub rates : List RateRow
rates =
    rate_row 9 1485 128 350 ∷
    rate_row 10 1485 64 175 ∷
    rate_row 11 3000 192 500 ∷
    rate_row 12 6000 384 1000 ∷
    rate_row 13 11880 768 2000 ∷
    rate_row 20 11880 2000 2000 ∷
    rate_row 21 19800 4000 4000 ∷
    rate_row 22 20250 4000 4000 ∷
    rate_row 30 40500 10000 10000 ∷
    rate_row 31 108000 14000 14000 ∷
    rate_row 32 216000 20000 20000 ∷
    rate_row 40 245760 20000 25000 ∷
    rate_row 41 245760 50000 62500 ∷
    rate_row 42 522240 50000 62500 ∷
    rate_row 50 589824 135000 135000 ∷
    rate_row 51 983040 240000 240000 ∷
    rate_row 52 2073600 240000 240000 ∷
    []

-- the row of a level, if there is such a level
abbrev pub row_of : ℕ → Bool → Option RateRow
row_of level_idc set3 = find (λ r. r.level == level_named level_idc set3) rates

-- MaxMBPS of a level
unfoldable pub max_mbps : ℕ → Bool → Option ℕ
max_mbps level_idc set3 = option_map (λ r. r.mbps) (row_of level_idc set3)

-- MaxBR and MaxCPB of a level
unfoldable pub bit_limits : ℕ → Bool → Option BitLimits
bit_limits level_idc set3 = option_map (λ r. record { max_br = r.br; max_cpb = r.cpb }) (row_of level_idc set3)

-- MinCR: 4 at levels 3.1, 3.2 and 4, and else 2
abbrev pub min_cr : ℕ → ℕ
min_cr level_idc = if (level_idc == 31) || (level_idc == 32) || (level_idc == 40) then 4 else 2

-- MaxMvsPer2Mb: none below level 3, 32 at level 3, and 16 from level 3.1 on
abbrev pub max_vectors : ℕ → Option ℕ
max_vectors level_idc = if nat_lt level_idc 30 then None else (if level_idc == 30 then Some 32 else Some 16)
