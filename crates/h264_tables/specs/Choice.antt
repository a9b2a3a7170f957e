-- Which table of code words stands where (9.2.1, 9.2.3). To be read beside the standard.
use Rattle.std.specs.Prelude.{ℕ, List, [], ◌∷◌, nat_lt, if◌then◌else◌}
use Rattle.h264_tables.specs.declared.table.Table.{Table}
use Rattle.h264_tables.specs.declared.table.Table.TheVariants.{CoeffTokenNc0, CoeffTokenNc2, CoeffTokenNc4, CoeffTokenNc8, TotalZerosChromaDc1}
use Rattle.h264_tables.specs.declared.table.Table.TheVariants.{TotalZerosChromaDc2, TotalZerosChromaDc3, TotalZeros1, TotalZeros2, TotalZeros3, TotalZeros4}
use Rattle.h264_tables.specs.declared.table.Table.TheVariants.{TotalZeros5, TotalZeros6, TotalZeros7, TotalZeros8, TotalZeros9, TotalZeros10, TotalZeros11}
use Rattle.h264_tables.specs.declared.table.Table.TheVariants.{TotalZeros12, TotalZeros13, TotalZeros14, TotalZeros15, RunBefore1, RunBefore2, RunBefore3}
use Rattle.h264_tables.specs.declared.table.Table.TheVariants.{RunBefore4, RunBefore5, RunBefore6, RunBefore7}

-- coeff_token by nC, but for chroma DC (Table 9-5)
abbrev pub coeff_token_by : ℕ → Table
coeff_token_by nc = if nat_lt nc 2 then CoeffTokenNc0 else if nat_lt nc 4 then CoeffTokenNc2 else if nat_lt nc 8 then CoeffTokenNc4 else CoeffTokenNc8

-- total_zeros by tzVlcIndex from 1 on (Tables 9-7, 9-8)
unfoldable pub total_zeros_tables : List Table
total_zeros_tables = TotalZeros1 ∷ TotalZeros2 ∷ TotalZeros3 ∷ TotalZeros4 ∷ TotalZeros5 ∷ TotalZeros6 ∷ TotalZeros7 ∷ TotalZeros8 ∷ TotalZeros9
    ∷ TotalZeros10 ∷ TotalZeros11 ∷ TotalZeros12 ∷ TotalZeros13 ∷ TotalZeros14 ∷ TotalZeros15 ∷ []

-- total_zeros of a chroma DC block by tzVlcIndex from 1 on (Table 9-9)
unfoldable pub chroma_dc_tables : List Table
chroma_dc_tables = TotalZerosChromaDc1 ∷ TotalZerosChromaDc2 ∷ TotalZerosChromaDc3 ∷ []

-- run_before by zerosLeft from 1 to 7; from 7 on it is the last (Table 9-10)
unfoldable pub run_before_tables : List Table
run_before_tables = RunBefore1 ∷ RunBefore2 ∷ RunBefore3 ∷ RunBefore4 ∷ RunBefore5 ∷ RunBefore6 ∷ RunBefore7 ∷ []
