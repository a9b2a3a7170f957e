-- The tables of code words. To be read beside the standard.
use Rattle.std.specs.Prelude.{◌≡◌, true, refl, List}
use Rattle.h264_base.specs.Table.{Row, CodeTable, is_prefix_free, is_apart, is_prefix}
use Rattle.h264_tables.specs.declared.table.Table.{Table}
use Rattle.h264_tables.specs.declared.table.Table.TheVariants.{CoeffTokenNc0, CoeffTokenNc2, CoeffTokenNc4, CoeffTokenNc8, CoeffTokenChromaDc, TotalZeros1}
use Rattle.h264_tables.specs.declared.table.Table.TheVariants.{TotalZeros2, TotalZeros3, TotalZeros4, TotalZeros5, TotalZeros6, TotalZeros7, TotalZeros8}
use Rattle.h264_tables.specs.declared.table.Table.TheVariants.{TotalZeros9, TotalZeros10, TotalZeros11, TotalZeros12, TotalZeros13, TotalZeros14}
use Rattle.h264_tables.specs.declared.table.Table.TheVariants.{TotalZeros15, TotalZerosChromaDc1, TotalZerosChromaDc2, TotalZerosChromaDc3, RunBefore1}
use Rattle.h264_tables.specs.declared.table.Table.TheVariants.{RunBefore2, RunBefore3, RunBefore4, RunBefore5, RunBefore6, RunBefore7, CodedBlockPatternIntra}
use Rattle.h264_tables.specs.declared.table.Table.TheVariants.{CodedBlockPatternInter, InvertedBit, LevelPrefix}
use Rattle.h264_tables.specs.CoeffToken.{coeff_token_nc0, coeff_token_nc2, coeff_token_nc4, coeff_token_nc8, coeff_token_chroma_dc}
use Rattle.h264_tables.specs.TotalZeros.{total_zeros_1, total_zeros_2, total_zeros_3, total_zeros_4, total_zeros_5, total_zeros_6, total_zeros_7}
use Rattle.h264_tables.specs.TotalZeros.{total_zeros_8, total_zeros_9, total_zeros_10, total_zeros_11, total_zeros_12, total_zeros_13, total_zeros_14}
use Rattle.h264_tables.specs.TotalZeros.{total_zeros_15, total_zeros_chroma_dc_1, total_zeros_chroma_dc_2, total_zeros_chroma_dc_3}
use Rattle.h264_tables.specs.RunBefore.{run_before_1, run_before_2, run_before_3, run_before_4, run_before_5, run_before_6, run_before_7}
use Rattle.h264_tables.specs.CodedBlockPattern.{golomb_rows, coded_block_pattern_intra, coded_block_pattern_inter}
use Rattle.h264_tables.specs.InvertedBit.{inverted_bit}
use Rattle.h264_tables.specs.LevelPrefix.{prefix_rows, level_prefix}

-- its rows, as the standard lists them
abbrev pub rows_of : Table → List Row
rows_of CoeffTokenNc0 = coeff_token_nc0
rows_of CoeffTokenNc2 = coeff_token_nc2
rows_of CoeffTokenNc4 = coeff_token_nc4
rows_of CoeffTokenNc8 = coeff_token_nc8
rows_of CoeffTokenChromaDc = coeff_token_chroma_dc
rows_of TotalZeros1 = total_zeros_1
rows_of TotalZeros2 = total_zeros_2
rows_of TotalZeros3 = total_zeros_3
rows_of TotalZeros4 = total_zeros_4
rows_of TotalZeros5 = total_zeros_5
rows_of TotalZeros6 = total_zeros_6
rows_of TotalZeros7 = total_zeros_7
rows_of TotalZeros8 = total_zeros_8
rows_of TotalZeros9 = total_zeros_9
rows_of TotalZeros10 = total_zeros_10
rows_of TotalZeros11 = total_zeros_11
rows_of TotalZeros12 = total_zeros_12
rows_of TotalZeros13 = total_zeros_13
rows_of TotalZeros14 = total_zeros_14
rows_of TotalZeros15 = total_zeros_15
rows_of TotalZerosChromaDc1 = total_zeros_chroma_dc_1
rows_of TotalZerosChromaDc2 = total_zeros_chroma_dc_2
rows_of TotalZerosChromaDc3 = total_zeros_chroma_dc_3
rows_of RunBefore1 = run_before_1
rows_of RunBefore2 = run_before_2
rows_of RunBefore3 = run_before_3
rows_of RunBefore4 = run_before_4
rows_of RunBefore5 = run_before_5
rows_of RunBefore6 = run_before_6
rows_of RunBefore7 = run_before_7
rows_of CodedBlockPatternIntra = coded_block_pattern_intra
rows_of CodedBlockPatternInter = coded_block_pattern_inter
rows_of InvertedBit = inverted_bit
rows_of LevelPrefix = level_prefix

-- in each table no word is a prefix of another
pub rows_of-free : (table : Table) → is_prefix_free (rows_of table) ≡ true
unfolding is_prefix_free is_apart is_prefix coeff_token_nc0 coeff_token_nc2 coeff_token_nc4 coeff_token_nc8 coeff_token_chroma_dc total_zeros_1
    total_zeros_2 total_zeros_3 total_zeros_4 total_zeros_5 total_zeros_6 total_zeros_7 total_zeros_8 total_zeros_9 total_zeros_10
    total_zeros_11 total_zeros_12 total_zeros_13 total_zeros_14 total_zeros_15 total_zeros_chroma_dc_1 total_zeros_chroma_dc_2
    total_zeros_chroma_dc_3 run_before_1 run_before_2 run_before_3 run_before_4 run_before_5 run_before_6 run_before_7 coded_block_pattern_intra
    coded_block_pattern_inter inverted_bit level_prefix golomb_rows prefix_rows
rows_of-free CoeffTokenNc0 = refl
rows_of-free CoeffTokenNc2 = refl
rows_of-free CoeffTokenNc4 = refl
rows_of-free CoeffTokenNc8 = refl
rows_of-free CoeffTokenChromaDc = refl
rows_of-free TotalZeros1 = refl
rows_of-free TotalZeros2 = refl
rows_of-free TotalZeros3 = refl
rows_of-free TotalZeros4 = refl
rows_of-free TotalZeros5 = refl
rows_of-free TotalZeros6 = refl
rows_of-free TotalZeros7 = refl
rows_of-free TotalZeros8 = refl
rows_of-free TotalZeros9 = refl
rows_of-free TotalZeros10 = refl
rows_of-free TotalZeros11 = refl
rows_of-free TotalZeros12 = refl
rows_of-free TotalZeros13 = refl
rows_of-free TotalZeros14 = refl
rows_of-free TotalZeros15 = refl
rows_of-free TotalZerosChromaDc1 = refl
rows_of-free TotalZerosChromaDc2 = refl
rows_of-free TotalZerosChromaDc3 = refl
rows_of-free RunBefore1 = refl
rows_of-free RunBefore2 = refl
rows_of-free RunBefore3 = refl
rows_of-free RunBefore4 = refl
rows_of-free RunBefore5 = refl
rows_of-free RunBefore6 = refl
rows_of-free RunBefore7 = refl
rows_of-free CodedBlockPatternIntra = refl
rows_of-free CodedBlockPatternInter = refl
rows_of-free InvertedBit = refl
rows_of-free LevelPrefix = refl

abbrev pub code_table : Table → CodeTable
code_table table = record { rows = rows_of table; free = rows_of-free table }
