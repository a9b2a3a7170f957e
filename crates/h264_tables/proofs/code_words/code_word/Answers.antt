use Rattle.h264_tables.specs.CoeffToken.{coeff_token_nc0, coeff_token_nc2, coeff_token_nc4, coeff_token_nc8, coeff_token_chroma_dc}
use Rattle.h264_tables.specs.TotalZeros.{total_zeros_1, total_zeros_2, total_zeros_3, total_zeros_4, total_zeros_5, total_zeros_6, total_zeros_7}
use Rattle.h264_tables.specs.TotalZeros.{total_zeros_8, total_zeros_9, total_zeros_10, total_zeros_11, total_zeros_12, total_zeros_13, total_zeros_14}
use Rattle.h264_tables.specs.TotalZeros.{total_zeros_15, total_zeros_chroma_dc_1, total_zeros_chroma_dc_2, total_zeros_chroma_dc_3}
use Rattle.h264_tables.specs.RunBefore.{run_before_1, run_before_2, run_before_3, run_before_4, run_before_5, run_before_6, run_before_7}
use Rattle.h264_tables.specs.CodedBlockPattern.{coded_block_pattern_intra, coded_block_pattern_inter, golomb_rows}
use Rattle.h264_tables.specs.InvertedBit.{inverted_bit}
use Rattle.h264_tables.specs.LevelPrefix.{level_prefix, prefix_rows}
use Rattle.h264_tables.proofs.code_words.code_word.Goals as goal

pub returns-in-CoeffTokenNc0 : goal.returns-in-CoeffTokenNc0
unfolding coeff_token_nc0
returns-in-CoeffTokenNc0 c = rw c.in-CoeffTokenNc0.is c.row_at.ensures

pub returns-in-CoeffTokenNc2 : goal.returns-in-CoeffTokenNc2
unfolding coeff_token_nc2
returns-in-CoeffTokenNc2 c = rw c.in-CoeffTokenNc2.is c.row_at-in-CoeffTokenNc2.ensures

pub returns-in-CoeffTokenNc4 : goal.returns-in-CoeffTokenNc4
unfolding coeff_token_nc4
returns-in-CoeffTokenNc4 c = rw c.in-CoeffTokenNc4.is c.row_at-in-CoeffTokenNc4.ensures

pub returns-in-CoeffTokenNc8 : goal.returns-in-CoeffTokenNc8
unfolding coeff_token_nc8
returns-in-CoeffTokenNc8 c = rw c.in-CoeffTokenNc8.is c.row_at-in-CoeffTokenNc8.ensures

pub returns-in-CoeffTokenChromaDc : goal.returns-in-CoeffTokenChromaDc
unfolding coeff_token_chroma_dc
returns-in-CoeffTokenChromaDc c = rw c.in-CoeffTokenChromaDc.is c.row_at-in-CoeffTokenChromaDc.ensures

pub returns-in-TotalZeros1 : goal.returns-in-TotalZeros1
unfolding total_zeros_1
returns-in-TotalZeros1 c = rw c.in-TotalZeros1.is c.row_at-in-TotalZeros1.ensures

pub returns-in-TotalZeros2 : goal.returns-in-TotalZeros2
unfolding total_zeros_2
returns-in-TotalZeros2 c = rw c.in-TotalZeros2.is c.row_at-in-TotalZeros2.ensures

pub returns-in-TotalZeros3 : goal.returns-in-TotalZeros3
unfolding total_zeros_3
returns-in-TotalZeros3 c = rw c.in-TotalZeros3.is c.row_at-in-TotalZeros3.ensures

pub returns-in-TotalZeros4 : goal.returns-in-TotalZeros4
unfolding total_zeros_4
returns-in-TotalZeros4 c = rw c.in-TotalZeros4.is c.row_at-in-TotalZeros4.ensures

pub returns-in-TotalZeros5 : goal.returns-in-TotalZeros5
unfolding total_zeros_5
returns-in-TotalZeros5 c = rw c.in-TotalZeros5.is c.row_at-in-TotalZeros5.ensures

pub returns-in-TotalZeros6 : goal.returns-in-TotalZeros6
unfolding total_zeros_6
returns-in-TotalZeros6 c = rw c.in-TotalZeros6.is c.row_at-in-TotalZeros6.ensures

pub returns-in-TotalZeros7 : goal.returns-in-TotalZeros7
unfolding total_zeros_7
returns-in-TotalZeros7 c = rw c.in-TotalZeros7.is c.row_at-in-TotalZeros7.ensures

pub returns-in-TotalZeros8 : goal.returns-in-TotalZeros8
unfolding total_zeros_8
returns-in-TotalZeros8 c = rw c.in-TotalZeros8.is c.row_at-in-TotalZeros8.ensures

pub returns-in-TotalZeros9 : goal.returns-in-TotalZeros9
unfolding total_zeros_9
returns-in-TotalZeros9 c = rw c.in-TotalZeros9.is c.row_at-in-TotalZeros9.ensures

pub returns-in-TotalZeros10 : goal.returns-in-TotalZeros10
unfolding total_zeros_10
returns-in-TotalZeros10 c = rw c.in-TotalZeros10.is c.row_at-in-TotalZeros10.ensures

pub returns-in-TotalZeros11 : goal.returns-in-TotalZeros11
unfolding total_zeros_11
returns-in-TotalZeros11 c = rw c.in-TotalZeros11.is c.row_at-in-TotalZeros11.ensures

pub returns-in-TotalZeros12 : goal.returns-in-TotalZeros12
unfolding total_zeros_12
returns-in-TotalZeros12 c = rw c.in-TotalZeros12.is c.row_at-in-TotalZeros12.ensures

pub returns-in-TotalZeros13 : goal.returns-in-TotalZeros13
unfolding total_zeros_13
returns-in-TotalZeros13 c = rw c.in-TotalZeros13.is c.row_at-in-TotalZeros13.ensures

pub returns-in-TotalZeros14 : goal.returns-in-TotalZeros14
unfolding total_zeros_14
returns-in-TotalZeros14 c = rw c.in-TotalZeros14.is c.row_at-in-TotalZeros14.ensures

pub returns-in-TotalZeros15 : goal.returns-in-TotalZeros15
unfolding total_zeros_15
returns-in-TotalZeros15 c = rw c.in-TotalZeros15.is c.row_at-in-TotalZeros15.ensures

pub returns-in-TotalZerosChromaDc1 : goal.returns-in-TotalZerosChromaDc1
unfolding total_zeros_chroma_dc_1
returns-in-TotalZerosChromaDc1 c = rw c.in-TotalZerosChromaDc1.is c.row_at-in-TotalZerosChromaDc1.ensures

pub returns-in-TotalZerosChromaDc2 : goal.returns-in-TotalZerosChromaDc2
unfolding total_zeros_chroma_dc_2
returns-in-TotalZerosChromaDc2 c = rw c.in-TotalZerosChromaDc2.is c.row_at-in-TotalZerosChromaDc2.ensures

pub returns-in-TotalZerosChromaDc3 : goal.returns-in-TotalZerosChromaDc3
unfolding total_zeros_chroma_dc_3
returns-in-TotalZerosChromaDc3 c = rw c.in-TotalZerosChromaDc3.is c.row_at-in-TotalZerosChromaDc3.ensures

pub returns-in-RunBefore1 : goal.returns-in-RunBefore1
unfolding run_before_1
returns-in-RunBefore1 c = rw c.in-RunBefore1.is c.row_at-in-RunBefore1.ensures

pub returns-in-RunBefore2 : goal.returns-in-RunBefore2
unfolding run_before_2
returns-in-RunBefore2 c = rw c.in-RunBefore2.is c.row_at-in-RunBefore2.ensures

pub returns-in-RunBefore3 : goal.returns-in-RunBefore3
unfolding run_before_3
returns-in-RunBefore3 c = rw c.in-RunBefore3.is c.row_at-in-RunBefore3.ensures

pub returns-in-RunBefore4 : goal.returns-in-RunBefore4
unfolding run_before_4
returns-in-RunBefore4 c = rw c.in-RunBefore4.is c.row_at-in-RunBefore4.ensures

pub returns-in-RunBefore5 : goal.returns-in-RunBefore5
unfolding run_before_5
returns-in-RunBefore5 c = rw c.in-RunBefore5.is c.row_at-in-RunBefore5.ensures

pub returns-in-RunBefore6 : goal.returns-in-RunBefore6
unfolding run_before_6
returns-in-RunBefore6 c = rw c.in-RunBefore6.is c.row_at-in-RunBefore6.ensures

pub returns-in-RunBefore7 : goal.returns-in-RunBefore7
unfolding run_before_7
returns-in-RunBefore7 c = rw c.in-RunBefore7.is c.row_at-in-RunBefore7.ensures

pub returns-in-CodedBlockPatternIntra : goal.returns-in-CodedBlockPatternIntra
unfolding coded_block_pattern_intra golomb_rows
returns-in-CodedBlockPatternIntra c = rw c.in-CodedBlockPatternIntra.is c.row_at-in-CodedBlockPatternIntra.ensures

pub returns-in-CodedBlockPatternInter : goal.returns-in-CodedBlockPatternInter
unfolding coded_block_pattern_inter golomb_rows
returns-in-CodedBlockPatternInter c = rw c.in-CodedBlockPatternInter.is c.row_at-in-CodedBlockPatternInter.ensures

pub returns-in-InvertedBit : goal.returns-in-InvertedBit
unfolding inverted_bit
returns-in-InvertedBit c = rw c.in-InvertedBit.is c.row_at-in-InvertedBit.ensures

pub returns-in-LevelPrefix : goal.returns-in-LevelPrefix
unfolding level_prefix prefix_rows
returns-in-LevelPrefix c = rw c.in-LevelPrefix.is c.row_at-in-LevelPrefix.ensures
