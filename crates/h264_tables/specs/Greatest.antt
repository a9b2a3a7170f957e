-- The greatest value of each table of code words. A working form.
use Rattle.std.specs.Prelude.{ℕ}
use Rattle.h264_tables.specs.declared.table.Table.{Table}
use Rattle.h264_tables.specs.declared.table.Table.TheVariants.{CoeffTokenNc0, CoeffTokenNc2, CoeffTokenNc4, CoeffTokenNc8, CoeffTokenChromaDc, TotalZeros1}
use Rattle.h264_tables.specs.declared.table.Table.TheVariants.{TotalZeros2, TotalZeros3, TotalZeros4, TotalZeros5, TotalZeros6, TotalZeros7, TotalZeros8}
use Rattle.h264_tables.specs.declared.table.Table.TheVariants.{TotalZeros9, TotalZeros10, TotalZeros11, TotalZeros12, TotalZeros13, TotalZeros14}
use Rattle.h264_tables.specs.declared.table.Table.TheVariants.{TotalZeros15, TotalZerosChromaDc1, TotalZerosChromaDc2, TotalZerosChromaDc3, RunBefore1}
use Rattle.h264_tables.specs.declared.table.Table.TheVariants.{RunBefore2, RunBefore3, RunBefore4, RunBefore5, RunBefore6, RunBefore7, CodedBlockPatternIntra}
use Rattle.h264_tables.specs.declared.table.Table.TheVariants.{CodedBlockPatternInter, InvertedBit, LevelPrefix}

abbrev pub greatest_value : Table → ℕ
greatest_value CoeffTokenNc0 = 67
greatest_value CoeffTokenNc2 = 67
greatest_value CoeffTokenNc4 = 67
greatest_value CoeffTokenNc8 = 67
greatest_value CoeffTokenChromaDc = 19
greatest_value TotalZeros1 = 15
greatest_value TotalZeros2 = 14
greatest_value TotalZeros3 = 13
greatest_value TotalZeros4 = 12
greatest_value TotalZeros5 = 11
greatest_value TotalZeros6 = 10
greatest_value TotalZeros7 = 9
greatest_value TotalZeros8 = 8
greatest_value TotalZeros9 = 7
greatest_value TotalZeros10 = 6
greatest_value TotalZeros11 = 5
greatest_value TotalZeros12 = 4
greatest_value TotalZeros13 = 3
greatest_value TotalZeros14 = 2
greatest_value TotalZeros15 = 1
greatest_value TotalZerosChromaDc1 = 3
greatest_value TotalZerosChromaDc2 = 2
greatest_value TotalZerosChromaDc3 = 1
greatest_value RunBefore1 = 1
greatest_value RunBefore2 = 2
greatest_value RunBefore3 = 3
greatest_value RunBefore4 = 4
greatest_value RunBefore5 = 5
greatest_value RunBefore6 = 6
greatest_value RunBefore7 = 14
greatest_value CodedBlockPatternIntra = 47
greatest_value CodedBlockPatternInter = 47
greatest_value InvertedBit = 1
greatest_value LevelPrefix = 15
