use Rattle.h264_tables.specs.Table.{rows_of}
use Rattle.h264_write.proofs.Tables.{LacksTo}
use Rattle.h264_write.proofs.rows.word_for.Given as goal

abbrev pub invariant-loop-i : goal.invariant-loop-i
invariant-loop-i l = LacksTo l.i (rows_of l.table) l.value
