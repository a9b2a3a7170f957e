-- te(v): truncated Exp-Golomb words (9.1). To be read beside the standard.
use Rattle.std.specs.Prelude.{ℕ, ◌==◌, if◌then◌else◌}
use Rattle.h264_base.specs.Word.{Code, Unsigned, Words}
use Rattle.h264_tables.specs.declared.table.Table.TheVariants.{InvertedBit}
use Rattle.h264_tables.specs.Table.{code_table}

-- the code of an element that lies in 0 to x: one inverted bit where x is 1, and else ue(v)
abbrev pub truncated : ℕ → Code
truncated x = if x == 1 then Words (code_table InvertedBit) else Unsigned
