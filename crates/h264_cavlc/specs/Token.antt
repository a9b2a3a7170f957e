-- coeff_token and the trailing ones (9.2.1, 9.2.2). To be read beside the standard.
use Rattle.std.specs.Prelude.{ℕ, ℤ, pos, negsuc, ◌/◌, ◌%◌, ◌==◌, nat_le, if◌then◌else◌}
use Rattle.h264_base.specs.declared.element_name.ElementName.TheVariants.{CoeffToken, TrailingOnesSignFlag}
use Rattle.h264_base.specs.declared.rule.Rule.TheVariants.{BlockSize}
use Rattle.h264_base.specs.Word.{Fixed, Words}
use Rattle.h264_base.specs.Grammar.{Grammar, Done, ◌>>=◌, residual_element, check}
use Rattle.h264_tables.specs.declared.table.Table.{Table}
use Rattle.h264_tables.specs.declared.table.Table.TheVariants.{CoeffTokenChromaDc}
use Rattle.h264_tables.specs.Choice.{coeff_token_by}
use Rattle.h264_tables.specs.Table.{code_table}
use Rattle.h264_bits.specs.Forms.{natural}
use Rattle.h264_cavlc.specs.declared.token.Token.{Token}

-- the table of a block of this size: one of 4 coefficients is chroma DC, whatever nC is (Table 9-5)
unfoldable pub coeff_token_table : ℕ → ℕ → Table
coeff_token_table size nc = if size == 4 then CoeffTokenChromaDc else coeff_token_by nc

-- what a value of coeff_token says: 4 * TotalCoeff + TrailingOnes
abbrev pub token_of : ℕ → Token
token_of value = record { total = value / 4; ones = value % 4 }

unfoldable pub coeff_token : ℕ → ℕ → Grammar Token
coeff_token size nc = do
  e ← residual_element CoeffToken (Words (code_table (coeff_token_table size nc)))
  _ ← check BlockSize e.bit (nat_le (natural e.value / 4) size)
  Done (token_of (natural e.value))

-- a trailing one is 1, or -1 where its sign is 1
abbrev pub one_of : ℕ → ℤ
one_of sign = if sign == 0 then pos 1 else negsuc 0

unfoldable pub trailing_one : Grammar ℤ
trailing_one = do
  e ← residual_element TrailingOnesSignFlag (Fixed 1)
  Done (one_of (natural e.value))
