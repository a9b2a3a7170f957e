-- What stands in the code's macroblock once its residual is read. A working form.
use Rattle.std.specs.Prelude.{◌≡◌, ℕ, length, List}
use Rattle.h264_base.specs.declared.element_name.ElementName.TheVariants.{CodedBlockPattern}
use Rattle.h264_base.specs.Word.{Words}
use Rattle.h264_base.specs.Grammar.{Grammar, ◌>>=◌, element}
use Rattle.h264_tables.specs.declared.table.Table.{Table}
use Rattle.h264_tables.specs.Table.{code_table}
use Rattle.h264_bits.specs.Forms.{natural}
use Rattle.h264_near.specs.Coded.{CodedMacroblock}
use Rattle.h264_mbsyntax.specs.declared.macroblock.Macroblock.{Macroblock}
use Rattle.h264_mbsyntax.specs.Residual.{Coefficients, coefficients}
use Rattle.h264_mbsyntax.specs.Stored.{StoredCoefficients, StoredCoefficients16}

-- QP_Y and the blocks of a macroblock that is not Intra 16x16
pub record HasCoefficients (mb : Macroblock) (v : Coefficients) : Type 0 where
  pub qp : mb.contexts.qp ≡ mb.qp
  pub sized : length mb.contexts.totals ≡ 16
  pub chroma_sized : length mb.contexts.chroma_totals ≡ 8
  pub stored : StoredCoefficients mb v

-- the same of an Intra 16x16 macroblock
pub record HasCoefficients16 (mb : Macroblock) (v : Coefficients) : Type 0 where
  pub qp : mb.contexts.qp ≡ mb.qp
  pub sized : length mb.contexts.totals ≡ 16
  pub chroma_sized : length mb.contexts.chroma_totals ≡ 8
  pub stored : StoredCoefficients16 mb v

-- what a macroblock says of its prediction stays
pub record IsSame (old new : Macroblock) : Type 0 where
  pub kind : new.kind ≡ old.kind
  pub chroma_mode : new.chroma_mode ≡ old.chroma_mode
  pub slice : new.contexts.slice ≡ old.contexts.slice
  pub intra : new.contexts.intra ≡ old.contexts.intra
  pub modes : new.contexts.modes ≡ old.contexts.modes
  pub motions : new.contexts.motions ≡ old.contexts.motions

-- coded_block_pattern by its table, and what it says is coded, in macroblocks that are not Intra 16x16
unfoldable pub patterned : Table → ℕ → List CodedMacroblock → ℕ → ℕ → Grammar Coefficients
patterned table width picture slice predicted_qp = do
  pattern ← element CodedBlockPattern (Words (code_table table))
  coefficients width picture slice predicted_qp (natural pattern.value)
