-- What a writer writes: bits, from the first bit of an RBSP on. A working form.
use Rattle.std.specs.Prelude.{◌≡◌, ℕ, zero, suc, ◌*◌, ◌/◌, ◌%◌, ◌^◌, ◌==◌, ℤ, List, [], ◌∷◌, ◌++◌, length}
use Rattle.h264_base.specs.Table.{IsRow, Row}
use Rattle.h264_base.specs.Word.{Code, Word, StandsAt, Reads}
use Rattle.h264_base.specs.Grammar.{IsClosed}
use Rattle.h264_tables.specs.declared.table.Table.{Table}
use Rattle.h264_tables.specs.declared.code_words.CodeWord.{CodeWord}
use Rattle.h264_tables.specs.CodeWord.{word_of}
use Rattle.h264_tables.specs.Table.{rows_of}

-- the last n bits of a number, the highest first
unfoldable pub spelled : ℕ → ℕ → Word
spelled zero v = []
spelled (suc n) v = (v / 2 ^ n % 2 == 1) ∷ spelled n v

-- A word was written after the old bits: in all bytes that begin with the new bits, this value stands there.
pub record Writes (code : Code) (value : ℤ) (old new : Word) : Type 0 where
  pub word : Word
  pub whole : new ≡ old ++ word
  pub reads : (bytes : List ℕ) → StandsAt bytes 0 new → Reads code bytes (length old) value (length new)

-- The trailing bits were written after the old bits: the new bits fill bytes, and where there are no more bytes, they close the RBSP.
pub record Closes (old new : Word) : Type 0 where
  pub word : Word
  pub whole : new ≡ old ++ word
  pub full : length new % 8 ≡ 0
  pub closed : (bytes : List ℕ) → StandsAt bytes 0 new → 8 * length bytes ≡ length new → IsClosed bytes (length old)

-- the word is a row of the table, with this value
pub record IsWordFor (table : Table) (value : ℕ) (word : CodeWord) : Type 0 where
  pub row : Row
  pub is_row : IsRow (rows_of table) row
  pub word_is : word ≡ word_of row
  pub value_is : row.value ≡ value

-- no row of the table has this value
abbrev pub HasNoValue : Table → ℕ → Type 0
HasNoValue table value = (row : Row) → IsRow (rows_of table) row → row.value ≡ value → ⊥
