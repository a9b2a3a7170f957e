-- A code word, by its row. To be read beside the standard.
use Rattle.h264_base.specs.Table.{Row}
use Rattle.h264_tables.specs.declared.code_words.CodeWord.{CodeWord}

abbrev pub word_of : Row → CodeWord
word_of r = record { length = r.length; bits = r.bits; value = r.value }
