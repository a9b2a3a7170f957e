use Rattle.std.proofs.Common.{arith, ◌≡◌, pos, refl}
use Rattle.std.proofs.lemmas.Int.{ints}
use mir.Val.{to_z}
use Rattle.std.specs.Int.{w64}
use Rattle.h264_base.specs.Word.{Words}
use Rattle.h264_tables.specs.Table.{code_table}
use Rattle.h264_bits.proofs.Elements.{word-read, word-missing}
use Rattle.h264_bits.proofs.element.read_entry.Goals as goal

pub returns-in_default-clause-meets : goal.returns-in_default-clause-meets
returns-in_default-clause-meets g c = word-missing _ _ _ _ _ (Words (code_table c.args.word.table)) _ _ _ _ c.stream_bit-bit.ensures c.in_default.ensures.none
    c.in_default.ensures.kept

pub returns-in-Ok-element-clause-meets : goal.returns-in-Ok-element-clause-meets
returns-in-Ok-element-clause-meets g c =
    let e = c.in-Ok.ensures in
    let z : to_z w64 c.in-Ok.value ≡ pos c.in-Ok.value = omega (arith, ints) in
    let t = rw z at c.in-Ok-element.ensures.ok in
    word-read _ _ _ _ _ (Words (code_table c.args.word.table)) _ _ _ _ _ _ (pos c.in-Ok.value) c.stream_bit-bit.ensures refl e.word e.body t
    c.in-Ok-element.ensures.kept
