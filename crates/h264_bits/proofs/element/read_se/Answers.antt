use Rattle.std.proofs.Common.{rules, arith, ◌≡◌, refl}
use Rattle.std.proofs.lemmas.Int.{ints, to_z-of_z}
use mir.Val.{to_z, of_z, SFits}
use Rattle.std.specs.Int.{w32, w64}
use Rattle.h264_base.specs.Word.{Signed}
use Rattle.h264_bits.proofs.Elements.{word-read, word-missing}
use Rattle.h264_bits.proofs.element.read_se.Goals as goal

pub returns-in_default-clause-meets : goal.returns-in_default-clause-meets
returns-in_default-clause-meets g c = word-missing _ _ _ _ _ Signed _ _ _ _ c.stream_bit-bit.ensures c.in_default.ensures.none c.in_default.ensures.kept

pub returns-in-Ok-element-clause-meets : goal.returns-in-Ok-element-clause-meets
returns-in-Ok-element-clause-meets g c =
    let e = c.in-Ok.ensures in
    let f : SFits w32 c.in-Ok.value = search rules in
    let y : to_z w32 (of_z w32 c.in-Ok.value) ≡ c.in-Ok.value = to_z-of_z w32 c.in-Ok.value f in
    let z : to_z w64 (of_z w64 c.in-Ok.value) ≡ c.in-Ok.value = omega (arith, ints) in
    let t = rw (y, z) at c.in-Ok-element.ensures.ok in
    rw y (word-read _ _ _ _ _ Signed _ _ _ _ _ _ c.in-Ok.value c.stream_bit-bit.ensures refl e.word e.body t c.in-Ok-element.ensures.kept)
