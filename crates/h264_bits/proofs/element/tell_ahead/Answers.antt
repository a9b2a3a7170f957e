use Rattle.std.proofs.Common.{arith, ◌≡◌, ◌+◌, ◌∙◌, sym, ap, pos, refl}
use Rattle.std.proofs.lemmas.Int.{ints}
use mir.Val.{to_z}
use Rattle.std.specs.Int.{w64}
use Rattle.h264_bits.proofs.Elements.{word-read}
use Rattle.h264_bits.proofs.element.tell_ahead.Goals as goal

pub overflow_add-bit : goal.overflow_add-bit
overflow_add-bit g c =
    let f = c.requires.together.fits in
    let e = c.stream_bit.ensures in
    omega arith

pub returns-in-Ok-clause-meets : goal.returns-in-Ok-clause-meets
returns-in-Ok-clause-meets g c rule code word =
    let z : to_z w64 c.args.value ≡ pos c.args.value = omega (arith, ints) in
    let t = rw z at c.in-Ok.ensures.ok in
    let at = ap (λ b. b + c.args.before) c.stream_bit.ensures ∙ sym (c.requires.together.steady c.args.before (omega arith)) in
    word-read _ _ _ _ _ code _ _ _ _ _ _ (pos c.args.value) at refl word refl t c.in-Ok.ensures.kept
