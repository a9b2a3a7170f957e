use Rattle.std.proofs.Common.{◌≡◌, ◌-◌, ◌∙◌, ap, arith, length}
use Rattle.std.proofs.lemmas.List.{length-drop}
use Rattle.h264_rbsp.proofs.Sizes.{sound, sound-along, same-body}
use Rattle.h264_rbsp.proofs.rbsp.Rbsp.of.Goals as goal

pub invariant_of-result : goal.invariant_of-result
invariant_of-result c =
    let payload = c.after_header.result.now in
    let n : length payload ≡ length c.body.result.now - 1 = ap length c.after_header.ensures ∙ length-drop 1 c.body.result.now in
    sound-along _ _ _ _ _ c.in-Ok.ensures.bytes c.in-Ok.ensures.dropped
    (sound c.from.result payload (omega (arith, c.body.ensures.fits, c.body.ensures.some))
    (omega (arith, c.body.ensures.judged, c.body.ensures.some, c.from.ensures.value)))

pub returns-in-Ok-clause-ok : goal.returns-in-Ok-clause-ok
returns-in-Ok-clause-ok c = same-body c.args.unit.now _ _ _ _ _ c.from.ensures.value c.body.ensures.value c.after_header.ensures c.in-Ok.ensures.bytes
    c.in-Ok.ensures.dropped
