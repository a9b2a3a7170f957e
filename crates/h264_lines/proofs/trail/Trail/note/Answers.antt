use Rattle.std.proofs.Common.{◌≡◌, ◌++◌, ◌∷◌, [], length, w64, SFits, ap, ◌∙◌, arith, rules}
use Rattle.std.proofs.lemmas.Int.{to_z-of_z}
use Rattle.circular_buffer.specs.Buffer.{keep_last}
use Rattle.h264_lines.specs.declared.trail.Element.{Element}
use Rattle.h264_lines.proofs.Turned.{turned-round}
use Rattle.h264_lines.proofs.trail.Trail.note.Goals as goal

pub returns : goal.returns
returns c =
    let t = c.self.inside in
    let all : length t.elements.items ≡ 16 = omega arith in
    let f : SFits w64 c.args.value = search rules in
    let e : Element = record { name = c.args.name; bit = c.args.bit; value = c.args.value } in
    rw to_z-of_z (turned-round t.elements.items t.next 16 e all c.self.invariant.within ∙ ap (λ l. keep_last 16 (l ++ e ∷ [])) c.self.view_is)
