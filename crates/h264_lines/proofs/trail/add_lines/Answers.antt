use Rattle.std.proofs.Common.{◌++◌, ◌<◌, take, get_or, length, pos, string_bytes, sym, ap, ◌∙◌, arith}
use Rattle.std.proofs.lemmas.List.{append-nil, append_assoc, take_more}
use Rattle.h264_base.specs.declared.element_name.ElementName.TheVariants.{ProfileIdc}
use Rattle.h264_lines.specs.Lines.{element_text}
use Rattle.h264_lines.specs.Told.{ended}
use Rattle.h264_lines.specs.Trail.{element_lines}
use Rattle.h264_lines.specs.declared.trail.Element.{Element}
use Rattle.h264_lines.proofs.Calls.{element-lines-more}
use Rattle.h264_lines.proofs.trail.add_lines.Goals as goal

pub loop-element-init : goal.loop-element-init
unfolding element_lines
loop-element-init c = sym (append-nil (string_bytes c.args.lines.now))

pub loop-element-preserved : goal.loop-element-preserved
loop-element-preserved c =
    let es = c.args.elements.now in
    let k = c.loop-element.element-index in
    let before = string_bytes c.args.lines.now in
    let d : Element = record { name = ProfileIdc; bit = 0; value = pos 0 } in
    let e = get_or es k d in
    let within : k < length es = omega arith in
    let more = sym (element-lines-more (take k es) e) ∙ ap element_lines (sym (take_more es k d within)) in
    c.in_ok-add_line.ensures ∙ ap (λ l. l ++ ended (element_text e.name e.bit e.value)) c.loop-element.invariant
    ∙ append_assoc before (element_lines (take k es)) (ended (element_text e.name e.bit e.value)) ∙ ap (λ l. before ++ l) more
