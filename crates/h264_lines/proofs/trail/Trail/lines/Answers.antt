use Rattle.std.proofs.Common.{◌++◌, take, drop, sym, ap, ap₂, ◌∙◌}
use Rattle.h264_lines.specs.Trail.{element_lines}
use Rattle.h264_lines.proofs.Calls.{element-lines-append}
use Rattle.h264_lines.proofs.trail.Trail.lines.Goals as goal

pub returns : goal.returns
returns c =
    let next = c.self.inside.next in
    let places = c.deref.ensures.value in
    let older = c.split_at.ensures.back ∙ ap (drop next) places in
    let newer = c.split_at.ensures.front ∙ ap (take next) places in
    let told = c.in_ok-add_lines.ensures ∙ ap₂ (λ l m. l ++ element_lines m) c.new-lines.ensures.bytes older in
    c.in_ok-add_lines-2.ensures ∙ ap₂ ◌++◌ told (ap element_lines newer) ∙ sym (element-lines-append _ _) ∙ ap element_lines c.self.view_is
