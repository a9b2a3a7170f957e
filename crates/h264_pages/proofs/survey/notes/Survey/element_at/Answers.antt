use Rattle.std.proofs.Common.{reverse, ap, ap₂, sym, ◌∙◌}
use Rattle.std.specs.List.{find}
use Rattle.std.specs.Option.{option_or}
use Rattle.std.proofs.lemmas.List.{reverse-append}
use Rattle.std.proofs.lemmas.List.Folds.{find-append}
use Rattle.h264_pages.specs.Surveyed.{begins_at}
use Rattle.h264_pages.proofs.survey.notes.Survey.element_at.Goals as goal

pub returns : goal.returns
returns c =
    let p = begins_at c.args.bit in
    let older = c.as_slices.result.0.now in
    let newer = c.as_slices.result.1.now in
    c.or.ensures ∙ ap₂ option_or c.newest_at.ensures c.newest_at-2.ensures ∙ sym (find-append p (reverse newer) (reverse older))
    ∙ ap (find p) (sym (reverse-append older newer)) ∙ ap (λ l. find p (reverse l)) c.as_slices.ensures
