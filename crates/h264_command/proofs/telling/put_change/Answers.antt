use Rattle.std.proofs.Common.{◌++◌, ap, ◌∙◌}
use Rattle.h264_pages.specs.Pages.{text_on}
use Rattle.h264_command.proofs.telling.put_change.Goals as goal

pub returns-in-Ok : goal.returns-in-Ok
returns-in-Ok c whole =
    let added = c.put.ensures whole in
    (added.0, added.1 ∙ ap (λ l. text_on c.args.page.now ++ l) (c.as_str.ensures.value ∙ c.in-Ok.ensures))
