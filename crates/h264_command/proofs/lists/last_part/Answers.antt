use Rattle.std.proofs.Common.{◌++◌, ◌∙◌, ap, sym, take}
use Rattle.std.proofs.lemmas.List.{take-append-drop}
use Rattle.h264_command.proofs.lists.last_part.Goals as goal

pub returns-in-Some : goal.returns-in-Some
returns-in-Some c =
    let name = c.args.name.now in
    let parts = c.in-Some.ensures.cases in
    (take parts.1 name, sym (take-append-drop parts.1 name) ∙ ap (λ l. take parts.1 name ++ l) (sym parts.4))
