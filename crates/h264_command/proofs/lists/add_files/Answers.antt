use Rattle.std.proofs.Common.{◌++◌, ◌∙◌, ap}
use Rattle.h264_command.specs.Lists.{texts_in}
use Rattle.h264_command.proofs.PlainWords.{more-more}
use Rattle.h264_command.proofs.lists.add_files.Goals as goal

pub returns : goal.returns
returns g c =
    let more = more-more (texts_in c.add_given.new.names.items) (texts_in c.loop-list.names.items) (texts_in c.loop-folder.names.items)
    c.loop-list.invariant c.loop-folder.invariant in
    (more.0, more.1 ∙ ap (λ l. l ++ more.0) c.in_ok-add_given.ensures)
