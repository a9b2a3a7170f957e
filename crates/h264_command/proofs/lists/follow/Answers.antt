use Rattle.std.proofs.Common.{◌++◌, ◌∙◌, ap, append_assoc}
use Rattle.clap.specs.Walk.{rows_of}
use Rattle.clap.specs.Words.{found_of}
use Rattle.h264_command.specs.Lists.{texts_in, names_given}
use Rattle.h264_command.proofs.PlainWords.{ok-then}
use Rattle.h264_command.proofs.lists.follow.Goals as goal

pub returns-else-eq-clause-plain : goal.returns-else-eq-clause-plain
returns-else-eq-clause-plain g c =
    let front = c.in_ok-add_front.ensures in
    let before = texts_in c.add_front.new.words.items in
    let given = names_given (rows_of (found_of c.args.matches.1.now)) in
    ok-then _ _ c.add_files.result (λ more. (
      front.0,
      front.1,
      (
        given ++ more.0,
        more.1 ∙ append_assoc before given more.0
            ∙ ap (λ l. l ++ (given ++ more.0)) front.2,
      ),
    )) c.add_files.ensures
