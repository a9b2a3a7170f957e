use Rattle.std.proofs.Common.{◌∙◌, sym}
use Rattle.clap.specs.Words.{found_of, first_of}
use Rattle.clap.specs.Walk.{rows_of}
use Rattle.clap.proofs.WalkLemmas.{first_value-rows}
use Rattle.h264_words.proofs.Given.{of-rows}
use Rattle.h264_words.proofs.command_line.Wanted.value.Goals as goal

pub returns-in-Some : goal.returns-in-Some
returns-in-Some c =
    let found = found_of c.in-Some.found.now in
    c.get_str.ensures ∙ first_value-rows found c.args.option.now ∙ sym (of-rows (first_of c.args.option.now) _ (rows_of found) c.in-Some.ensures)
