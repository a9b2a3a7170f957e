use Rattle.std.proofs.Common.{◌∙◌, sym}
use Rattle.clap.specs.Words.{found_of, one_of}
use Rattle.clap.specs.Walk.{rows_of}
use Rattle.clap.proofs.WalkLemmas.{one_text-rows}
use Rattle.h264_words.proofs.Given.{of-rows}
use Rattle.h264_words.proofs.command_line.Wanted.has.Goals as goal

pub returns-in-Some : goal.returns-in-Some
returns-in-Some c =
    let found = found_of c.in-Some.found.now in
    let e = one_text-rows found c.args.option.now ∙ sym (of-rows (one_of c.args.option.now) _ (rows_of found) c.in-Some.ensures) in
    record { absent = λ n. c.get_flag.ensures.none (e ∙ n); given = λ t. c.get_flag.ensures.value (e ∙ t); not_given = λ t. c.get_flag.ensures.other (e ∙ t) }
