use Rattle.std.proofs.Common.{◌∙◌, sym, codes}
use Rattle.clap.specs.Words.{found_of, all_of}
use Rattle.clap.specs.Walk.{rows_of}
use Rattle.clap.proofs.WalkLemmas.{raw_values-rows}
use Rattle.h264_words.proofs.Given.{of-rows}
use Rattle.h264_words.proofs.command_line.Wanted.files.Goals as goal

pub returns-in-Some : goal.returns-in-Some
returns-in-Some c =
    let found = found_of c.in-Some.found.now in
    c.get_strs.ensures ∙ raw_values-rows found (codes "FILE") ∙ sym (of-rows (all_of (codes "FILE")) _ (rows_of found) c.in-Some.ensures)
