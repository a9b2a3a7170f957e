use Rattle.std.proofs.Common.{◌≡◌, ◌∙◌, codes, false, is_some, refl, rules, sym, true}
use Rattle.clap.specs.Walk.{rows_of}
use Rattle.clap.specs.Words.{found_of}
use Rattle.h264_command.proofs.ListsFound.{lists-by}
use Rattle.h264_command.proofs.PlainWords.{all-found, one-found}
use Rattle.h264_command.proofs.lists.lists_files.Goals as goal

pub returns-then-is_some : goal.returns-then-is_some
returns-then-is_some c =
    let found = found_of c.args.found.now in
    let some : is_some c.get_strs.result ≡ true = search rules in
    lists-by (rows_of found) true _ _ (sym (all-found found (codes "files0-from") c.get_strs.result c.get_strs.ensures) ∙ some) refl refl

pub returns-then-is_some-2 : goal.returns-then-is_some-2
returns-then-is_some-2 c =
    let found = found_of c.args.found.now in
    let none : is_some c.get_strs.result ≡ false = search rules in
    let some : is_some c.get_strs-2.result ≡ true = search rules in
    lists-by (rows_of found) false true _ (sym (all-found found (codes "files0-from") c.get_strs.result c.get_strs.ensures) ∙ none)
    (sym (all-found found (codes "recursive") c.get_strs-2.result c.get_strs-2.ensures) ∙ some) refl

pub returns : goal.returns
returns c =
    let found = found_of c.args.found.now in
    let none : is_some c.get_strs.result ≡ false = search rules in
    let none-2 : is_some c.get_strs-2.result ≡ false = search rules in
    c.is_some-3.ensures ∙ lists-by (rows_of found) false false _ (sym (all-found found (codes "files0-from") c.get_strs.result c.get_strs.ensures) ∙ none)
    (sym (all-found found (codes "recursive") c.get_strs-2.result c.get_strs-2.ensures) ∙ none-2)
    (sym (one-found found (codes "glob") c.get_str.result c.get_str.ensures))
