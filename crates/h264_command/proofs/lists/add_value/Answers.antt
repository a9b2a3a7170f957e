use Rattle.std.proofs.Common.{◌≡◌, ◌++◌, ◌∙◌, sym, subst}
use Rattle.std.proofs.lemmas.List.{append-nil}
use Rattle.clap.specs.Words.{found_of}
use Rattle.clap.proofs.WalkLemmas.{first_value-rows}
use Rattle.h264_command.specs.Lists.{texts_in, value_words}
use Rattle.h264_command.proofs.PlainWords.{word-more}
use Rattle.h264_command.proofs.lists.add_value.Goals as goal

pub returns-in_ok-push : goal.returns-in_ok-push
returns-in_ok-push c =
    let old = c.args.words.now.items in
    let option = c.args.option.now in
    let word = word-more old c.push.new.self.items c.in_ok-format.field-0 _ c.in_ok-push.ensures.items c.in_ok-format.ensures.ok in
    subst (λ value. texts_in c.push.new.self.items ≡ texts_in old ++ value_words option value)
    (c.in-Some.ensures ∙ first_value-rows (found_of c.args.found.now) option) word

pub returns-in_default : goal.returns-in_default
returns-in_default c =
    let old = texts_in c.args.words.now.items in
    let option = c.args.option.now in
    subst (λ value. old ≡ old ++ value_words option value) (c.in_default.ensures ∙ first_value-rows (found_of c.args.found.now) option) (sym (append-nil old))
