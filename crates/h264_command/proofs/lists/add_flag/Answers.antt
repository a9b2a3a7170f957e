use Rattle.std.proofs.Common.{◌≡◌, ◌++◌, sym, subst}
use Rattle.std.proofs.lemmas.List.{append-nil}
use Rattle.clap.specs.Words.{found_of}
use Rattle.h264_command.specs.Lists.{texts_in, flag_words}
use Rattle.h264_command.proofs.PlainWords.{flag-found, word-more}
use Rattle.h264_command.proofs.lists.add_flag.Goals as goal

pub returns-in_ok-push : goal.returns-in_ok-push
returns-in_ok-push c =
    let old = c.args.words.now.items in
    let said = c.get_flag.ensures in
    let option = c.args.option.now in
    let word = word-more old c.push.new.self.items c.in_ok-format.field-0 _ c.in_ok-push.ensures.items c.in_ok-format.ensures.ok in (
      c.get_flag.result,
      flag-found (found_of c.args.found.now) option c.get_flag.result said.none said.value said.other,
      subst (λ has. texts_in c.push.new.self.items ≡ texts_in old ++ flag_words option has) (sym c.if-get_flag.true) word,
    )

pub returns-else-get_flag : goal.returns-else-get_flag
returns-else-get_flag c =
    let old = texts_in c.args.words.now.items in
    let said = c.get_flag.ensures in
    let option = c.args.option.now in (
      c.get_flag.result,
      flag-found (found_of c.args.found.now) option c.get_flag.result said.none said.value said.other,
      subst (λ has. old ≡ old ++ flag_words option has) (sym c.if-get_flag.false) (sym (append-nil old)),
    )
