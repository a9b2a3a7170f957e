use Rattle.std.proofs.Common.{◌≡◌, ◌||◌, ◌&&◌, ◌∙◌, ap, ap₂, codes, false, is_some, rules, sym, true}
use Rattle.clap.specs.Walk.{rows_of}
use Rattle.clap.specs.Words.{found_of}
use Rattle.h264_words.specs.ListWords.{takes_lists}
use Rattle.h264_command.specs.Lists.{lists_files}
use Rattle.h264_command.proofs.PlainWords.{flag-found, one-found}
use Rattle.h264_command.proofs.lists.has_list.Goals as goal

pub returns-then-eq : goal.returns-then-eq
returns-then-eq c =
    let is : c.args.name.now ≡ codes "explain" = search rules in
    record {
      labels = λ _. flag-found (found_of c.args.found.now) (codes "all") c.get_flag.result c.get_flag.ensures.none c.get_flag.ensures.value
          c.get_flag.ensures.other;
      files = λ other. absurd (other is);
    }

pub returns-then-is_some : goal.returns-then-is_some
returns-then-is_some c =
    let found = found_of c.args.found.now in
    let some : is_some c.get_str.result ≡ true = search rules in
    record {
      labels = λ is. search rules;
      files = λ _. ap (λ b. b || (takes_lists c.args.name.now && lists_files (rows_of found)))
          (sym some ∙ one-found found (codes "name") c.get_str.result c.get_str.ensures);
    }

pub returns-then-takes_lists : goal.returns-then-takes_lists
returns-then-takes_lists c =
    let found = found_of c.args.found.now in
    let none : is_some c.get_str.result ≡ false = search rules in
    let takes : takes_lists c.args.name.now ≡ true = search rules in
    record {
      labels = λ is. search rules;
      files = λ _. c.lists_files.ensures ∙ sym (ap₂ (λ a b. a || (b && lists_files (rows_of found)))
          (sym (one-found found (codes "name") c.get_str.result c.get_str.ensures) ∙ none) takes);
    }

pub returns-else-takes_lists : goal.returns-else-takes_lists
returns-else-takes_lists c =
    let found = found_of c.args.found.now in
    let none : is_some c.get_str.result ≡ false = search rules in
    let takes : takes_lists c.args.name.now ≡ false = search rules in
    let said : c.takes_lists.result ≡ false = search rules in
    record {
      labels = λ is. search rules;
      files = λ _. said ∙ sym (ap₂ (λ a b. a || (b && lists_files (rows_of found)))
          (sym (one-found found (codes "name") c.get_str.result c.get_str.ensures) ∙ none) takes);
    }
