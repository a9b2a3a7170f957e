use Rattle.std.proofs.Common.{◌≡◌, ◌∙◌, ap, false, fold, rules}
use Rattle.std.proofs.lemmas.Result.{IfOk-weaker}
use Rattle.clap.specs.Words.{App, app_of, new_app, with_rule}
use Rattle.h264_words.specs.ListWords.{list_rules}
use Rattle.h264_words.specs.Words.{files_rule, with_flags, with_values}
use Rattle.h264_words.proofs.command_line.list_command.Goals as goal

pub returns-clause-app : goal.returns-clause-app
returns-clause-app c =
    let name = c.args.name.now in
    let front : app_of c.in_ok-command-3.command ≡ with_values (with_flags (with_rule (new_app name) (record files_rule { required = false }))) =
    search rules in
    IfOk-weaker c.with_lists.result _ _ (λ r h. h ∙ ap (λ (a : App). fold with_rule a (list_rules name)) front) c.with_lists.ensures.app
