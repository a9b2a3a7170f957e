use Rattle.std.proofs.Common.{ap, ap₂, ◌∙◌, ◌||◌}
use Rattle.std.proofs.lemmas.Result.{IfOk-weaker}
use Rattle.clap.specs.Words.{App, app_of, with_subcommand}
use Rattle.h264_words.proofs.command_line.with_list_file.Goals as goal

pub returns-clause-app : goal.returns-clause-app
returns-clause-app c =
    IfOk-weaker c.subcommand.result _ _ (λ r h. h.shape c.in_ok-added.ensures.local ∙
    ap (λ (a : App). with_subcommand (app_of c.args.command) a.top) c.in_ok-added.ensures.app) c.subcommand.ensures

pub returns-clause-local : goal.returns-clause-local
returns-clause-local c =
    IfOk-weaker c.subcommand.result _ _ (λ r h. h.globals ∙ ap₂ (λ x y. x || y) c.requires.local c.in_ok-added.ensures.local) c.subcommand.ensures
