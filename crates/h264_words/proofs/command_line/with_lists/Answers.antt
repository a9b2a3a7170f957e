use Rattle.std.proofs.Common.{◌≡◌, ◌∙◌, ap, codes, cond, false, fold, rules, sym, true, Bool, List, [], ◌∷◌}
use Rattle.std.proofs.lemmas.Result.{IfOk-weaker}
use Rattle.std.specs.Str.{bytes_eq}
use Rattle.clap.specs.Words.{App, Rule, Text, app_of, with_rule}
use Rattle.clap.specs.declared.builder.action.ArgAction.TheVariants.{Append, Set}
use Rattle.h264_words.specs.ListWords.{lettered_rule, list_rule, list_rules, takes_lists}
use Rattle.h264_words.specs.Words.{flag_rule}
use Rattle.h264_words.proofs.command_line.with_lists.Goals as goal

abbrev lists : List Rule
lists = list_rule (codes "files0-from") Append ∷ lettered_rule (codes "recursive") 114 ∷ list_rule (codes "glob") Set ∷ []

rules-of : (name : Text) → bytes_eq name (codes "explain") ≡ false → takes_lists name ≡ true → list_rules name ≡ list_rule (codes "name") Set ∷ lists
rules-of name other takes =
    let named = list_rule (codes "name") Set in
    ap (λ (b : Bool). cond b (flag_rule (codes "all") ∷ []) (named ∷ cond (takes_lists name) lists [])) other
    ∙ ap (λ (b : Bool). named ∷ cond b lists []) takes

pub returns-clause-app : goal.returns-clause-app
returns-clause-app c =
    let other : bytes_eq c.args.name.now (codes "explain") ≡ false = search rules in
    let takes : takes_lists c.args.name.now ≡ true = search rules in
    let listed = c.in_ok-listed.ensures.app ∙ ap (λ (a : App). with_rule a (list_rule (codes "files0-from") Append)) c.in_ok-named.ensures.app in
    let below = c.in_ok-below.ensures.app ∙ ap (λ (a : App). with_rule a (lettered_rule (codes "recursive") 114)) listed in
    IfOk-weaker c.with_list-3.result _ _ (λ r h. h ∙ ap (λ (a : App). with_rule a (list_rule (codes "glob") Set)) below
    ∙ ap (fold with_rule (app_of c.args.command)) (sym (rules-of c.args.name.now other takes))) c.with_list-3.ensures.app
