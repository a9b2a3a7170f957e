use Rattle.std.proofs.Common.{◌≡◌, Option, Some, None, option_map, unwrap_or, sym, ap, ap₂, ◌∙◌, codes}
use Rattle.clap.specs.Words.{Text, first_of, found_of}
use Rattle.clap.specs.Walk.{rows_of}
use Rattle.clap.proofs.WalkLemmas.{first_value-rows}
use Rattle.h264_words.specs.Words.{name_of}
use Rattle.h264_words.proofs.Given.{named, none-some, subcommand-rows}
use Rattle.h264_words.proofs.command_line.request_of.Goals as goal

second : (p q : Text × Option Text) → Some p ≡ Some q → p.1 ≡ q.1
second p q e = ap (λ o. unwrap_or (option_map (λ (r : Text × Option Text). r.1) o) None) e

pub returns-in_err-file : goal.returns-in_err-file
returns-in_err-file c =
    let at = named _ _ _ (subcommand-rows c.args.matches.now c.in_ok-name.name.now (rows_of (found_of c.in_ok-name.found.now)) c.in_ok-name.ensures.name
    c.in_ok-name.ensures.rows) in
    let none = sym (first_value-rows (found_of c.in_ok-name.found.now) (codes "FILE")) ∙ sym c.in_err-file.ensures in
    rw c.from_residual-in_err-file.ensures (λ task file e. none-some file
    (sym none ∙ second (c.in_ok-name.name.now, first_of (codes "FILE") (rows_of (found_of c.in_ok-name.found.now))) (name_of task, Some file)
    (sym at ∙ e)))

pub returns : goal.returns
returns c =
    let at = named _ _ _ (subcommand-rows c.args.matches.now c.in_ok-name.name.now (rows_of (found_of c.in_ok-name.found.now)) c.in_ok-name.ensures.name
    c.in_ok-name.ensures.rows) in
    let file = sym (first_value-rows (found_of c.in_ok-name.found.now) (codes "FILE")) ∙ sym c.in_ok-file.ensures in
    at ∙ ap₂ (λ (n : Text) (f : Option Text). Some (n, f)) (sym c.in_ok-task.ensures.task) file
