use Rattle.std.proofs.Common.{◌≡◌, List, Option, Some, None, option_map, map, string_bytes, true, refl, sym, ap, ◌∙◌, codes}
use Rattle.std.proofs.lemmas.Result.{err_from_is_err_and}
use Rattle.clap.specs.Words.{App, HasMatchesOf, Row, Text, first_of, is_simple, is_simple_and_free, subcommand_of, takes}
use Rattle.clap.proofs.OnLiterals.{clap_on_literals}
use Rattle.h264_words.specs.declared.command_line.Request.{Request}
use Rattle.h264_words.specs.Words.{program, asks, found_by, IsRequest, AsksFor}
use Rattle.h264_words.proofs.Taken.{short-at, taken-at}
use Rattle.h264_words.proofs.command_line.asked.Goals as goal

simple : is_simple program ≡ true
unfolding clap_on_literals
simple = refl

free : is_simple_and_free program ≡ true
unfolding clap_on_literals
free = refl

-- a request of what was found is one of the words that ask for it
of-words : (words : List Text) (found : Option (Text × Option Text)) (r : Option Request) → found ≡ asks program words → IsRequest found r → AsksFor words r
of-words words found None e h = rw e at h
of-words words found (Some r) e h = sym e ∙ h

pub returns-in_err-matches-clause-refused : goal.returns-in_err-matches-clause-refused
returns-in_err-matches-clause-refused c =
    let p = err_from_is_err_and c.from_residual-in_err-matches.result c.from_residual-in_err-matches.ensures.1 in
    rw (p.1, p.2) (λ t. c.in_err-matches.ensures.passes (ap (λ (a : App). takes a (map (λ w. string_bytes w) c.args.words.now)) c.in_ok-command.ensures ∙ t))

found-by : (matches : _) (words : List Text) (app : App) → app ≡ program → HasMatchesOf app words matches → found_by matches ≡ asks program words
found-by matches words app e h =
    let pick : Text × List Row → Text × Option Text = λ p. (p.0, first_of (codes "FILE") p.1) in
    ap (option_map pick) ((h (ap is_simple e ∙ simple)).1 ∙ ap (λ (a : App). subcommand_of a words) e)

pub returns-in-Some-clause-words : goal.returns-in-Some-clause-words
returns-in-Some-clause-words c =
    of-words (map (λ w. string_bytes w) c.args.words.now) _ (Some c.in-Some.request) (found-by _ _ _ c.in_ok-command.ensures c.in_ok-matches.ensures.matches)
    (rw c.in-Some.is at c.request_of.ensures)

pub returns-clause-words : goal.returns-clause-words
returns-clause-words c =
    of-words (map (λ w. string_bytes w) c.args.words.now) _ None (found-by _ _ _ c.in_ok-command.ensures c.in_ok-matches.ensures.matches)
    (rw c.in-None.is at c.request_of.ensures)

pub returns-in-Some-clause-matches : goal.returns-in-Some-clause-matches
returns-in-Some-clause-matches c =
    let e = c.in_ok-command.ensures in
    (c.in_ok-matches.ensures.matches (ap is_simple e ∙ simple)).1 ∙ ap (λ (a : App). subcommand_of a (map (λ w. string_bytes w) c.args.words.now)) e

pub returns-in-Some-clause-taken : goal.returns-in-Some-clause-taken
returns-in-Some-clause-taken c = taken-at _ program _ c.in_ok-command.ensures free c.in_ok-matches.ensures.kinds

pub returns-clause-taken : goal.returns-clause-taken
returns-clause-taken c = taken-at _ program _ c.in_ok-command.ensures free c.in_ok-matches.ensures.kinds

pub returns-in_err-matches-clause-untaken : goal.returns-in_err-matches-clause-untaken
returns-in_err-matches-clause-untaken c =
    let p = err_from_is_err_and c.from_residual-in_err-matches.result c.from_residual-in_err-matches.ensures.1 in
    rw (p.1, p.2) (short-at _ program _ c.in_ok-command.ensures free _ c.in_err-matches.ensures.kinds)
