use Rattle.std.proofs.Common.{◌≡◌, ◌∙◌, ap, map, string_bytes, true, refl}
use Rattle.std.proofs.lemmas.Result.{IfOk-weaker}
use Rattle.clap.specs.Words.{App, is_simple, is_simple_and_free, subcommand_of}
use Rattle.clap.proofs.OnLiterals.{clap_on_literals}
use Rattle.h264_words.specs.ListWords.{list_program}
use Rattle.h264_words.proofs.Taken.{parsed-taken, taken-or-short}
use Rattle.h264_words.proofs.command_line.listed.Goals as goal

free : is_simple_and_free list_program ≡ true
unfolding clap_on_literals
free = refl

simple : is_simple list_program ≡ true
unfolding clap_on_literals
simple = refl

pub returns-clause-taken : goal.returns-clause-taken
returns-clause-taken c = parsed-taken _ list_program _ c.in_ok-command.ensures free _ c.try_get_matches_from.ensures.kinds

pub returns-clause-matches : goal.returns-clause-matches
returns-clause-matches c =
    let app = c.in_ok-command.ensures in
    IfOk-weaker c.try_get_matches_from.result _ _ (λ m h. (h (ap is_simple app ∙ simple)).1
    ∙ ap (λ (a : App). subcommand_of a (map (λ w. string_bytes w) c.args.words.now)) app) c.try_get_matches_from.ensures.matches

pub returns-clause-refused : goal.returns-clause-refused
returns-clause-refused c = taken-or-short _ list_program _ c.in_ok-command.ensures free _ c.try_get_matches_from.ensures.kinds
