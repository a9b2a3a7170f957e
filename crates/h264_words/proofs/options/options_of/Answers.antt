use Rattle.std.proofs.Common.{Bor, refl, sym, ◌∙◌, subst}
use Rattle.clap.specs.Words.{Text, subcommand_rows_of}
use Rattle.h264_words.specs.Options.{IsClash, Misused, Unclear}
use Rattle.h264_words.proofs.Given.{some-given, names-given}
use Rattle.h264_words.proofs.options.options_of.Goals as goal

pub returns-in-Err-clause-refused : goal.returns-in-Err-clause-refused
returns-in-Err-clause-refused c = Unclear c.in-Err.unreadable refl c.in-Err.ensures.unreadable

pub returns-in-Some-clause-refused : goal.returns-in-Some-clause-refused
returns-in-Some-clause-refused c =
    let named = some-given (λ (v : Bor Text). v.now) c.value.result _ c.value.ensures in
    Misused c.in-Ok.options c.in-Ok.ensures.given
    (c.in-Some.ensures.some (subcommand_rows_of c.args.wanted.now.matches) (λ s. sym named ∙ sym c.is_some.ensures ∙ s))

pub returns-in-Some-noise-clause-refused : goal.returns-in-Some-noise-clause-refused
returns-in-Some-noise-clause-refused c = Misused c.in-Ok.options c.in-Ok.ensures.given c.in-Some-noise.ensures.some

pub returns-in-Some-clash-clause-refused : goal.returns-in-Some-clash-clause-refused
returns-in-Some-clash-clause-refused c =
    let w = c.args.wanted.now in
    let names = names-given c.files.result c.unwrap_or.result _ (subcommand_rows_of w.matches) c.files.ensures c.unwrap_or.ensures refl in
    Misused c.in-Ok.options c.in-Ok.ensures.given
    (subst (λ files. IsClash w.request.task c.in-Ok.options files c.in-Some-clash.clash) names c.in-Some-clash.ensures.some)
