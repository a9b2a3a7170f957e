use Rattle.h264_command.specs.Lists.{texts_in, value_words}
use Rattle.clap.specs.Walk.{rows_of}
use Rattle.clap.specs.Words.{first_of, found_of}
use Rattle.h264_command.proofs.PlainWords.{each-more}
use Rattle.h264_command.proofs.lists.add_values.Goals as goal

pub loop-option-preserved : goal.loop-option-preserved
loop-option-preserved c =
    each-more (λ o. value_words o.0.now (first_of o.0.now (rows_of (found_of c.args.found.now)))) _ c.loop-option.option-index _
    (texts_in c.args.words.now.items) (texts_in c.loop-option.words.items) (texts_in c.add_value.new.words.items) c.loop-option-test.true
    c.loop-option.invariant c.in_ok-add_value.ensures
