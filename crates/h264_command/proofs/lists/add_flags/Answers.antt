use Rattle.h264_command.specs.Lists.{texts_in}
use Rattle.clap.specs.Walk.{rows_of}
use Rattle.clap.specs.Words.{found_of}
use Rattle.h264_command.proofs.PlainWords.{one-flag}
use Rattle.h264_command.proofs.lists.add_flags.Goals as goal

pub loop-option-preserved : goal.loop-option-preserved
loop-option-preserved c =
    let more = c.in_ok-add_flag.ensures in
    one-flag (rows_of (found_of c.args.found.now)) (λ o. o.0.now) _ c.loop-option.option-index _ more.0 (texts_in c.args.words.now.items)
    (texts_in c.loop-option.words.items) (texts_in c.add_flag.new.words.items) c.loop-option-test.true c.loop-option.invariant more.1 more.2
