use Rattle.std.specs.Prelude.{map, take}
use Rattle.clap.specs.Walk.{rows_of}
use Rattle.clap.specs.Words.{found_of}
use Rattle.h264_command.specs.Lists.{texts_in, HasFlags}
use Rattle.h264_command.proofs.lists.add_flags.Given as goal

abbrev pub invariant-loop-option : goal.invariant-loop-option
invariant-loop-option l =
    HasFlags (rows_of (found_of l.found)) (map (λ o. o.0.now) (take l.option-index l.option-items)) (texts_in l.fn.words.items) (texts_in l.words.items)
