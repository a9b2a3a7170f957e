use Rattle.std.specs.Prelude.{◌≡◌, ◌++◌, flat_map, take}
use Rattle.clap.specs.Walk.{rows_of}
use Rattle.clap.specs.Words.{first_of, found_of}
use Rattle.h264_command.specs.Lists.{texts_in, value_words}
use Rattle.h264_command.proofs.lists.add_values.Given as goal

abbrev pub invariant-loop-option : goal.invariant-loop-option
invariant-loop-option l =
    texts_in l.words.items ≡ texts_in l.fn.words.items ++ flat_map (λ o. value_words o.0.now (first_of o.0.now (rows_of (found_of l.found))))
    (take l.option-index l.option-items)
