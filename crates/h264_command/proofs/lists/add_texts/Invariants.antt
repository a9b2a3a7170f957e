use Rattle.std.specs.Prelude.{◌≡◌, ◌++◌, map, take}
use Rattle.h264_command.specs.Lists.{texts_in}
use Rattle.h264_command.proofs.lists.add_texts.Given as goal

abbrev pub invariant-loop-text : goal.invariant-loop-text
invariant-loop-text l = texts_in l.words.items ≡ texts_in l.fn.words.items ++ map (λ t. t.now) (take l.text-index l.texts)
