use Rattle.std.specs.Prelude.{◌≡◌, ◌++◌, map, option_map, take}
use Rattle.h264_command.specs.Lists.{texts_in, named_by}
use Rattle.h264_command.proofs.lists.add_names.Given as goal

abbrev pub invariant-loop-name : goal.invariant-loop-name
invariant-loop-name g l =
    texts_in l.names.items ≡ texts_in l.fn.names.items ++ map (λ name. named_by (option_map (λ s. s.now) l.input) name.now) (take l.name-index l.given)
