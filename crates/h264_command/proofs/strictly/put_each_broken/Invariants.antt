use Rattle.std.specs.Prelude.{◌≡◌, List, length, flat_map}
use Rattle.h264_pages.specs.Pages.{Adds}
use Rattle.h264_command.specs.declared.strictly.Broken.{Broken}
use Rattle.h264_command.specs.FurtherTold.{broken_text}
use Rattle.h264_command.proofs.StrictTold.{WereTold}
use Rattle.h264_command.proofs.strictly.put_each_broken.Given as goal

abbrev pub invariant-loop : goal.invariant-loop
invariant-loop l = (broken : List Broken) × (length broken ≡ l.index) × WereTold l.further l.last broken
    × Adds l.fn.page l.page (flat_map (broken_text l.form) broken)
