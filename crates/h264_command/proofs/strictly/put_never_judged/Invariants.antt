use Rattle.std.specs.Prelude.{flat_map, take}
use Rattle.h264_pages.specs.Pages.{Adds}
use Rattle.h264_command.specs.FurtherTold.{unjudged_text}
use Rattle.h264_command.proofs.strictly.put_never_judged.Given as goal

abbrev pub invariant-loop-name : goal.invariant-loop-name
invariant-loop-name l = Adds l.fn.page l.page (flat_map (λ p. unjudged_text l.form p.0.now p.1.now) (take l.name-index l.name-items))
