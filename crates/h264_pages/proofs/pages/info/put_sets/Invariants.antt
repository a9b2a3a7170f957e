use Rattle.std.proofs.Common.{flat_map, take}
use Rattle.h264_pages.specs.Info.{set_lines}
use Rattle.h264_pages.specs.Pages.{Adds}
use Rattle.h264_pages.proofs.pages.info.put_sets.Given as goal

abbrev pub invariant-loop-set : goal.invariant-loop-set
invariant-loop-set l = Adds l.fn.page l.page (flat_map set_lines (take l.set-index l.sets))
