use Rattle.std.proofs.Common.{flat_map, take}
use Rattle.h264_pages.specs.Info.{after_comma}
use Rattle.h264_pages.specs.Pages.{Adds}
use Rattle.h264_pages.proofs.pages.info.put_more_sets.Given as goal

abbrev pub invariant-loop-set : goal.invariant-loop-set
invariant-loop-set l = Adds l.fn.page l.page (flat_map after_comma (take l.set-index l.sets))
