use Rattle.std.proofs.Common.{flat_map, ◌++◌, codes}
use Rattle.h264_pages.specs.Pages.{Adds}
use Rattle.h264_pages.specs.Reasons.{quoted_character}
use Rattle.h264_pages.proofs.pages.reason.put_quoted.Given as goal

abbrev pub invariant-loop-c : goal.invariant-loop-c
invariant-loop-c l = Adds l.fn.page l.page (codes "'" ++ flat_map quoted_character l.yielded)
