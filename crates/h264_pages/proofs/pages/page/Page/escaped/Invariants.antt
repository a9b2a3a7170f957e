use Rattle.std.proofs.Common.{flat_map}
use Rattle.h264_pages.specs.Pages.{Adds}
use Rattle.h264_pages.specs.Html.{escaped_character}
use Rattle.h264_pages.proofs.pages.page.Page.escaped.Given as goal

abbrev pub invariant-loop-c : goal.invariant-loop-c
invariant-loop-c l = Adds l.fn.self l.self (flat_map escaped_character l.yielded)
