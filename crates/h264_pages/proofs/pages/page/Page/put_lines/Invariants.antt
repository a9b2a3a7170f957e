use Rattle.std.proofs.Common.{◌≡◌}
use Rattle.h264_pages.specs.Pages.{Adds, prefixed_after}
use Rattle.h264_pages.proofs.Lines.{last_of}
use Rattle.h264_pages.proofs.pages.page.Page.put_lines.Given as goal

abbrev pub invariant-loop-c : goal.invariant-loop-c
invariant-loop-c l = record {
  before : l.before ≡ last_of 10 l.yielded;
  text : Adds l.fn.self l.self (prefixed_after l.prefix 10 l.yielded);
}
