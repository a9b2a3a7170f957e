use Rattle.std.proofs.Common.{◌++◌, flat_map, string_bytes, sym, ap, ◌∙◌, map-id}
use Rattle.std.proofs.lemmas.Iterator.{YieldsList-from_chars}
use Rattle.std.proofs.lemmas.Iterator.Consumers.{YieldsList-end}
use Rattle.h264_pages.specs.Html.{escaped_character, escaped}
use Rattle.h264_pages.proofs.pages.page.Page.escaped.Goals as goal

pub returns : goal.returns
unfolding escaped
returns c short =
    let end = YieldsList-end (YieldsList-from_chars c.args.text.now c.utf8.text cc) c.loop-c.yielded _ c.loop-c.yielded_by _ _ c.in-None.is
    c.next.ensures.steps in
    let so_far = c.loop-c.invariant short in
    (so_far.0, so_far.1 ∙ ap (λ l. string_bytes c.args.self.now.text ++ flat_map escaped_character l) (sym (map-id c.loop-c.yielded) ∙ end.0))
