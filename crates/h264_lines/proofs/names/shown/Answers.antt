use Rattle.std.proofs.Common.{flat_map, sym, subst, ap, ◌∙◌, map-id, All}
use Rattle.std.proofs.lemmas.Iterator.{YieldsList-from_chars}
use Rattle.std.proofs.lemmas.Iterator.Consumers.{YieldsList-end}
use Rattle.h264_lines.specs.Names.{IsSeen, shown_character, shown}
use Rattle.h264_lines.proofs.Seen.{seen}
use Rattle.h264_lines.proofs.names.shown.Goals as goal

pub returns-clause-text : goal.returns-clause-text
unfolding shown
returns-clause-text c =
    let end = YieldsList-end (YieldsList-from_chars c.args.name.now c.utf8.name cc) c.loop-c.yielded _ c.loop-c.yielded_by _ _ c.in-None.is
    c.next.ensures.steps in
    c.loop-c.invariant ∙ ap (flat_map shown_character) (sym (map-id c.loop-c.yielded) ∙ end.0)

pub returns-clause-seen : goal.returns-clause-seen
returns-clause-seen c = subst (All IsSeen) (sym c.loop-c.invariant) (seen c.loop-c.yielded)
