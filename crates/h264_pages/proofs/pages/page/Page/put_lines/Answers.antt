use Rattle.std.proofs.Common.{◌++◌, string_bytes, sym, ap, ◌∙◌, map-id}
use Rattle.std.proofs.lemmas.Iterator.{YieldsList-from_chars}
use Rattle.std.proofs.lemmas.Iterator.Consumers.{YieldsList-end}
use Rattle.h264_pages.specs.Pages.{Adds, prefixed_after, prefixed}
use Rattle.h264_pages.proofs.Lines.{prefix_after, last_of-more, line-begins, line-goes_on, one-prefixed}
use Rattle.h264_pages.proofs.pages.page.Page.put_lines.Goals.{then-before-eq10, else-before-eq10}
use Rattle.h264_pages.proofs.pages.page.Page.put_lines.Goals as goal

pub loop-c-preserved : goal.loop-c-preserved
loop-c-preserved c =
    let begun = elim c.if-before-eq10.branch as (λ _. Adds c.loop-c.self c.if-before-eq10.self (prefix_after c.args.prefix.now c.loop-c.before)) [
      | then-before-eq10 w ↦ line-begins c.loop-c.self w.put.new.self c.if-before-eq10.self c.args.prefix.now c.loop-c.before w.if-before-eq10.true
          w.put.ensures w.self-is
      | else-before-eq10 w ↦ line-goes_on c.loop-c.self c.if-before-eq10.self c.args.prefix.now c.loop-c.before w.if-before-eq10.false w.self-is
    ] in
    record {
      before = sym (last_of-more 10 c.loop-c.yielded c.in-Some.c);
      text = one-prefixed c.args.self.now c.loop-c.self c.if-before-eq10.self c.character.new.self c.args.prefix.now c.loop-c.yielded c.loop-c.before
          c.in-Some.c c.loop-c.invariant.before c.loop-c.invariant.text begun c.character.ensures;
    }

pub returns : goal.returns
unfolding prefixed
returns c short =
    let end = YieldsList-end (YieldsList-from_chars c.args.text.now c.utf8.text cc) c.loop-c.yielded _ c.loop-c.yielded_by _ _ c.in-None.is
    c.next.ensures.steps in
    let so_far = c.loop-c.invariant.text short in
    (so_far.0, so_far.1 ∙ ap (λ l. string_bytes c.args.self.now.text ++ prefixed_after c.args.prefix.now 10 l) (sym (map-id c.loop-c.yielded) ∙ end.0))
