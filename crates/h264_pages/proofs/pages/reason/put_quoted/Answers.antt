use Rattle.std.proofs.Common.{◌++◌, ◌∷◌, [], flat_map, string_bytes, sym, ap, ◌∙◌, map-id}
use Rattle.std.proofs.lemmas.List.{append_assoc}
use Rattle.std.proofs.lemmas.Iterator.{YieldsList-from_chars}
use Rattle.std.proofs.lemmas.Iterator.Consumers.{YieldsList-end}
use Rattle.std.specs.Str.{chars}
use Rattle.h264_pages.specs.Reasons.{quoted_character, shell_quoted}
use Rattle.h264_pages.proofs.pages.reason.put_quoted.Goals as goal

pub returns : goal.returns
unfolding shell_quoted
returns c short =
    let end = YieldsList-end (YieldsList-from_chars c.args.text.now c.utf8.text cc) c.loop-c.yielded _ c.loop-c.yielded_by _ _ c.in-None.is
    c.next.ensures.steps in
    let all = sym (map-id c.loop-c.yielded) ∙ end.0 in
    let closed = c.put-2.ensures short in
    let so_far = c.loop-c.invariant closed.0 in
    let before = string_bytes c.args.page.now.text in (
      so_far.0,
      closed.1 ∙ ap (λ t. t ++ 39 ∷ []) (so_far.1 ∙ ap (λ l. before ++ 39 ∷ flat_map quoted_character l) all)
          ∙ append_assoc before (39 ∷ flat_map quoted_character (chars c.args.text.now)) (39 ∷ []),
    )
