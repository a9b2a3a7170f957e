use Rattle.std.proofs.Common.{◌≡◌, ◌++◌, ◌∙◌, codes, ap, map, refl}
use Rattle.clap.specs.Words.{found_of}
use Rattle.clap.proofs.WalkLemmas.{raw_values-rows}
use Rattle.h264_command.specs.Lists.{texts_in}
use Rattle.h264_command.proofs.PlainWords.{ok-then, values-of}
use Rattle.h264_command.proofs.lists.add_labels.Goals as goal

pub returns : goal.returns
returns c =
    let found = found_of c.args.found.now in
    let files = values-of c.get_strs.result _ _ refl (c.get_strs.ensures ∙ raw_values-rows found (codes "FILE")) in
    let given = ap (λ r. map (λ v. v.now) r.now) c.unwrap_or.ensures ∙ files in
    let more = map (λ t. t.now) c.as_slice.result.now in
    ok-then _ _ c.add_texts-2.result (λ e. (more, e ∙ ap (λ l. l ++ more) (c.in_ok-add_texts.ensures ∙ ap (λ l. texts_in c.args.names.now.items ++ l) given)))
    c.add_texts-2.ensures
