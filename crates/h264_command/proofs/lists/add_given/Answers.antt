use Rattle.std.proofs.Common.{◌≡◌, ◌++◌, ◌∙◌, OnOk, codes, ap, map, refl, subst, unwrap_or}
use Rattle.clap.specs.Walk.{rows_of}
use Rattle.clap.specs.Words.{all_of, first_of, found_of}
use Rattle.clap.proofs.WalkLemmas.{first_value-rows, raw_values-rows}
use Rattle.h264_command.specs.Lists.{texts_in}
use Rattle.h264_command.proofs.PlainWords.{names-of, values-of}
use Rattle.h264_command.proofs.lists.add_given.Goals as goal

pub returns : goal.returns
returns g c =
    let found = found_of c.args.found.now in
    let input = c.get_str-input.ensures ∙ first_value-rows found (codes "name") in
    let files = values-of c.get_strs.result _ _ refl (c.get_strs.ensures ∙ raw_values-rows found (codes "FILE")) in
    let given = ap (λ r. map (λ v. v.now) r.now) c.unwrap_or-given.ensures ∙ files in
    subst (λ l. OnOk c.add_names.result (texts_in c.add_names.new.names.items ≡ texts_in c.args.names.now.items ++ l))
    (names-of _ c.unwrap_or-given.result.now (first_of (codes "name") (rows_of found)) _ input given) c.add_names.ensures
