use Rattle.std.proofs.Common.{rules, SFits, w64, ap, ap₂, ◌++◌, ◌∙◌}
use Rattle.std.proofs.lemmas.Int.{to_z-of_z}
use Rattle.h264_strict.specs.Strict.{after_element, by_element, with_places, bits_for, found_of}
use Rattle.h264_strict.specs.StrictRules.{listed}
use Rattle.h264_strict.specs.StrictSets.{by_limits}
use Rattle.h264_strict.specs.declared.strict.Strict.{Strict}
use Rattle.h264_strict.proofs.Broken.{element-advances}
use Rattle.h264_strict.proofs.strict.Strict.note_element.Goals as goal

pub returns : goal.returns
returns c =
    let old = c.args.self.now in
    let new : Strict = record { standing = c.note_element.new.self; found = c.note_two.new.self.found } in
    let f : SFits w64 c.args.value = search rules in
    let counted = simp to_z-of_z at c.count_of-count.ensures in
    element-advances old new c.args.name c.args.bit c.args.value
    (c.note_element.ensures
    ∙ ap (λ s. after_element s c.args.name c.count_of-count.result) c.note_two.ensures.standing
    ∙ ap (λ n. after_element old.standing c.args.name n) counted)
    (λ r. c.note_two.ensures.found r
    ∙ ap₂ (λ rule limit. with_places (found_of old r) (bits_for r c.args.bit (listed rule ++ listed limit)))
    (c.by_element-rule.ensures ∙ ap (λ n. by_element old.standing c.args.name n) counted)
    (c.by_limits-limit.ensures ∙ ap (λ n. by_limits old.standing.set c.args.name n) counted))
