use Rattle.std.proofs.Common.{ap, ap₂, ◌++◌, ◌∙◌}
use Rattle.h264_strict.specs.Strict.{after_unit, first_bit, with_places, bits_for, found_of}
use Rattle.h264_strict.specs.StrictRules.{broken_if, listed}
use Rattle.h264_strict.specs.declared.strict.Strict.{Strict}
use Rattle.h264_strict.specs.declared.strict_rule.StrictRule.TheVariants as rules
use Rattle.h264_units.specs.UnitTypes.{type_number}
use Rattle.h264_strict.proofs.Broken.{unit-advances}
use Rattle.h264_strict.proofs.strict.Strict.note_unit.Goals as goal

pub returns : goal.returns
returns c =
    let old = c.args.self.now in
    let mid = c.note_two.new.self in
    let new : Strict = record { standing = c.note_unit.new.self; found = c.note.new.self.found } in
    unit-advances old mid new c.args.byte (type_number c.args.kind) c.args.nal_ref_idc c.args.length
    (c.note_unit.ensures ∙ ap (λ s. after_unit s (type_number c.args.kind) c.args.nal_ref_idc c.args.length)
    (c.note.ensures.standing ∙ c.note_two.ensures.standing))
    (λ r. c.note_two.ensures.found r
    ∙ ap (λ bit. with_places (found_of old r) (bits_for r bit (listed c.by_order-order.result ++ listed c.broken_if.result))) c.first_bit-bit.ensures
    ∙ ap₂ (λ order other. with_places (found_of old r) (bits_for r (first_bit c.args.byte) (listed order ++ listed other))) c.by_order-order.ensures
    (c.broken_if.ensures ∙ ap (λ is_other. broken_if is_other rules.UnitLength) c.has_other_length-is_other.ensures))
    (λ r. c.note.ensures.found r
    ∙ ap₂ (λ bit rule. with_places (found_of mid r) (bits_for r bit (listed rule))) c.first_bit-bit.ensures c.broken_if-2.ensures)
