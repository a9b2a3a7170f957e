use Rattle.std.proofs.Common.{ap, ap₂, ◌++◌, ◌∙◌}
use Rattle.h264_strict.specs.Strict.{with_places, bits_for, found_of}
use Rattle.h264_strict.specs.StrictRules.{broken_if, listed}
use Rattle.h264_strict.specs.declared.strict_rule.StrictRule.TheVariants as rules
use Rattle.h264_strict.proofs.strict.Strict.note_numbers.Goals as goal

pub returns-clause-found : goal.returns-clause-found
returns-clause-found c r =
    c.note_two.ensures.found r
    ∙ ap₂ (λ count number. with_places (found_of c.args.self.now r) (bits_for r c.args.bit (listed count ++ listed number)))
    (c.broken_if.ensures ∙ ap (λ b. broken_if b rules.IdrCount) c.has_idr_count.ensures)
    (c.broken_if-2.ensures ∙ ap (λ b. broken_if b rules.FrameNumRepeated) c.repeats_number-repeats.ensures)
