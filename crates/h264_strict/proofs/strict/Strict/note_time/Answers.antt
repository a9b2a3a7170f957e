use Rattle.std.proofs.Common.{ap, ap₂, ◌++◌, ◌∙◌}
use Rattle.h264_strict.specs.Strict.{with_places, bits_for, found_of}
use Rattle.h264_strict.specs.StrictPictures.{by_count}
use Rattle.h264_strict.specs.StrictRules.{broken_if, listed}
use Rattle.h264_strict.specs.declared.strict_rule.StrictRule.TheVariants as rules
use Rattle.h264_strict.proofs.strict.Strict.note_time.Goals as goal

pub returns-clause-found : goal.returns-clause-found
returns-clause-found c r =
    let pictures = c.args.self.now.standing.pictures in
    c.note_two.ensures.found r
    ∙ ap₂ (λ order time. with_places (found_of c.args.self.now r) (bits_for r c.args.bit (listed order ++ listed time)))
    (c.by_count-order.ensures ∙ ap (λ in_order. by_count pictures in_order c.args.picture) c.is_in_order-is_in_order.ensures)
    (c.broken_if.ensures ∙ ap (λ b. broken_if b rules.FrameRate) c.comes_too_soon-is_too_soon.ensures)
