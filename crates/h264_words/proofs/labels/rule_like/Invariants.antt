use Rattle.std.specs.Prelude.{◌≡◌, take}
use Rattle.std.specs.List.{All}
use Rattle.h264_base.specs.Rule.{label_of}
use Rattle.h264_words.specs.Labels.{folded}
use Rattle.h264_words.proofs.labels.rule_like.Given as goal

abbrev pub invariant-loop-rule : goal.invariant-loop-rule
invariant-loop-rule l = All (λ rule. folded (label_of rule) ≡ folded l.label → ⊥) (take l.rule-index l.rule-items)
