use Rattle.std.specs.Prelude.{◌≡◌, take}
use Rattle.std.specs.List.{All}
use Rattle.h264_strict.specs.StrictRules.{label_of as further_label_of}
use Rattle.h264_words.specs.Labels.{folded}
use Rattle.h264_words.proofs.labels.further_like.Given as goal

abbrev pub invariant-loop-rule : goal.invariant-loop-rule
invariant-loop-rule l = All (λ rule. folded (further_label_of rule) ≡ folded l.label → ⊥) (take l.rule-index l.rule-items)
