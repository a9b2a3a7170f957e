use Rattle.std.specs.Prelude.{◌≡◌, take}
use Rattle.std.specs.List.{All}
use Rattle.h264_base.specs.Feature.{text_of}
use Rattle.h264_words.specs.Labels.{folded}
use Rattle.h264_words.proofs.labels.feature_like.Given as goal

abbrev pub invariant-loop-feature : goal.invariant-loop-feature
invariant-loop-feature l = All (λ feature. folded (text_of feature) ≡ folded l.label → ⊥) (take l.feature-index l.feature-items)
