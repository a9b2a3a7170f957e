-- The labels of rules, features and further rules, and which of them a word means. To be read beside docs/OUTPUT.md.
use Rattle.std.specs.Prelude.{◌≡◌, ℕ, List, map}
use Rattle.std.specs.Char.{to_ascii_lowercase}
use Rattle.h264_base.specs.Feature.{text_of}
use Rattle.h264_base.specs.Rule.{label_of}
use Rattle.h264_base.specs.declared.rule.Rule.{Rule}
use Rattle.h264_base.specs.declared.stop.Feature.{Feature}
use Rattle.h264_strict.specs.StrictRules.{label_of as further_label_of}
use Rattle.h264_strict.specs.declared.strict_rule.StrictRule.{StrictRule}

-- a label in small letters
abbrev pub folded : List ℕ → List ℕ
folded label = map to_ascii_lowercase label

-- This is the label of a rule, of a feature or of a further rule.
pub data IsLabel (label : List ℕ) : Type 0 where
  OfRule : (rule : Rule) → label_of rule ≡ label → IsLabel label
  OfFeature : (feature : Feature) → text_of feature ≡ label → IsLabel label
  OfFurther : (rule : StrictRule) → further_label_of rule ≡ label → IsLabel label

-- No label is this word, whatever the case of its letters.
abbrev pub IsLikeNone : List ℕ → Type 0
IsLikeNone word = (label : List ℕ) → IsLabel label → folded label ≡ folded word → ⊥
