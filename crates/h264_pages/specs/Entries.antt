-- Which entries are of other rules, or of other features. A working form.
use Rattle.std.specs.Prelude.{◌≡◌, ℕ, List, [], ◌∷◌}
use Rattle.h264_base.specs.Rule.{label_of}
use Rattle.h264_base.specs.Feature.{text_of}
use Rattle.h264_pages.specs.declared.rules.RuleEntry.{RuleEntry}
use Rattle.h264_pages.specs.declared.rules.FeatureEntry.{FeatureEntry}

-- the rules of these entries have other labels
abbrev pub HaveOtherLabels : List ℕ → List RuleEntry → Type 0
HaveOtherLabels label [] = Unit {0}
HaveOtherLabels label (e ∷ es) = (label_of e.rule ≡ label → ⊥) × HaveOtherLabels label es

-- the features of these entries have other names
abbrev pub HaveOtherNames : List ℕ → List FeatureEntry → Type 0
HaveOtherNames name [] = Unit {0}
HaveOtherNames name (e ∷ es) = (text_of e.feature ≡ name → ⊥) × HaveOtherNames name es
