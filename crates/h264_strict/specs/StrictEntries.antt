-- Which entries are of other further rules. A working form.
use Rattle.std.specs.Prelude.{◌≡◌, ℕ, List, [], ◌∷◌}
use Rattle.h264_strict.specs.StrictRules.{label_of as further_label_of}
use Rattle.h264_strict.specs.declared.strict_entries.StrictEntry.{StrictEntry}

-- the further rules of these entries have other labels
abbrev pub HaveOtherFurtherLabels : List ℕ → List StrictEntry → Type 0
HaveOtherFurtherLabels label [] = Unit {0}
HaveOtherFurtherLabels label (e ∷ es) = (further_label_of e.rule ≡ label → ⊥) × HaveOtherFurtherLabels label es
