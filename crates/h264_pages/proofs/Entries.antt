use Rattle.std.proofs.Common.{◌≡◌, ℕ, ◌+◌, zero, suc, arith, Option, Some, None, IfNone, List, [], ◌∷◌, take, get_or, subst}
use Rattle.h264_base.specs.Rule.{label_of}
use Rattle.h264_base.specs.declared.rule.Rule.{Rule}
use Rattle.h264_base.specs.declared.rule.Rule.TheVariants as rules
use Rattle.h264_base.specs.Feature.{text_of}
use Rattle.h264_pages.specs.declared.rules.RuleEntry.{RuleEntry}
use Rattle.h264_pages.specs.declared.rules.FeatureEntry.{FeatureEntry}
use Rattle.h264_pages.specs.Entries.{HaveOtherLabels, HaveOtherNames}

-- one more of these entries has another label
pub one_more_label : (label : List ℕ) (es : List RuleEntry) (i : ℕ) (d : RuleEntry) → HaveOtherLabels label (take i es) →
    (label_of (get_or es i d).rule ≡ label → ⊥) → HaveOtherLabels label (take (i + 1) es)
one_more_label label es i d h other = let up : suc i ≡ i + 1 = omega arith in subst (λ (n : ℕ). HaveOtherLabels label (take n es)) up (more es i h other)
  where
    more : (es : List RuleEntry) (i : ℕ) → HaveOtherLabels label (take i es) → (label_of (get_or es i d).rule ≡ label → ⊥) →
        HaveOtherLabels label (take (suc i) es)
    more [] i h other = tt
    more (e ∷ es) zero h other = (other, tt)
    more (e ∷ es) (suc i) h other = (h.0, more es i h.1 other)

-- one more of these entries has another name
pub one_more_name : (name : List ℕ) (es : List FeatureEntry) (i : ℕ) (d : FeatureEntry) → HaveOtherNames name (take i es) →
    (text_of (get_or es i d).feature ≡ name → ⊥) → HaveOtherNames name (take (i + 1) es)
one_more_name name es i d h other = let up : suc i ≡ i + 1 = omega arith in subst (λ (n : ℕ). HaveOtherNames name (take n es)) up (more es i h other)
  where
    more : (es : List FeatureEntry) (i : ℕ) → HaveOtherNames name (take i es) → (text_of (get_or es i d).feature ≡ name → ⊥) →
        HaveOtherNames name (take (suc i) es)
    more [] i h other = tt
    more (e ∷ es) zero h other = (other, tt)
    more (e ∷ es) (suc i) h other = (h.0, more es i h.1 other)

-- all rules, in the order of the table
abbrev all_rules : List Rule
all_rules =
    rules.ByteStream ∷ rules.EmptyUnit ∷ rules.Emulation ∷ rules.ForbiddenBit ∷ rules.RefIdc ∷ rules.Partition ∷ rules.CodeWord ∷ rules.Range ∷ rules.Tool ∷
    rules.Profile ∷ rules.FrameSize ∷ rules.Crop
    ∷ rules.Vui ∷ rules.Trailing ∷ rules.NoSet ∷ rules.FirstPicture ∷ rules.SetChanged ∷ rules.FirstMb ∷ rules.SliceType ∷ rules.FrameNum ∷ rules.IdrPicId ∷
    rules.Count ∷ rules.Qp ∷ rules.ListCommand
    ∷ rules.MarkDiffers ∷ rules.SliceEmpty ∷ rules.MbPast ∷ rules.NoReference ∷ rules.IntraMode ∷ rules.ResidualWord ∷ rules.BlockSize ∷ rules.VectorRange ∷
    rules.TransformRange ∷ rules.Incomplete ∷ rules.MarkCommand ∷ rules.NoPicture
    ∷ []

-- these rules have other labels
abbrev HaveOthers : List ℕ → List Rule → Type 0
HaveOthers label [] = Unit {0}
HaveOthers label (rule ∷ rules) = (label_of rule ≡ label → ⊥) × HaveOthers label rules

-- so no rule has that label
no-rule : (label : List ℕ) → HaveOthers label all_rules → (rule : Rule) → label_of rule ≡ label → ⊥
no-rule label h rules.ByteStream = h.0
no-rule label h rules.EmptyUnit = h.1.0
no-rule label h rules.Emulation = h.1.1.0
no-rule label h rules.ForbiddenBit = h.1.1.1.0
no-rule label h rules.RefIdc = h.1.1.1.1.0
no-rule label h rules.Partition = h.1.1.1.1.1.0
no-rule label h rules.CodeWord = h.1.1.1.1.1.1.0
no-rule label h rules.Range = h.1.1.1.1.1.1.1.0
no-rule label h rules.Tool = h.1.1.1.1.1.1.1.1.0
no-rule label h rules.Profile = h.1.1.1.1.1.1.1.1.1.0
no-rule label h rules.FrameSize = h.1.1.1.1.1.1.1.1.1.1.0
no-rule label h rules.Crop = h.1.1.1.1.1.1.1.1.1.1.1.0
no-rule label h rules.Vui = h.1.1.1.1.1.1.1.1.1.1.1.1.0
no-rule label h rules.Trailing = h.1.1.1.1.1.1.1.1.1.1.1.1.1.0
no-rule label h rules.NoSet = h.1.1.1.1.1.1.1.1.1.1.1.1.1.1.0
no-rule label h rules.FirstPicture = h.1.1.1.1.1.1.1.1.1.1.1.1.1.1.1.0
no-rule label h rules.SetChanged = h.1.1.1.1.1.1.1.1.1.1.1.1.1.1.1.1.0
no-rule label h rules.FirstMb = h.1.1.1.1.1.1.1.1.1.1.1.1.1.1.1.1.1.0
no-rule label h rules.SliceType = h.1.1.1.1.1.1.1.1.1.1.1.1.1.1.1.1.1.1.0
no-rule label h rules.FrameNum = h.1.1.1.1.1.1.1.1.1.1.1.1.1.1.1.1.1.1.1.0
no-rule label h rules.IdrPicId = h.1.1.1.1.1.1.1.1.1.1.1.1.1.1.1.1.1.1.1.1.0
no-rule label h rules.Count = h.1.1.1.1.1.1.1.1.1.1.1.1.1.1.1.1.1.1.1.1.1.0
no-rule label h rules.Qp = h.1.1.1.1.1.1.1.1.1.1.1.1.1.1.1.1.1.1.1.1.1.1.0
no-rule label h rules.ListCommand = h.1.1.1.1.1.1.1.1.1.1.1.1.1.1.1.1.1.1.1.1.1.1.1.0
no-rule label h rules.MarkDiffers = h.1.1.1.1.1.1.1.1.1.1.1.1.1.1.1.1.1.1.1.1.1.1.1.1.0
no-rule label h rules.SliceEmpty = h.1.1.1.1.1.1.1.1.1.1.1.1.1.1.1.1.1.1.1.1.1.1.1.1.1.0
no-rule label h rules.MbPast = h.1.1.1.1.1.1.1.1.1.1.1.1.1.1.1.1.1.1.1.1.1.1.1.1.1.1.0
no-rule label h rules.NoReference = h.1.1.1.1.1.1.1.1.1.1.1.1.1.1.1.1.1.1.1.1.1.1.1.1.1.1.1.0
no-rule label h rules.IntraMode = h.1.1.1.1.1.1.1.1.1.1.1.1.1.1.1.1.1.1.1.1.1.1.1.1.1.1.1.1.0
no-rule label h rules.ResidualWord = h.1.1.1.1.1.1.1.1.1.1.1.1.1.1.1.1.1.1.1.1.1.1.1.1.1.1.1.1.1.0
no-rule label h rules.BlockSize = h.1.1.1.1.1.1.1.1.1.1.1.1.1.1.1.1.1.1.1.1.1.1.1.1.1.1.1.1.1.1.0
no-rule label h rules.VectorRange = h.1.1.1.1.1.1.1.1.1.1.1.1.1.1.1.1.1.1.1.1.1.1.1.1.1.1.1.1.1.1.1.0
no-rule label h rules.TransformRange = h.1.1.1.1.1.1.1.1.1.1.1.1.1.1.1.1.1.1.1.1.1.1.1.1.1.1.1.1.1.1.1.1.0
no-rule label h rules.Incomplete = h.1.1.1.1.1.1.1.1.1.1.1.1.1.1.1.1.1.1.1.1.1.1.1.1.1.1.1.1.1.1.1.1.1.0
no-rule label h rules.MarkCommand = h.1.1.1.1.1.1.1.1.1.1.1.1.1.1.1.1.1.1.1.1.1.1.1.1.1.1.1.1.1.1.1.1.1.1.0
no-rule label h rules.NoPicture = h.1.1.1.1.1.1.1.1.1.1.1.1.1.1.1.1.1.1.1.1.1.1.1.1.1.1.1.1.1.1.1.1.1.1.1.0

-- where none was found, no rule has that label
pub found-none : (A : Type 0) (found : Option A) (label : List ℕ) → IfNone found (HaveOthers label all_rules) →
    IfNone found ((rule : Rule) → label_of rule ≡ label → ⊥)
found-none A None label h = no-rule label h
found-none A (Some a) label h = tt
