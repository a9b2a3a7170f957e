-- Where no entry has a label, no further rule has it.
use Rattle.std.proofs.Common.{◌≡◌, ◌⊎◌, inl, inr, ◌<◌, ◌≤◌, ℕ, ◌+◌, zero, suc, arith, Option, Some, None, IfNone, List, [], ◌∷◌, take, get_or, subst}
use Rattle.std.proofs.Math.Facts.{ltb_absurd, nltb_absurd}
use Rattle.std.proofs.lemmas.Bool.{cases_lt}
use Rattle.h264_strict.specs.StrictEntries.{HaveOtherFurtherLabels}
use Rattle.h264_strict.specs.StrictRules.{label_of as further_label_of, place_of}
use Rattle.h264_strict.specs.declared.strict_rule.StrictRule.{StrictRule}
use Rattle.h264_strict.specs.declared.strict_rule.StrictRule.TheVariants as further
use Rattle.h264_strict.specs.declared.strict_entries.StrictEntry.{StrictEntry}

-- one more of these entries has another label
pub one_more_further : (label : List ℕ) (es : List StrictEntry) (i : ℕ) (d : StrictEntry) → HaveOtherFurtherLabels label (take i es) →
    (further_label_of (get_or es i d).rule ≡ label → ⊥) → HaveOtherFurtherLabels label (take (i + 1) es)
one_more_further label es i d h other = let up : suc i ≡ i + 1 = omega arith in
    subst (λ (n : ℕ). HaveOtherFurtherLabels label (take n es)) up (more es i h other)
  where
    more : (es : List StrictEntry) (i : ℕ) → HaveOtherFurtherLabels label (take i es) → (further_label_of (get_or es i d).rule ≡ label → ⊥) →
        HaveOtherFurtherLabels label (take (suc i) es)
    more [] i h other = tt
    more (e ∷ es) zero h other = (other, tt)
    more (e ∷ es) (suc i) h other = (h.0, more es i h.1 other)

-- the further rules before those on the coded picture buffer, and those, in the order of their tables
abbrev early_further : List StrictRule
early_further =
    further.ReservedBits ∷ further.AspectRatio ∷ further.VideoFormat ∷ further.ColourPrimaries ∷ further.TransferCharacteristics ∷ further.MatrixCoefficients
    ∷ further.ChromaLocation ∷ further.Timing ∷ further.Restriction ∷ further.OperationsExclude ∷ further.IdrCount ∷ further.SetRefIdc ∷
    further.DelimiterFirst ∷ further.FillerFirst ∷ further.AfterEndOfStream
    ∷ further.Level1b ∷ further.ReservedConstraint ∷ further.DirectInference ∷ further.LowDelay ∷ further.UnitLength ∷ further.EndFirst ∷
    further.LongTermReference ∷ further.Weights ∷ further.FrameNumRepeated ∷ further.CountRepeated ∷ further.Reorder ∷ further.VectorCount ∷
    further.FrameRate ∷ further.ScheduleOrder ∷ further.ScheduleLimits ∷ further.CommonFactor ∷ further.PictureBytes ∷ further.SeiSizes ∷
    further.DelimiterBits ∷ further.FillerBytes ∷ further.ZeroByte ∷ further.DelimiterType ∷ further.SeiContent
    ∷ []

abbrev buffer_further : List StrictRule
buffer_further = further.BufferUnderflow ∷ further.InitialDelay ∷ further.BufferOverflow ∷ further.MinCompression ∷ further.RemovalRate ∷ []

-- these further rules have other labels
abbrev HaveOtherFurther : List ℕ → List StrictRule → Type 0
HaveOtherFurther label [] = Unit {0}
HaveOtherFurther label (rule ∷ rules) = (further_label_of rule ≡ label → ⊥) × HaveOtherFurther label rules

-- so none of them has that label
no-early : (label : List ℕ) → HaveOtherFurther label early_further → (rule : StrictRule) → place_of rule < 38 → further_label_of rule ≡ label → ⊥
unfolding place_of
no-early label h further.ReservedBits few e = h.0 e
no-early label h further.AspectRatio few e = h.1.0 e
no-early label h further.VideoFormat few e = h.1.1.0 e
no-early label h further.ColourPrimaries few e = h.1.1.1.0 e
no-early label h further.TransferCharacteristics few e = h.1.1.1.1.0 e
no-early label h further.MatrixCoefficients few e = h.1.1.1.1.1.0 e
no-early label h further.ChromaLocation few e = h.1.1.1.1.1.1.0 e
no-early label h further.Timing few e = h.1.1.1.1.1.1.1.0 e
no-early label h further.Restriction few e = h.1.1.1.1.1.1.1.1.0 e
no-early label h further.OperationsExclude few e = h.1.1.1.1.1.1.1.1.1.0 e
no-early label h further.IdrCount few e = h.1.1.1.1.1.1.1.1.1.1.0 e
no-early label h further.SetRefIdc few e = h.1.1.1.1.1.1.1.1.1.1.1.0 e
no-early label h further.DelimiterFirst few e = h.1.1.1.1.1.1.1.1.1.1.1.1.0 e
no-early label h further.FillerFirst few e = h.1.1.1.1.1.1.1.1.1.1.1.1.1.0 e
no-early label h further.AfterEndOfStream few e = h.1.1.1.1.1.1.1.1.1.1.1.1.1.1.0 e
no-early label h further.Level1b few e = h.1.1.1.1.1.1.1.1.1.1.1.1.1.1.1.0 e
no-early label h further.ReservedConstraint few e = h.1.1.1.1.1.1.1.1.1.1.1.1.1.1.1.1.0 e
no-early label h further.DirectInference few e = h.1.1.1.1.1.1.1.1.1.1.1.1.1.1.1.1.1.0 e
no-early label h further.LowDelay few e = h.1.1.1.1.1.1.1.1.1.1.1.1.1.1.1.1.1.1.0 e
no-early label h further.UnitLength few e = h.1.1.1.1.1.1.1.1.1.1.1.1.1.1.1.1.1.1.1.0 e
no-early label h further.EndFirst few e = h.1.1.1.1.1.1.1.1.1.1.1.1.1.1.1.1.1.1.1.1.0 e
no-early label h further.LongTermReference few e = h.1.1.1.1.1.1.1.1.1.1.1.1.1.1.1.1.1.1.1.1.1.0 e
no-early label h further.Weights few e = h.1.1.1.1.1.1.1.1.1.1.1.1.1.1.1.1.1.1.1.1.1.1.0 e
no-early label h further.FrameNumRepeated few e = h.1.1.1.1.1.1.1.1.1.1.1.1.1.1.1.1.1.1.1.1.1.1.1.0 e
no-early label h further.CountRepeated few e = h.1.1.1.1.1.1.1.1.1.1.1.1.1.1.1.1.1.1.1.1.1.1.1.1.0 e
no-early label h further.Reorder few e = h.1.1.1.1.1.1.1.1.1.1.1.1.1.1.1.1.1.1.1.1.1.1.1.1.1.0 e
no-early label h further.VectorCount few e = h.1.1.1.1.1.1.1.1.1.1.1.1.1.1.1.1.1.1.1.1.1.1.1.1.1.1.0 e
no-early label h further.FrameRate few e = h.1.1.1.1.1.1.1.1.1.1.1.1.1.1.1.1.1.1.1.1.1.1.1.1.1.1.1.0 e
no-early label h further.ScheduleOrder few e = h.1.1.1.1.1.1.1.1.1.1.1.1.1.1.1.1.1.1.1.1.1.1.1.1.1.1.1.1.0 e
no-early label h further.ScheduleLimits few e = h.1.1.1.1.1.1.1.1.1.1.1.1.1.1.1.1.1.1.1.1.1.1.1.1.1.1.1.1.1.0 e
no-early label h further.CommonFactor few e = h.1.1.1.1.1.1.1.1.1.1.1.1.1.1.1.1.1.1.1.1.1.1.1.1.1.1.1.1.1.1.0 e
no-early label h further.PictureBytes few e = h.1.1.1.1.1.1.1.1.1.1.1.1.1.1.1.1.1.1.1.1.1.1.1.1.1.1.1.1.1.1.1.0 e
no-early label h further.SeiSizes few e = h.1.1.1.1.1.1.1.1.1.1.1.1.1.1.1.1.1.1.1.1.1.1.1.1.1.1.1.1.1.1.1.1.0 e
no-early label h further.DelimiterBits few e = h.1.1.1.1.1.1.1.1.1.1.1.1.1.1.1.1.1.1.1.1.1.1.1.1.1.1.1.1.1.1.1.1.1.0 e
no-early label h further.FillerBytes few e = h.1.1.1.1.1.1.1.1.1.1.1.1.1.1.1.1.1.1.1.1.1.1.1.1.1.1.1.1.1.1.1.1.1.1.0 e
no-early label h further.ZeroByte few e = h.1.1.1.1.1.1.1.1.1.1.1.1.1.1.1.1.1.1.1.1.1.1.1.1.1.1.1.1.1.1.1.1.1.1.1.0 e
no-early label h further.DelimiterType few e = h.1.1.1.1.1.1.1.1.1.1.1.1.1.1.1.1.1.1.1.1.1.1.1.1.1.1.1.1.1.1.1.1.1.1.1.1.0 e
no-early label h further.SeiContent few e = h.1.1.1.1.1.1.1.1.1.1.1.1.1.1.1.1.1.1.1.1.1.1.1.1.1.1.1.1.1.1.1.1.1.1.1.1.1.0 e
no-early label h further.BufferUnderflow few e = nltb_absurd few tt
no-early label h further.InitialDelay few e = nltb_absurd few tt
no-early label h further.BufferOverflow few e = nltb_absurd few tt
no-early label h further.MinCompression few e = nltb_absurd few tt
no-early label h further.RemovalRate few e = nltb_absurd few tt

no-buffer : (label : List ℕ) → HaveOtherFurther label buffer_further → (rule : StrictRule) → 38 ≤ place_of rule → further_label_of rule ≡ label → ⊥
unfolding place_of
no-buffer label h further.ReservedBits many e = ltb_absurd many tt
no-buffer label h further.AspectRatio many e = ltb_absurd many tt
no-buffer label h further.VideoFormat many e = ltb_absurd many tt
no-buffer label h further.ColourPrimaries many e = ltb_absurd many tt
no-buffer label h further.TransferCharacteristics many e = ltb_absurd many tt
no-buffer label h further.MatrixCoefficients many e = ltb_absurd many tt
no-buffer label h further.ChromaLocation many e = ltb_absurd many tt
no-buffer label h further.Timing many e = ltb_absurd many tt
no-buffer label h further.Restriction many e = ltb_absurd many tt
no-buffer label h further.OperationsExclude many e = ltb_absurd many tt
no-buffer label h further.IdrCount many e = ltb_absurd many tt
no-buffer label h further.SetRefIdc many e = ltb_absurd many tt
no-buffer label h further.DelimiterFirst many e = ltb_absurd many tt
no-buffer label h further.FillerFirst many e = ltb_absurd many tt
no-buffer label h further.AfterEndOfStream many e = ltb_absurd many tt
no-buffer label h further.Level1b many e = ltb_absurd many tt
no-buffer label h further.ReservedConstraint many e = ltb_absurd many tt
no-buffer label h further.DirectInference many e = ltb_absurd many tt
no-buffer label h further.LowDelay many e = ltb_absurd many tt
no-buffer label h further.UnitLength many e = ltb_absurd many tt
no-buffer label h further.EndFirst many e = ltb_absurd many tt
no-buffer label h further.LongTermReference many e = ltb_absurd many tt
no-buffer label h further.Weights many e = ltb_absurd many tt
no-buffer label h further.FrameNumRepeated many e = ltb_absurd many tt
no-buffer label h further.CountRepeated many e = ltb_absurd many tt
no-buffer label h further.Reorder many e = ltb_absurd many tt
no-buffer label h further.VectorCount many e = ltb_absurd many tt
no-buffer label h further.FrameRate many e = ltb_absurd many tt
no-buffer label h further.ScheduleOrder many e = ltb_absurd many tt
no-buffer label h further.ScheduleLimits many e = ltb_absurd many tt
no-buffer label h further.CommonFactor many e = ltb_absurd many tt
no-buffer label h further.PictureBytes many e = ltb_absurd many tt
no-buffer label h further.SeiSizes many e = ltb_absurd many tt
no-buffer label h further.DelimiterBits many e = ltb_absurd many tt
no-buffer label h further.FillerBytes many e = ltb_absurd many tt
no-buffer label h further.ZeroByte many e = ltb_absurd many tt
no-buffer label h further.DelimiterType many e = ltb_absurd many tt
no-buffer label h further.SeiContent many e = ltb_absurd many tt
no-buffer label h further.BufferUnderflow many e = h.0 e
no-buffer label h further.InitialDelay many e = h.1.0 e
no-buffer label h further.BufferOverflow many e = h.1.1.0 e
no-buffer label h further.MinCompression many e = h.1.1.1.0 e
no-buffer label h further.RemovalRate many e = h.1.1.1.1.0 e

pub early-none : (A : Type 0) (found : Option A) (label : List ℕ) → IfNone found (HaveOtherFurther label early_further) →
    IfNone found ((rule : StrictRule) → place_of rule < 38 → further_label_of rule ≡ label → ⊥)
early-none A None label h = no-early label h
early-none A (Some a) label h = tt

pub buffer-none : (A : Type 0) (found : Option A) (label : List ℕ) → IfNone found (HaveOtherFurther label buffer_further) →
    IfNone found ((rule : StrictRule) → 38 ≤ place_of rule → further_label_of rule ≡ label → ⊥)
buffer-none A None label h = no-buffer label h
buffer-none A (Some a) label h = tt

-- where none of either was found, no further rule has that label
pub further-none : (A : Type 0) (found : Option A) (label : List ℕ) → ((rule : StrictRule) → place_of rule < 38 → further_label_of rule ≡ label → ⊥) →
    IfNone found ((rule : StrictRule) → 38 ≤ place_of rule → further_label_of rule ≡ label → ⊥) →
    IfNone found ((rule : StrictRule) → further_label_of rule ≡ label → ⊥)
further-none A None label early late = λ rule e. go rule e (cases_lt (place_of rule) 38) where
  go : (rule : StrictRule) → further_label_of rule ≡ label → (place_of rule < 38) ⊎ (38 ≤ place_of rule) → ⊥
  go rule e (inl few) = early rule few e
  go rule e (inr many) = late rule many e
further-none A (Some a) label early late = tt
