-- Another type of unit has another number.
use Rattle.std.proofs.Common.{◌≡◌, ℕ, List, [], ◌∷◌, get_or, refl, sym, ap, ◌∙◌}
use Rattle.h264_units.specs.UnitTypes.{type_number}
use Rattle.h264_units.specs.declared.nal_unit_type.NalUnitType.{NalUnitType}
use Rattle.h264_units.specs.declared.nal_unit_type.NalUnitType.TheVariants as types

-- each type in the place that its number gives
all_types : List NalUnitType
all_types =
    types.Unspecified0 ∷ types.Slice ∷ types.PartitionA ∷ types.PartitionB ∷ types.PartitionC ∷ types.IdrSlice ∷ types.Sei ∷ types.SequenceSet ∷
    types.PictureSet ∷ types.Delimiter ∷ types.EndOfSequence ∷ types.EndOfStream ∷ types.Filler ∷ types.SequenceSetExtension ∷ types.Prefix ∷
    types.SubsetSequenceSet ∷ types.DepthSet ∷ types.Reserved17 ∷ types.Reserved18 ∷ types.AuxiliarySlice ∷ types.SliceExtension ∷
    types.DepthSliceExtension ∷ types.Reserved22 ∷ types.Reserved23 ∷ types.Unspecified24 ∷ types.Unspecified25 ∷ types.Unspecified26 ∷
    types.Unspecified27 ∷ types.Unspecified28 ∷ types.Unspecified29 ∷ types.Unspecified30 ∷ types.Unspecified31 ∷ []

type_at : ℕ → NalUnitType
type_at n = get_or all_types n types.Unspecified0

found : (t : NalUnitType) → type_at (type_number t) ≡ t
unfolding type_at all_types
found types.Unspecified0 = refl
found _ = refl

pub other-number : (t u : NalUnitType) → (t ≡ u → ⊥) → type_number t ≡ type_number u → ⊥
other-number t u other e = other (sym (found t) ∙ ap type_at e ∙ found u)

-- as it stands at a number that was read
pub is-not : (t u : NalUnitType) (n : ℕ) → type_number t ≡ n → (t ≡ u → ⊥) → n ≡ type_number u → ⊥
is-not t u n is other e = other-number t u other (is ∙ e)
