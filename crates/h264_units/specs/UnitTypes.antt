-- The types of units and their numbers (Table 7-1). To be read beside the standard.
use Rattle.std.specs.Prelude.{ℕ}
use Rattle.h264_units.specs.declared.nal_unit_type.NalUnitType.{NalUnitType}
use Rattle.h264_units.specs.declared.nal_unit_type.NalUnitType.TheVariants as types

abbrev pub type_number : NalUnitType → ℕ
type_number types.Unspecified0 = 0
type_number types.Slice = 1
type_number types.PartitionA = 2
type_number types.PartitionB = 3
type_number types.PartitionC = 4
type_number types.IdrSlice = 5
type_number types.Sei = 6
type_number types.SequenceSet = 7
type_number types.PictureSet = 8
type_number types.Delimiter = 9
type_number types.EndOfSequence = 10
type_number types.EndOfStream = 11
type_number types.Filler = 12
type_number types.SequenceSetExtension = 13
type_number types.Prefix = 14
type_number types.SubsetSequenceSet = 15
type_number types.DepthSet = 16
type_number types.Reserved17 = 17
type_number types.Reserved18 = 18
type_number types.AuxiliarySlice = 19
type_number types.SliceExtension = 20
type_number types.DepthSliceExtension = 21
type_number types.Reserved22 = 22
type_number types.Reserved23 = 23
type_number types.Unspecified24 = 24
type_number types.Unspecified25 = 25
type_number types.Unspecified26 = 26
type_number types.Unspecified27 = 27
type_number types.Unspecified28 = 28
type_number types.Unspecified29 = 29
type_number types.Unspecified30 = 30
type_number types.Unspecified31 = 31
