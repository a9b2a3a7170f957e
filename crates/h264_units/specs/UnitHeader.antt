-- A unit's first byte (7.3.1), and its rules (7.4.1, A.2). To be read beside the standard.
use Rattle.std.specs.Prelude.{ℕ, ◌/◌, ◌%◌, Bool, true, not, slice_index, nat_le, ◌==◌, ◌&&◌, ◌||◌, if◌then◌else◌}
use Rattle.h264_units.specs.Stream.{NalUnit}

abbrev pub header_of : NalUnit → ℕ
header_of unit = slice_index unit.body 0

-- the parts of a unit's first byte (7.3.1)
abbrev pub forbidden_zero_bit : ℕ → ℕ
forbidden_zero_bit header = header / 128

abbrev pub nal_ref_idc : ℕ → ℕ
nal_ref_idc header = header / 32 % 4

abbrev pub nal_unit_type : ℕ → ℕ
nal_unit_type header = header % 32

-- a slice data partition A, B or C
abbrev pub is_partition : ℕ → Bool
is_partition kind = nat_le 2 kind && nat_le kind 4

-- IDR slices and parameter sets
abbrev pub is_always_reference : ℕ → Bool
is_always_reference kind = kind == 5 || kind == 7 || kind == 8

-- SEI, access unit delimiters, ends of sequence and of stream, filler data
abbrev pub is_never_reference : ℕ → Bool
is_never_reference kind = kind == 6 || nat_le 9 kind && nat_le kind 12

-- nal_ref_idc fits nal_unit_type (7.4.1)
abbrev pub fits_kind : ℕ → ℕ → Bool
fits_kind kind reference = if is_always_reference kind then not (reference == 0) else (if is_never_reference kind then reference == 0 else true)

-- nal_unit_type 1 and 5: slices of other pictures, and of IDR pictures
abbrev pub is_slice : ℕ → Bool
is_slice kind = kind == 1 || kind == 5

-- units of types 6 to 11 end the picture before them (7.4.1.2.3)
abbrev pub ends_picture : ℕ → Bool
ends_picture kind = nat_le 6 kind && nat_le kind 11
