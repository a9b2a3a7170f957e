-- The rules that `check --strict` judges beside the verdict's, over what a sink is told. To be read beside the standard.
use Rattle.std.specs.Prelude.{ℕ, ℤ, ◌*◌, ◌-◌, ◌^◌, ◌==◌, ◌&&◌, ◌||◌, Bool, true, false, not, nat_le, min, if◌then◌else◌, List, [], ◌∷◌}
use Rattle.std.specs.Prelude.{◌++◌, Option, None, Some, pos, negsuc, get_or, ◌≡◌}
use Rattle.h264_base.specs.Call.{Call, OfUnit, OfSlice, OfElement}
use Rattle.h264_base.specs.declared.element_name.ElementName.{ElementName}
use Rattle.h264_base.specs.declared.element_name.ElementName.TheVariants as names
use Rattle.h264_bits.specs.Counts.{grown}
use Rattle.h264_strict.specs.StrictPictures.{no_pictures, repeats_number, by_count, pictures_after}
use Rattle.h264_strict.specs.StrictRules.{place_of, broken_if, listed}
use Rattle.h264_strict.specs.StrictSets.{no_set, set_after, by_set, by_limits, holds_no_frame, is_baseline, is_in_order, is_too_fast}
use Rattle.h264_strict.specs.StrictSets.{are_too_many_bytes, vector_limit}
use Rattle.h264_strict.specs.StrictVectors.{no_vectors, vectors_after, by_vectors}
use Rattle.h264_strict.specs.declared.strict_pictures.NewPicture.{NewPicture}
use Rattle.h264_strict.specs.declared.strict_rule.StrictRule.{StrictRule}
use Rattle.h264_strict.specs.declared.strict_rule.StrictRule.TheVariants as rules
use Rattle.h264_strict.specs.declared.strict.Marking.{Marking}
use Rattle.h264_strict.specs.declared.strict.Standing.{Standing}
use Rattle.h264_strict.specs.declared.strict.Places.{Places}
use Rattle.h264_strict.specs.declared.strict.Strict.{Strict}
use Rattle.h264_bits.specs.Forms.{natural}

-- ---- marking (7.4.3.3): operation 5 stands together with none of 1 to 3

abbrev pub is_short_or_long : ℕ → Bool
is_short_or_long operation = nat_le 1 operation && nat_le operation 3

abbrev pub by_marking : Marking → ℕ → Bool
by_marking m operation = (operation == 5) && m.unmarks || is_short_or_long operation && m.resets

unfoldable pub marking_after : Marking → ElementName → ℕ → Marking
marking_after m names.FirstMbInSlice v = record { idr = false; unmarks = false; resets = false }
marking_after m names.IdrPicId v = record m { idr = true }
marking_after m names.MemoryManagementControlOperation v = record m { unmarks = m.unmarks || is_short_or_long v; resets = m.resets || (v == 5) }
marking_after m name v = m

-- ---- the rule that an element breaks

-- the vectors of two macroblocks in a row become too many (A.3.1)
abbrev pub by_macroblock : Standing → ElementName → ℕ → Option StrictRule
by_macroblock s name v = broken_if (by_vectors (vector_limit s.set) s.vectors name v) rules.VectorCount

unfoldable pub by_element : Standing → ElementName → ℕ → Option StrictRule
by_element s names.MemoryManagementControlOperation v = broken_if (by_marking s.marking v) rules.OperationsExclude
by_element s names.LongTermReferenceFlag v = broken_if (not (v == 0) && holds_no_frame s.set) rules.LongTermReference
by_element s names.LumaLog2WeightDenom v = broken_if (is_baseline s.set) rules.Weights
by_element s names.MbSkipRun v = by_macroblock s names.MbSkipRun v
by_element s names.MbType v = by_macroblock s names.MbType v
by_element s names.SubMbType v = by_macroblock s names.SubMbType v
by_element s name v = by_set s.set name v

-- all rules that an element breaks
abbrev pub broken_by_element : Standing → ElementName → ℕ → List StrictRule
broken_by_element s name v = listed (by_element s name v) ++ listed (by_limits s.set name v)

-- ---- the rules that a unit breaks

-- the order of units (7.4.1, 7.4.1.2.3)
unfoldable pub by_order : Standing → ℕ → ℕ → Option StrictRule
by_order s kind ref_idc =
    if kind == 9 then broken_if s.begun rules.DelimiterFirst
    else (if kind == 10 || kind == 11 then broken_if s.begun rules.EndFirst
    else (if kind == 12 then broken_if s.begun rules.FillerFirst
    else (if kind == 13 || kind == 15 then broken_if (ref_idc == 0) rules.SetRefIdc else None)))

-- units that begin an access unit before its first slice
abbrev pub begins_access_unit : ℕ → Bool
begins_access_unit kind = nat_le 6 kind && nat_le kind 9 || nat_le 14 kind && nat_le kind 18

-- A delimiter has its header and a byte, and the end of a sequence or of the stream its header alone (7.3.2.4 to 7.3.2.6).
abbrev pub has_other_length : ℕ → ℕ → Bool
has_other_length kind length = (kind == 9) && not (length == 2) || (kind == 10 || kind == 11) && not (length == 1)

-- ---- what the calls so far leave

abbrev pub start : Standing
start = record {
  marking = record { idr = false; unmarks = false; resets = false };
  begun = false;
  ended = false;
  is_reference = false;
  unit_length = 0;
  set = no_set;
  pictures = no_pictures;
  picture_bytes = 0;
  vectors = no_vectors;
}

abbrev pub after_element : Standing → ElementName → ℕ → Standing
after_element s name v = record s {
  marking = marking_after s.marking name v;
  set = set_after s.set name v;
  vectors = vectors_after s.vectors name v;
}

abbrev pub after_unit : Standing → ℕ → ℕ → ℕ → Standing
after_unit s kind ref_idc length = record s {
  begun = begins_access_unit kind || s.begun && not (kind == 1 || kind == 5);
  ended = s.ended || (kind == 11);
  is_reference = not (ref_idc == 0);
  unit_length = length;
}

-- the picture that a slice begins
abbrev pub picture_in : Standing → ℕ → ℤ → NewPicture
picture_in s frame_num count = record {
  is_idr = s.marking.idr;
  is_reference = s.is_reference;
  resets = s.marking.resets;
  frame_num = frame_num;
  count = count;
}

-- the slice of macroblock 0 begins a picture
abbrev pub after_beginning : Standing → ℕ → ℕ → ℤ → Standing
after_beginning s mb frame_num count = if mb == 0 then record s { pictures = pictures_after s.pictures (picture_in s frame_num count) } else s

-- NumBytesInNALunit of the picture's slices before the one that is read, and with it
abbrev pub bytes_before : Standing → ℕ → ℕ
bytes_before s mb = if mb == 0 then 0 else s.picture_bytes

abbrev pub bytes_with : Standing → ℕ → ℕ
bytes_with s mb = grown (bytes_before s mb) s.unit_length

abbrev pub after_slice : Standing → ℕ → ℕ → ℤ → Standing
after_slice s mb frame_num count = record (after_beginning s mb frame_num count) { picture_bytes = bytes_with s mb }

unfoldable pub after : Standing → Call → Standing
after s (OfUnit byte kind ref_idc length) = after_unit s kind ref_idc length
after s (OfElement name bit v) = after_element s name (natural v)
after s (OfSlice byte mb kind frame_num count) = after_slice s mb frame_num count
after s call = s

unfoldable pub standing_after : Standing → List Call → Standing
standing_after s [] = s
standing_after s (call ∷ calls) = standing_after (after s call) calls

-- ---- which rules a call breaks, and where

abbrev pub is_zero : ℤ → Bool
is_zero (pos n) = n == 0
is_zero (negsuc n) = false

-- a picture whose count is not 0 (8.2.1), though it is an IDR picture
abbrev pub has_idr_count : NewPicture → Bool
has_idr_count p = p.is_idr && not (is_zero p.count)

-- It follows another picture of its sequence too soon (A.3.1).
abbrev pub comes_too_soon : Standing → NewPicture → Bool
comes_too_soon s p = not p.is_idr && is_too_fast s.set

-- the rules that a picture breaks
abbrev pub by_numbers : Standing → NewPicture → List StrictRule
by_numbers s p = listed (broken_if (has_idr_count p) rules.IdrCount) ++ listed (broken_if (repeats_number s.pictures p) rules.FrameNumRepeated)

abbrev pub by_time : Standing → NewPicture → List StrictRule
by_time s p = listed (by_count s.pictures (is_in_order s.set) p) ++ listed (broken_if (comes_too_soon s p) rules.FrameRate)

abbrev pub by_picture : Standing → NewPicture → List StrictRule
by_picture s p = by_numbers s p ++ by_time s p

-- the rules that a slice breaks by the picture that it begins
abbrev pub by_beginning : Standing → ℕ → ℕ → ℤ → List StrictRule
by_beginning s mb frame_num count = if mb == 0 then by_picture s (picture_in s frame_num count) else []

-- It is the slice with which its picture has too many bytes (E.2.1).
abbrev pub by_bytes : Standing → ℕ → Bool
by_bytes s mb = not (are_too_many_bytes s.set (bytes_before s mb)) && are_too_many_bytes s.set (bytes_with s mb)

abbrev pub by_slice : Standing → ℕ → ℕ → ℤ → List StrictRule
by_slice s mb frame_num count = by_beginning s mb frame_num count ++ listed (broken_if (by_bytes s mb) rules.PictureBytes)

abbrev pub by_unit : Standing → ℕ → ℕ → ℕ → List StrictRule
by_unit s kind ref_idc length =
    (listed (by_order s kind ref_idc) ++ listed (broken_if (has_other_length kind length) rules.UnitLength))
    ++ listed (broken_if s.ended rules.AfterEndOfStream)

unfoldable pub broken_by : Standing → Call → List StrictRule
broken_by s (OfUnit byte kind ref_idc length) = by_unit s kind ref_idc length
broken_by s (OfElement name bit v) = broken_by_element s name (natural v)
broken_by s (OfSlice byte mb kind frame_num count) = by_slice s mb frame_num count
broken_by s call = []

-- the first bit of a byte, in 64 bits
abbrev pub first_bit : ℕ → ℕ
first_bit byte = min (8 * byte) (2 ^ 64 - 1)

-- an element's first bit, and the first one of the unit of all else
abbrev pub bit_of : Call → ℕ
bit_of (OfUnit byte kind ref_idc length) = first_bit byte
bit_of (OfSlice byte mb kind frame_num count) = first_bit byte
bit_of (OfElement name bit v) = bit
bit_of call = 0

-- once for each time that the rule stands among these
unfoldable pub bits_for : StrictRule → ℕ → List StrictRule → List ℕ
bits_for rule bit [] = []
bits_for rule bit (r ∷ rs) = (if place_of r == place_of rule then bit ∷ [] else []) ++ bits_for rule bit rs

-- the bits at which these calls break the rule, in their order
unfoldable pub places : StrictRule → Standing → List Call → List ℕ
places rule s [] = []
places rule s (call ∷ calls) = bits_for rule (bit_of call) (broken_by s call) ++ places rule (after s call) calls

-- ---- the first place, and how many there are

abbrev pub with_place : Option Places → ℕ → Places
with_place None bit = record { first = bit; count = 1 }
with_place (Some p) bit = record p { count = grown p.count 1 }

unfoldable pub with_places : Option Places → List ℕ → Option Places
with_places p [] = p
with_places p (bit ∷ bits) = with_places (Some (with_place p bit)) bits

-- what is told of a rule after these calls
abbrev pub told_of : StrictRule → List Call → Option Places
told_of rule calls = with_places None (places rule start calls)

-- what a state says of a rule
abbrev pub found_of : Strict → StrictRule → Option Places
found_of s rule = get_or s.found (place_of rule) None

-- a state after one more call
abbrev pub Advances : Call → Strict → Strict → Type 0
Advances call old new =
    (new.standing ≡ after old.standing call)
    × ((rule : StrictRule) → found_of new rule ≡ with_places (found_of old rule) (bits_for rule (bit_of call) (broken_by old.standing call)))

-- The state says of each rule where these calls break it first, and at how many places.
abbrev pub TookStrict : Strict → List Call → Type 0
TookStrict s calls = (s.standing ≡ standing_after start calls) × ((rule : StrictRule) → found_of s rule ≡ told_of rule calls)
