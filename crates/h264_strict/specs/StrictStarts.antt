-- The rules on start codes, and on what a delimiter says of its picture (B.1.2, 7.4.2.4); and where units break a rule. To be read beside the standard.
use Rattle.std.specs.Prelude.{◌≡◌, ℕ, ◌*◌, ◌-◌, ◌/◌, ◌==◌, ◌&&◌, ◌||◌, Bool, false, not, nat_lt, nat_le, if◌then◌else◌}
use Rattle.std.specs.Prelude.{List, [], ◌∷◌, ◌++◌, Option, None, get_or}
use Rattle.h264_units.specs.Stream.{NalUnit, past}
use Rattle.h264_units.specs.UnitHeader.{is_slice}
use Rattle.h264_strict.specs.declared.sei.timing.KnownSet.TheVariants.{NotYet}
use Rattle.h264_strict.specs.BufferUnits.{no_buffer, came, ended_at, ended_bits, lack_in, watches_after}
use Rattle.h264_strict.specs.Strict.{begins_access_unit, bits_for, with_places}
use Rattle.h264_strict.specs.StrictBytes.{kind_of}
use Rattle.h264_strict.specs.StrictContent.{bits_by_bytes, set_after, times_told}
use Rattle.h264_strict.specs.StrictRules.{broken_if, listed, place_of}
use Rattle.h264_strict.specs.declared.buffer.Lack.{Lack}
use Rattle.h264_strict.specs.declared.buffer_units.Came.{Came}
use Rattle.h264_strict.specs.declared.buffer_units.Ended.{Ended}
use Rattle.h264_strict.specs.declared.strict.Places.{Places}
use Rattle.h264_strict.specs.declared.strict_rule.StrictRule.{StrictRule}
use Rattle.h264_strict.specs.declared.strict_rule.StrictRule.TheVariants as rules
use Rattle.h264_strict.specs.declared.strict_starts.UnitsBefore.{UnitsBefore}
use Rattle.h264_strict.specs.declared.strict_starts.UnitsNoted.{UnitsNoted}

-- before the first unit
abbrev pub no_units : UnitsBefore
no_units = record { past = 0; begun = false; pic_type = 7; set = NotYet; buffer = no_buffer }

-- ---- the first unit of an access unit (7.4.1.2.3)

-- the first byte of the RBSP, or 0 where there is none; no emulation prevention byte stands so early
abbrev pub first_byte : List ℕ → ℕ
first_byte [] = 0
first_byte (header ∷ []) = 0
first_byte (header ∷ byte ∷ bytes) = byte

-- It is the slice of macroblock 0: ue(v) of 0 is the bit 1. Slices come in the order of their macroblocks in this profile, so it begins its picture.
abbrev pub begins_picture : ℕ → List ℕ → Bool
begins_picture kind body = is_slice kind && nat_le 128 (first_byte body)

-- It begins an access unit: no unit that does came after the last slice.
abbrev pub is_first : UnitsBefore → ℕ → List ℕ → Bool
is_first s kind body = not s.begun && (begins_access_unit kind || begins_picture kind body)

-- ---- zero_byte (B.1.2)

-- Each set has one, and the first unit of an access unit. Units of type 14 to 18 are not judged: of type 14 one may stand before each slice of a picture.
abbrev pub needs_zero_byte : UnitsBefore → ℕ → List ℕ → Bool
needs_zero_byte s kind body = (kind == 7) || (kind == 8) || nat_lt kind 14 && is_first s kind body

-- a 00 between the unit before and the start code's three bytes
abbrev pub has_zero_byte : UnitsBefore → (from : ℕ) → Bool
has_zero_byte s from = nat_lt s.past (from - 3)

abbrev pub lacks_zero_byte : UnitsBefore → (from : ℕ) → ℕ → List ℕ → Bool
lacks_zero_byte s from kind body = needs_zero_byte s kind body && not (has_zero_byte s from)

-- ---- primary_pic_type (7.4.2.4)

-- what a delimiter tells; 7 leaves no slice out, and one without a byte tells nothing
abbrev pub told_pic_type : List ℕ → ℕ
told_pic_type [] = 7
told_pic_type (header ∷ []) = 7
told_pic_type (header ∷ byte ∷ bytes) = byte / 32

-- the primary_pic_type of the access unit
abbrev pub pic_type_after : UnitsBefore → ℕ → List ℕ → ℕ
pic_type_after s kind body = if kind == 9 then told_pic_type body else (if is_first s kind body then 7 else s.pic_type)

-- After the bit of first_mb_in_slice comes slice_type as ue(v): 1 is 0 and 00110 is 5, which are P; 011 is 2 and 0001000 is 7, which are I.
abbrev pub is_p_slice : ℕ → Bool
is_p_slice byte = nat_le 192 byte || (byte / 4 == 38)

abbrev pub is_i_slice : ℕ → Bool
is_i_slice byte = (byte / 16 == 11) || (byte == 136)

-- The primary_pic_type leaves them out (table 7-5): 0 is I; 3 and 4 are SI and SP; 5 is I and SI.
abbrev pub leaves_p_out : ℕ → Bool
leaves_p_out t = (t == 0) || (t == 3) || (t == 4) || (t == 5)

abbrev pub leaves_i_out : ℕ → Bool
leaves_i_out t = (t == 3) || (t == 4)

abbrev pub is_left_out : ℕ → ℕ → Bool
is_left_out t byte = is_p_slice byte && leaves_p_out t || is_i_slice byte && leaves_i_out t

abbrev pub breaks_pic_type : UnitsBefore → ℕ → List ℕ → Bool
breaks_pic_type s kind body = begins_picture kind body && is_left_out (pic_type_after s kind body) (first_byte body)

-- ---- the rules that a unit breaks after others

-- what a unit is to the coded picture buffer
abbrev pub came_after : UnitsBefore → NalUnit → Came
came_after s unit = came s.set s.buffer s.past (is_first s (kind_of unit) unit.body) unit (times_told s.set unit)

abbrev pub after_unit : UnitsBefore → NalUnit → UnitsBefore
after_unit s unit = record {
  past = past unit;
  begun = begins_access_unit (kind_of unit) || s.begun && not (is_slice (kind_of unit));
  pic_type = pic_type_after s (kind_of unit) unit.body;
  set = set_after s.set unit;
  buffer = (came_after s unit).buffer;
}

unfoldable pub after_units : UnitsBefore → List NalUnit → UnitsBefore
after_units s [] = s
after_units s (unit ∷ units) = after_units (after_unit s unit) units

abbrev pub by_zero_byte : UnitsBefore → NalUnit → Option StrictRule
by_zero_byte s unit = broken_if (lacks_zero_byte s unit.from (kind_of unit) unit.body) rules.ZeroByte

abbrev pub by_pic_type : UnitsBefore → NalUnit → Option StrictRule
by_pic_type s unit = broken_if (breaks_pic_type s (kind_of unit) unit.body) rules.DelimiterType

abbrev pub broken_after : UnitsBefore → NalUnit → List StrictRule
broken_after s unit = listed (by_zero_byte s unit) ++ listed (by_pic_type s unit)

-- where a unit breaks the rule by itself
abbrev pub own_bits : StrictRule → UnitsBefore → NalUnit → List ℕ
own_bits rule s unit = bits_by_bytes rule s.set unit ++ bits_for rule (8 * unit.from) (broken_after s unit)

-- and where the access unit does that it ends
abbrev pub unit_bits : StrictRule → UnitsBefore → NalUnit → List ℕ
unit_bits rule s unit = own_bits rule s unit ++ ended_bits rule (came_after s unit).ended

-- where the units break the rule
unfoldable pub places_in : StrictRule → UnitsBefore → List NalUnit → List ℕ
places_in rule s [] = []
places_in rule s (unit ∷ units) = unit_bits rule s unit ++ places_in rule (after_unit s unit) units

-- what is told of a rule after these units
abbrev pub told_of_units : StrictRule → List NalUnit → Option Places
told_of_units rule units = with_places None (places_in rule no_units units)

-- the access unit that the end of the input ends
abbrev pub ended_last : UnitsBefore → Option Ended
ended_last s = ended_at s.set s.buffer.watches s.past s.buffer.current

-- Why the coded picture buffer is not followed to the end, if it is not, where more units may come and where none does.
abbrev pub lack_so_far : UnitsBefore → Option Lack
lack_so_far s = lack_in s.buffer.watches

abbrev pub lack_at_end : UnitsBefore → Option Lack
lack_at_end s = lack_in (watches_after s.buffer (ended_last s))

-- what is told of a rule where no unit comes after these
abbrev pub told_to_end : StrictRule → List NalUnit → Option Places
told_to_end rule units = with_places (told_of_units rule units) (ended_bits rule (ended_last (after_units no_units units)))

-- ---- what a reader of units notes

-- what was found of a rule
abbrev pub noted_in : List (Option Places) → StrictRule → Option Places
noted_in found rule = get_or found (place_of rule) None

-- one more unit was noted
abbrev pub NotesUnit : UnitsNoted → NalUnit → UnitsNoted → Type 0
NotesUnit old unit new =
    (new.before ≡ after_unit old.before unit)
    × ((rule : StrictRule) → noted_in new.found rule ≡ with_places (noted_in old.found rule) (unit_bits rule old.before unit))
