-- The rules on the bytes of units that the verdict passes over: SEI, delimiters and filler data (7.3.2.3, 7.3.2.4, 7.3.2.7). To be read beside the standard.
use Rattle.std.specs.Prelude.{ℕ, ◌%◌, ◌==◌, ◌&&◌, ◌||◌, Bool, true, false, not, if◌then◌else◌, List, [], ◌∷◌, drop, slice_index, Option, None}
use Rattle.h264_rbsp.specs.Rbsp.{rbsp_bytes}
use Rattle.h264_strict.specs.SeiMessages.{is_trailing, is_sei}
use Rattle.h264_units.specs.Stream.{NalUnit}
use Rattle.h264_strict.specs.StrictRules.{broken_if}
use Rattle.h264_strict.specs.declared.strict_rule.StrictRule.{StrictRule}
use Rattle.h264_strict.specs.declared.strict_rule.StrictRule.TheVariants as rules

-- ---- the RBSP of each kind

-- access_unit_delimiter_rbsp(): primary_pic_type has 3 bits, and 1 0000 follows. That it has one byte is another rule.
abbrev pub is_delimiter : List ℕ → Bool
is_delimiter [] = true
is_delimiter (b ∷ bytes) = b % 32 == 16

-- filler_data_rbsp(): bytes FF, and the trailing bits
unfoldable pub is_filler : List ℕ → Bool
is_filler [] = false
is_filler (b ∷ bytes) = is_trailing (b ∷ bytes) || (b == 255) && is_filler bytes

-- ---- the rule that a unit breaks

-- by its nal_unit_type and its RBSP
abbrev pub by_rbsp : ℕ → List ℕ → Option StrictRule
by_rbsp kind bytes =
    if kind == 6 then broken_if (not (is_sei bytes)) rules.SeiSizes
    else (if kind == 9 then broken_if (not (is_delimiter bytes)) rules.DelimiterBits
    else (if kind == 12 then broken_if (not (is_filler bytes)) rules.FillerBytes else None))

-- its bytes are looked at: those rules are on it, or messages need what it says
abbrev pub is_judged : ℕ → Bool
is_judged kind = (kind == 6) || ((kind == 7) || ((kind == 9) || (kind == 12)))

abbrev pub kind_of : NalUnit → ℕ
kind_of unit = slice_index unit.body 0 % 32

abbrev pub broken_unit : NalUnit → Option StrictRule
broken_unit unit = by_rbsp (kind_of unit) (rbsp_bytes (drop 1 unit.body))
