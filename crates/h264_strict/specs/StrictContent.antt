-- The rules that a unit breaks by its bytes, and where. To be read beside the standard.
-- SEI breaks them at its messages, and all else at its first bit; and the set that messages need.
use Rattle.std.specs.Prelude.{ℕ, zero, suc, ◌*◌, ◌==◌, ◌&&◌, not, if◌then◌else◌, List, [], ◌++◌, length, Option, None, Some}
use Rattle.h264_base.specs.Body.{Body, place}
use Rattle.h264_rbsp.specs.Rbsp.{body_of}
use Rattle.h264_strict.specs.SeiMessages.{is_sei}
use Rattle.h264_strict.specs.SeiPayload.{message_at}
use Rattle.h264_strict.specs.SeiTimes.{times_of}
use Rattle.h264_strict.specs.SeiTiming.{known_after}
use Rattle.h264_strict.specs.declared.sei.payload.Message.{Message}
use Rattle.h264_strict.specs.declared.sei.times.TimesTold.{TimesTold}
use Rattle.h264_strict.specs.declared.sei.timing.KnownSet.{KnownSet}
use Rattle.h264_units.specs.Stream.{NalUnit}
use Rattle.h264_strict.specs.Strict.{bits_for}
use Rattle.h264_strict.specs.StrictBytes.{kind_of, broken_unit}
use Rattle.h264_strict.specs.StrictRules.{broken_if, listed}
use Rattle.h264_strict.specs.declared.strict_rule.StrictRule.{StrictRule}
use Rattle.h264_strict.specs.declared.strict_rule.StrictRule.TheVariants as rules

-- of a message and those after it; the bit is its first
abbrev pub bits_from : StrictRule → Option Message → (bit : ℕ) → (ℕ → List ℕ) → List ℕ
bits_from rule None bit later = []
bits_from rule (Some message) bit later = bits_for rule bit (listed (broken_if (not message.holds) rules.SeiContent)) ++ later message.end

-- the first bits of the messages from this byte of the RBSP on, at most so many, that break the rule
unfoldable pub message_bits : StrictRule → KnownSet → ℕ → Body → (at : ℕ) → List ℕ
message_bits rule known zero body at = []
message_bits rule known (suc n) body at = bits_from rule (message_at known body.bytes at) (place body (8 * at)) (message_bits rule known n body)

-- where the messages of a unit break the rule; they are looked at where all are whole
abbrev pub content_bits : StrictRule → KnownSet → (kind : ℕ) → Body → List ℕ
content_bits rule known kind body = if (kind == 6) && is_sei body.bytes then message_bits rule known (length body.bytes) body 0 else []

-- where a unit breaks the rule by its bytes
abbrev pub bits_by_bytes : StrictRule → KnownSet → NalUnit → List ℕ
bits_by_bytes rule known unit = bits_for rule (8 * unit.from) (listed (broken_unit unit)) ++ content_bits rule known (kind_of unit) (body_of unit)

-- the set that is known after a unit
abbrev pub set_by : KnownSet → (kind : ℕ) → Body → KnownSet
set_by known kind body = if kind == 7 then known_after known body else known

abbrev pub set_after : KnownSet → NalUnit → KnownSet
set_after known unit = set_by known (kind_of unit) (body_of unit)

-- what a unit says of times
abbrev pub times_told : KnownSet → NalUnit → TimesTold
times_told known unit = times_of known (kind_of unit) (body_of unit).bytes
