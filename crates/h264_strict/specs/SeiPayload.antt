-- Whether a message is as its syntax says (7.3.2.3.1, D.1, D.2). To be read beside the standard.
use Rattle.std.specs.Prelude.{ℕ, ◌+◌, ◌-◌, ◌*◌, ◌^◌, ◌==◌, ◌&&◌, ◌||◌, Bool, true, false, nat_lt, nat_le, if◌then◌else◌, List, [], ◌∷◌}
use Rattle.std.specs.Prelude.{length, take, drop, Option, None, Some}
use Rattle.h264_strict.specs.SeiContent.{content, has_syntax}
use Rattle.h264_strict.specs.SeiMessages.{ff_bytes, payload_value, payload_start, message_length}
use Rattle.h264_strict.specs.SeiPart.{Part, u, passed}
use Rattle.h264_strict.specs.SeiTiming.{buffering_period, pic_timing}
use Rattle.h264_strict.specs.declared.sei.payload.Message.{Message}
use Rattle.h264_strict.specs.declared.sei.timing.KnownSet.{KnownSet}
use Rattle.h264_strict.specs.declared.sei.timing.KnownSet.TheVariants.{NotYet, One, Unknown}

-- an element has this value
abbrev pub has_value : ℕ → Option (ℕ × ℕ) → Bool
has_value v None = false
has_value v (Some x) = x.0 == v

-- The content ends at bit j, and the payload at bit `to`, the first of a byte: no bits are left, or bit_equal_to_one and then zeros, in one byte.
abbrev pub is_closed : List ℕ → (j to : ℕ) → Bool
is_closed bytes j to = (j == to) || nat_lt (to - 8) j && nat_lt j to && has_value (2 ^ (to - j - 1)) (u (to - j) bytes j)

-- what was read of the content is all of the payload
abbrev pub fills_up : List ℕ → (to : ℕ) → Option (Unit {0} × ℕ) → Bool
fills_up bytes to None = false
fills_up bytes to (Some x) = is_closed bytes x.1 to

-- filler_payload(): bytes FF
abbrev pub is_filler_payload : List ℕ → Bool
is_filler_payload payload = ff_bytes payload == length payload

-- user_data_registered_itu_t_t35(): the country's code, after FF a byte more, and a byte at least
abbrev pub is_registered : List ℕ → Bool
is_registered [] = false
is_registered (country ∷ rest) = nat_le (if country == 255 then 2 else 1) (length rest)

-- payloadType of messages whose content is read by a syntax, by the set that is known
abbrev pub is_read : KnownSet → ℕ → Bool
is_read (One set) kind = (kind == 0) || (kind == 1) || has_syntax kind
is_read NotYet kind = has_syntax kind
is_read Unknown kind = has_syntax kind

-- that content
abbrev pub content_by : KnownSet → ℕ → Part (Unit {0})
content_by (One set) kind = if kind == 0 then passed (buffering_period set) else (if kind == 1 then passed (pic_timing set) else content kind)
content_by NotYet kind = content kind
content_by Unknown kind = content kind

-- The payload of this payloadType is bytes `from` to `to` of the RBSP, and is as its syntax says. user_data_unregistered() begins with 16 bytes. Messages of
-- other types are not judged.
abbrev pub holds : KnownSet → ℕ → (bytes : List ℕ) → (from to : ℕ) → Bool
holds known kind bytes from to =
    if kind == 3 then is_filler_payload (take (to - from) (drop from bytes))
    else (if kind == 4 then is_registered (take (to - from) (drop from bytes))
    else (if kind == 5 then nat_le 16 (to - from)
    else (if is_read known kind then fills_up bytes (8 * to) (content_by known kind bytes (8 * from)) else true)))

-- the message of so many bytes that begins with this byte of the RBSP
abbrev pub message_of_length : KnownSet → List ℕ → (at : ℕ) → Option ℕ → Option Message
message_of_length known bytes at None = None
message_of_length known bytes at (Some whole) = Some (record {
  payload_type = payload_value (drop at bytes);
  from = at + payload_start (drop at bytes);
  end = at + whole;
  holds = holds known (payload_value (drop at bytes)) bytes (at + payload_start (drop at bytes)) (at + whole);
})

abbrev pub message_at : KnownSet → List ℕ → (at : ℕ) → Option Message
message_at known bytes at = message_of_length known bytes at (message_length (drop at bytes))
