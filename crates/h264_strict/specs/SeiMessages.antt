-- SEI as a list of messages, read from the front on (7.3.2.3). To be read beside the standard.
use Rattle.std.specs.Prelude.{ℕ, zero, suc, ◌+◌, ◌*◌, ◌==◌, ◌&&◌, ◌||◌, Bool, false, nat_lt, nat_le, if◌then◌else◌, List, [], ◌∷◌}
use Rattle.std.specs.Prelude.{length, drop, slice_index, Option, None, Some}
use Rattle.std.specs.List.{prefix_len}

-- rbsp_trailing_bits() from a byte's first bit on: 80, and nothing after it (7.3.2.11)
abbrev pub is_trailing : List ℕ → Bool
is_trailing [] = false
is_trailing (b ∷ bytes) = (b == 128) && (length bytes == 0)

-- how many bytes FF come first
abbrev pub ff_bytes : List ℕ → ℕ
ff_bytes bytes = prefix_len (λ b. b == 255) bytes

-- payloadType or payloadSize: 255 for each byte FF, and one byte more (7.3.2.3.1)
abbrev pub payload_value : List ℕ → ℕ
payload_value bytes = 255 * ff_bytes bytes + slice_index bytes (ff_bytes bytes)

-- The bytes of sei_message(): payloadType, payloadSize, and as many bytes as that says. None where there are fewer.
abbrev pub message_of : (kind : ℕ) → (sized bytes : List ℕ) → Option ℕ
message_of kind sized bytes =
    let whole = kind + 1 + (ff_bytes sized + 1) + payload_value sized in
    if nat_lt (ff_bytes sized) (length sized) && nat_le whole (length bytes) then Some whole else None

unfoldable pub message_length : List ℕ → Option ℕ
message_length bytes = if nat_lt (ff_bytes bytes) (length bytes) then message_of (ff_bytes bytes) (drop (ff_bytes bytes + 1) bytes) bytes else None

-- there is a message, and this holds of its length
abbrev pub has_message : Option ℕ → (ℕ → Bool) → Bool
has_message None holds = false
has_message (Some whole) holds = holds whole

-- sei_rbsp() of at most so many messages, which are read one after another
unfoldable pub are_messages : ℕ → List ℕ → Bool
are_messages zero bytes = false
are_messages (suc n) bytes = has_message (message_length bytes) (λ whole. is_trailing (drop whole bytes) || are_messages n (drop whole bytes))

-- sei_rbsp(): messages, and the trailing bits (7.3.2.3). It holds exactly where `IsSei` of Sei does, which is the standard's syntax; `is_sei` of messages
-- has that in its contract.
abbrev pub is_sei : List ℕ → Bool
is_sei bytes = are_messages (length bytes) bytes

-- the bytes before the payload of the first message
abbrev pub payload_start : List ℕ → ℕ
payload_start bytes = ff_bytes bytes + 1 + (ff_bytes (drop (ff_bytes bytes + 1) bytes) + 1)
