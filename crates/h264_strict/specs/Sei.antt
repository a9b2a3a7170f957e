-- The RBSP of SEI: messages, and the trailing bits (7.3.2.3, 7.3.2.3.1). To be read beside the standard.
use Rattle.std.specs.Prelude.{◌≡◌, ◌≢◌, ℕ, ◌+◌, ◌*◌, List, [], ◌∷◌, ◌++◌, length, replicate}

-- payloadType or payloadSize, before these bytes: ff_byte so many times, and then the last byte
abbrev pub coded : (ffs last : ℕ) → List ℕ → List ℕ
coded ffs last bytes = replicate ffs 255 ++ last ∷ bytes

-- sei_message()
pub record SeiMessage : Type 0 where
  pub type_ffs : ℕ
  pub last_payload_type_byte : ℕ
  pub size_ffs : ℕ
  pub last_payload_size_byte : ℕ
  pub payload : List ℕ

-- a message, and these bytes after it
abbrev pub message_before : SeiMessage → List ℕ → List ℕ
message_before m bytes = coded m.type_ffs m.last_payload_type_byte (coded m.size_ffs m.last_payload_size_byte (m.payload ++ bytes))

-- The last byte of payloadType and of payloadSize is no FF, and the payload has payloadSize bytes.
pub record IsMessage (m : SeiMessage) : Type 0 where
  pub type_ends : m.last_payload_type_byte ≢ 255
  pub size_ends : m.last_payload_size_byte ≢ 255
  pub sized : length m.payload ≡ 255 * m.size_ffs + m.last_payload_size_byte

-- The bytes are these messages, and then rbsp_trailing_bits().
abbrev pub AreMessages : List SeiMessage → List ℕ → Type 0
AreMessages [] bytes = bytes ≡ 128 ∷ []
AreMessages (m ∷ messages) bytes = IsMessage m × (rest : List ℕ) × (bytes ≡ message_before m rest) × AreMessages messages rest

-- sei_rbsp(): one message or more
abbrev pub IsSei : List ℕ → Type 0
IsSei bytes = (first : SeiMessage) × (others : List SeiMessage) × AreMessages (first ∷ others) bytes
