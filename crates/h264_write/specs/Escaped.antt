-- Emulation prevention (7.4.1): a byte 03 before each byte up to 03 that follows two bytes 00. To be read beside the standard.
use Rattle.std.specs.Prelude.{ℕ, ◌+◌, ◌==◌, ◌&&◌, nat_le, Bool, if◌then◌else◌, List, [], ◌∷◌}

-- how many bytes 00 stand after this byte, where so many stand before it
abbrev pub zeros_after : ℕ → ℕ → ℕ
zeros_after count byte = if byte == 0 then count + 1 else 0

-- whether a byte 03 has to stand before this byte
abbrev pub needs_prevention : ℕ → ℕ → Bool
needs_prevention count byte = nat_le 2 count && nat_le byte 3

-- the bytes, after so many bytes 00
unfoldable pub escaped : ℕ → List ℕ → List ℕ
escaped count [] = []
escaped count (byte ∷ bytes) =
    if needs_prevention count byte then 3 ∷ byte ∷ escaped (zeros_after 0 byte) bytes else byte ∷ escaped (zeros_after count byte) bytes
