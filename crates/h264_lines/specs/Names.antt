-- Names of files, and other words, as they stand in lines. To be read beside docs/OUTPUT.md.
use Rattle.std.specs.Prelude.{◌≢◌, ℕ, ◌/◌, ◌%◌, ◌≤◌, ◌==◌, ◌||◌, ◌&&◌, nat_le, nat_lt, List, ◌++◌, flat_map, codes, if◌then◌else◌}
use Rattle.std.specs.Char.{digit_char, encode_utf8}
use Rattle.std.specs.Str.{chars}

-- the two hexadecimal digits of a byte, in small letters
abbrev pub hex_byte : ℕ → List ℕ
hex_byte byte = encode_utf8 (digit_char (byte / 16)) ++ encode_utf8 (digit_char (byte % 16))

-- a byte: \x and its digits
abbrev pub shown_byte : ℕ → List ℕ
shown_byte byte = codes "\\x" ++ hex_byte byte

-- a control character above ASCII: its two bytes, of which the first is C2
abbrev pub shown_above : ℕ → List ℕ
shown_above c = shown_byte 194 ++ shown_byte c

-- a character: a backslash as two, a line end as \n, another control character by its bytes, each other one as it is; U+0000 as \x, since the digits of a
-- byte stand after it
abbrev pub shown_character : ℕ → List ℕ
shown_character c =
    if c == 92 then codes "\\\\"
    else if c == 10 then codes "\\n"
    else if c == 0 then codes "\\x"
    else if nat_lt c 32 || (c == 127) then shown_byte c
    else if nat_le 128 c && nat_lt c 160 then shown_above c
    else encode_utf8 c

-- a name
unfoldable pub shown : List ℕ → List ℕ
shown name = flat_map shown_character (chars name)

-- a byte that may stand in it: no control character of ASCII, and so no line end
abbrev pub IsSeen : ℕ → Type 0
IsSeen byte = (32 ≤ byte) × (byte ≢ 127)
