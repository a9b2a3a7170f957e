-- Texts within strings of JSON (RFC 8259, 7). To be read beside docs/OUTPUT.md.
use Rattle.std.specs.Prelude.{ℕ, ◌==◌, nat_lt, List, ◌++◌, flat_map, codes, if◌then◌else◌}
use Rattle.std.specs.Char.{encode_utf8}
use Rattle.std.specs.Str.{chars}
use Rattle.h264_lines.specs.Names.{hex_byte}

-- a control character: \u and its four digits, of which the first two are 0
abbrev pub control : ℕ → List ℕ
control c = codes "\\u00" ++ hex_byte c

-- a character: a quotation mark and a backslash after a backslash, a control character by its code, each other one as it is
abbrev pub escaped_character : ℕ → List ℕ
escaped_character c = if c == 34 then codes "\\\"" else (if c == 92 then codes "\\\\" else (if nat_lt c 32 then control c else encode_utf8 c))

-- a text, between the quotation marks of its string
unfoldable pub escaped : List ℕ → List ℕ
escaped text = flat_map escaped_character (chars text)
