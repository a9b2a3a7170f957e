-- Texts within HTML, between tags and in attributes between quotation marks (HTML, 13.3). To be read beside docs/OUTPUT.md.
use Rattle.std.specs.Prelude.{ℕ, ◌==◌, List, flat_map, codes, if◌then◌else◌}
use Rattle.std.specs.Char.{encode_utf8}
use Rattle.std.specs.Str.{chars}

-- a character: an ampersand, the signs of a tag and a quotation mark by their names, each other one as it is
abbrev pub escaped_character : ℕ → List ℕ
escaped_character c =
    if c == 38 then codes "&amp;"
    else if c == 60 then codes "&lt;"
    else if c == 62 then codes "&gt;"
    else if c == 34 then codes "&quot;"
    else encode_utf8 c

-- a text
unfoldable pub escaped : List ℕ → List ℕ
escaped text = flat_map escaped_character (chars text)
