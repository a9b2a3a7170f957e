-- Texts that are made piece by piece, and the fields of a verdict's object. To be read beside docs/OUTPUT.md.
use Rattle.std.specs.Prelude.{◌≡◌, ℕ, ◌+◌, ◌/◌, ◌%◌, ◌==◌, ℤ, Bool, false, List, [], ◌∷◌, ◌++◌, codes, string_bytes, Option, None, Some, Result, Ok, Err}
use Rattle.std.specs.Prelude.{if◌then◌else◌}
use Rattle.std.specs.Char.{encode_utf8}
use Rattle.std.specs.Str.{chars}
use Rattle.std.specs.Fmt.{decimal, signed_decimal}
use Rattle.h264_base.specs.declared.stop.Stop.{Stop}
use Rattle.h264_base.specs.declared.stop.Stop.TheVariants.{No, Outside, Memory, Read, Write}
use Rattle.h264_base.specs.Rule.{label_of, clause_of}
use Rattle.h264_base.specs.Feature.{text_of}
use Rattle.h264_pages.specs.Json.{escaped}
use Rattle.h264_lines.specs.Answer.{answer_status}
use Rattle.h264_pages.specs.declared.pages.page.Page.{Page}
use Rattle.h264_base.specs.declared.summary.Summary.{Summary}

-- what stands on a page
abbrev pub text_on : Page → List ℕ
text_on page = string_bytes page.text

-- memory was wanting for a part of it
abbrev pub is_cut : Page → Bool
is_cut page = page.is_short

-- This text was added to a page, unless memory was wanting.
abbrev pub Adds : Page → Page → List ℕ → Type 0
Adds old new text = is_cut new ≡ false → (is_cut old ≡ false) × (text_on new ≡ text_on old ++ text)

-- This text was added to it, and maybe more after it.
abbrev pub AddsFirst : Page → Page → List ℕ → Type 0
AddsFirst old new text = is_cut new ≡ false → (is_cut old ≡ false) × ((more : List ℕ) × (text_on new ≡ text_on old ++ (text ++ more)))

-- ---- numbers and lines

-- the three digits of a number below 1000
abbrev pub three_digits : ℕ → List ℕ
three_digits n = (48 + n / 100) ∷ (48 + n / 10 % 10) ∷ (48 + n % 10) ∷ []

-- a number of thousandths, with three decimals
abbrev pub thousandths : ℕ → List ℕ
thousandths n = decimal (n / 1000) ++ (codes "." ++ three_digits (n % 1000))

-- a number after a text
abbrev pub numbered : List ℕ → ℕ → List ℕ
numbered before value = before ++ decimal value

-- that, where there is one
abbrev pub number_after : List ℕ → Option ℕ → List ℕ
number_after before None = []
number_after before (Some value) = numbered before value

-- characters that follow one: before each that follows a line end stands a prefix
abbrev pub prefixed_after : List ℕ → ℕ → List ℕ → List ℕ
prefixed_after prefix before [] = []
prefixed_after prefix before (c ∷ cs) = (if before == 10 then prefix else []) ++ (encode_utf8 c ++ prefixed_after prefix c cs)

-- a text of lines, with a prefix before each of them
unfoldable pub prefixed : List ℕ → List ℕ → List ℕ
prefixed prefix text = prefixed_after prefix 10 (chars text)

-- ---- fields of JSON

-- "TEXT", escaped
abbrev pub quoted : List ℕ → List ℕ
quoted text = codes "\"" ++ (escaped text ++ codes "\"")

-- ,"NAME":
abbrev pub named : List ℕ → List ℕ
named name = codes "," ++ (quoted name ++ codes ":")

-- ,"NAME":N
abbrev pub number_field : List ℕ → ℕ → List ℕ
number_field name value = named name ++ decimal value

-- ,"NAME":N, of a number that may be negative
abbrev pub signed_field : List ℕ → ℤ → List ℕ
signed_field name value = named name ++ signed_decimal value

-- ,"NAME":N where there is a number, else no text
abbrev pub maybe_field : List ℕ → Option ℕ → List ℕ
maybe_field name None = []
maybe_field name (Some value) = number_field name value

-- ,"NAME":true or ,"NAME":false
abbrev pub bool_field : List ℕ → Bool → List ℕ
bool_field name value = named name ++ (if value then codes "true" else codes "false")

-- ,"NAME":"TEXT"
abbrev pub text_field : List ℕ → List ℕ → List ℕ
text_field name value = named name ++ quoted value

-- ---- the object of a verdict

-- its word
abbrev pub word_text : Result Summary Stop → List ℕ
word_text (Ok summary) = codes "yes"
word_text (Err (No bit rule)) = codes "no"
word_text (Err (Outside bit feature)) = codes "outside"
word_text (Err Memory) = codes "memory"
word_text (Err Read) = codes "read failed"
word_text (Err Write) = codes "write failed"

-- of a yes the counts, of a no the rule with its clause, of an outside the feature
abbrev pub found_fields : Result Summary Stop → List ℕ
found_fields (Ok summary) =
    number_field (codes "units") summary.units ++ (number_field (codes "pictures") summary.pictures ++ number_field (codes "frames") summary.frames)
found_fields (Err (No bit rule)) = text_field (codes "rule") (label_of rule) ++ text_field (codes "clause") (clause_of rule)
found_fields (Err (Outside bit feature)) = text_field (codes "feature") (text_of feature)
found_fields (Err Memory) = []
found_fields (Err Read) = []
found_fields (Err Write) = []

-- the fields of an answer
abbrev pub answer_fields : Result Summary Stop → List ℕ
answer_fields answer = text_field (codes "verdict") (word_text answer) ++ (number_field (codes "status") (answer_status answer) ++ found_fields answer)

-- the kind of the object, and the fields of an answer
abbrev pub verdict_fields : Result Summary Stop → List ℕ
verdict_fields answer = text_field (codes "kind") (codes "verdict") ++ answer_fields answer
