-- The fields of a verdict's object that say where it stands and what was found there. To be read beside docs/OUTPUT.md.
use Rattle.std.specs.Prelude.{ℕ, ◌/◌, Option, None, Some, option_and_then, List, [], ◌++◌, codes, Result, Err}
use Rattle.std.specs.Option.{option_copied}
use Rattle.h264_base.specs.ElementName.{text_of}
use Rattle.h264_base.specs.declared.rule.Rule.{Rule}
use Rattle.h264_base.specs.declared.stop.Stop.{Stop}
use Rattle.h264_base.specs.declared.stop.Stop.TheVariants.{No, Outside}
use Rattle.h264_base.specs.declared.summary.Summary.{Summary}
use Rattle.h264_lines.specs.declared.trail.Element.{Element}
use Rattle.h264_units.specs.UnitTypes.{type_number}
use Rattle.h264_pages.specs.Pages.{number_field, signed_field, maybe_field, bool_field, text_field, answer_fields}
use Rattle.h264_pages.specs.Findings.{rule_in}
use Rattle.h264_pages.specs.Reasons.{given_reason_fields, remedied_fields, cause_text}
use Rattle.h264_pages.specs.declared.pages.finding.Finding.{Finding}
use Rattle.h264_pages.specs.declared.pages.finding.Guide.{Guide}
use Rattle.h264_pages.specs.declared.pages.finding.Macroblock.{Macroblock}
use Rattle.h264_pages.specs.declared.pages.reason.Reason.{Reason}
use Rattle.h264_pages.specs.declared.survey.slice.Unit.{Unit}

-- the bit that an answer names: that of a no or an outside
abbrev pub bit_in : Result Summary Stop → Option ℕ
bit_in (Err (No bit rule)) = Some bit
bit_in (Err (Outside bit feature)) = Some bit
bit_in answer = None

-- a bit and its byte
abbrev pub bit_fields : ℕ → List ℕ
bit_fields bit = number_field (codes "bit") bit ++ number_field (codes "byte") (bit / 8)

-- those of the bit that an answer names
abbrev pub named_bit_fields : Option ℕ → List ℕ
named_bit_fields None = []
named_bit_fields (Some bit) = bit_fields bit

-- the unit that was told last
abbrev pub unit_fields : Option Unit → List ℕ
unit_fields None = []
unit_fields (Some unit) = number_field (codes "unit") unit.byte ++ number_field (codes "nal_unit_type") (type_number unit.nal_unit_type)

-- a macroblock
abbrev pub macroblock_fields : Option Macroblock → List ℕ
macroblock_fields None = []
macroblock_fields (Some m) = number_field (codes "macroblock") m.address ++ (number_field (codes "column") m.column ++ number_field (codes "row") m.row)

-- the picture, the slice and the macroblock
abbrev pub picture_fields : Finding → List ℕ
picture_fields f = maybe_field (codes "picture") f.picture ++ (maybe_field (codes "frame_num") f.frame_num ++ (maybe_field (codes "slice") f.slice
    ++ macroblock_fields f.macroblock))

-- the element at the bit; else the one that was read last
abbrev pub element_fields : (at_bit last : Option Element) → List ℕ
element_fields (Some e) last = text_field (codes "element") (text_of e.name) ++ signed_field (codes "value") e.value
element_fields None (Some e) = text_field (codes "after") (text_of e.name)
element_fields None None = []

-- where a verdict stands and what was found there, with this unit told last
abbrev pub place_fields : Option Unit → Finding → List ℕ
place_fields unit f = (bit_fields f.bit ++ unit_fields unit) ++ (picture_fields f ++ (element_fields f.element f.last
    ++ bool_field (codes "ends_in_unit") f.ends_in_unit))

-- that, and why the input is no stream for this program, where a finding says so
abbrev pub finding_fields : Option Unit → Option Finding → List ℕ
finding_fields unit None = []
finding_fields unit (Some f) = place_fields unit f ++ given_reason_fields f.reason

-- what is said to a reader of the rule or feature
abbrev pub guide_fields : Option Guide → List ℕ
guide_fields None = []
guide_fields (Some guide) = text_field (codes "breaks") guide.breaks.now ++ text_field (codes "cause") guide.cause.now

-- ---- what is said beside it

-- the name of the file, where a guide has it
abbrev pub file_named : Option Guide → Option (List ℕ)
file_named guide = option_copied (option_and_then (λ (g : Guide). g.file) guide)

-- why the input is no stream for this program, where a finding says so
abbrev pub reason_found : Option Finding → Option Reason
reason_found finding = option_and_then (λ (f : Finding). f.reason) finding

-- what is made of these words on what a rule allows, where it was broken and there is something to say
abbrev pub allowed_as : (made : List ℕ → List ℕ) → Option Rule → (words : Option (List ℕ)) → List ℕ
allowed_as made None words = []
allowed_as made (Some rule) None = []
allowed_as made (Some rule) (Some text) = made text

-- where a verdict stands and what was found there, and what to do about it with a file of this name
abbrev pub remedied_place_fields : (file : Option (List ℕ)) → Option Unit → Finding → List ℕ
remedied_place_fields file unit f = place_fields unit f ++ remedied_fields file f.reason

-- that, and what the rule allows, where there is a finding
abbrev pub whole_finding_fields : (file : Option (List ℕ)) → Option Unit → Option Rule → Option Finding → (words : Option (List ℕ)) → List ℕ
whole_finding_fields file unit rule None words = []
whole_finding_fields file unit rule (Some f) words = remedied_place_fields file unit f ++ allowed_as (text_field (codes "allowed")) rule words

-- what is said to a reader of the rule or feature, with what was found
abbrev pub said_fields : Option Finding → Option Guide → List ℕ
said_fields finding None = []
said_fields finding (Some guide) =
    text_field (codes "breaks") guide.breaks.now ++ text_field (codes "cause") (cause_text (reason_found finding) guide.cause.now)

-- all fields of a verdict, with these words of what is allowed
abbrev pub whole_fields : Result Summary Stop → Option Unit → Option Finding → Option Guide → (words : Option (List ℕ)) → List ℕ
whole_fields answer unit finding guide words =
    answer_fields answer ++ (whole_finding_fields (file_named guide) unit (rule_in answer) finding words ++ said_fields finding guide)

-- the fields of a verdict on a stream that was not surveyed
abbrev pub bare_fields : Result Summary Stop → Option Guide → List ℕ
bare_fields answer guide = answer_fields answer ++ (named_bit_fields (bit_in answer) ++ guide_fields guide)
