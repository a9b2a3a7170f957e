-- The lines that explain a no or an outside. To be read beside docs/OUTPUT.md.
use Rattle.std.specs.Prelude.{ℕ, ◌/◌, Bool, Option, None, Some, List, [], ◌++◌, codes, Result, if◌then◌else◌}
use Rattle.std.specs.Fmt.{signed_decimal}
use Rattle.h264_base.specs.ElementName.{text_of}
use Rattle.h264_base.specs.declared.rule.Rule.{Rule}
use Rattle.h264_base.specs.declared.stop.Stop.{Stop}
use Rattle.h264_base.specs.declared.summary.Summary.{Summary}
use Rattle.h264_lines.specs.declared.trail.Element.{Element}
use Rattle.h264_units.specs.UnitTypes.{type_number}
use Rattle.h264_pages.specs.Findings.{rule_in}
use Rattle.h264_pages.specs.Pages.{numbered, number_after}
use Rattle.h264_pages.specs.Places.{allowed_as, file_named}
use Rattle.h264_pages.specs.Reasons.{container_name, profile_declared, cause_text, has_remedy, remedy}
use Rattle.h264_pages.specs.declared.pages.finding.Finding.{Finding}
use Rattle.h264_pages.specs.declared.pages.finding.Guide.{Guide}
use Rattle.h264_pages.specs.declared.pages.finding.Macroblock.{Macroblock}
use Rattle.h264_pages.specs.declared.pages.reason.Reason.{Reason}
use Rattle.h264_pages.specs.declared.pages.reason.Reason.TheVariants as reasons
use Rattle.h264_pages.specs.declared.survey.slice.Unit.{Unit}

-- ---- where it stands

-- the unit that was told last, by its byte and its type
abbrev pub unit_text : Option Unit → List ℕ
unit_text None = []
unit_text (Some unit) = numbered (codes " unit ") unit.byte ++ numbered (codes " type ") (type_number unit.nal_unit_type)

abbrev pub bit_line : (bit : ℕ) → Option Unit → List ℕ
bit_line bit unit = numbered (codes "explain bit ") bit ++ (numbered (codes " byte ") (bit / 8) ++ (unit_text unit ++ codes "\n"))

-- where the number of the picture is known
abbrev pub picture_line : (picture frame_num slice : Option ℕ) → List ℕ
picture_line None frame_num slice = []
picture_line (Some picture) frame_num slice = numbered (codes "explain picture ") picture ++ (number_after (codes " frame ") frame_num
    ++ (number_after (codes " slice ") slice ++ codes "\n"))

abbrev pub macroblock_line : Option Macroblock → List ℕ
macroblock_line None = []
macroblock_line (Some m) = numbered (codes "explain macroblock ") m.address ++ (numbered (codes " column ") m.column
    ++ (numbered (codes " row ") m.row ++ codes "\n"))

abbrev pub place_lines : Option Unit → Finding → List ℕ
place_lines unit f = bit_line f.bit unit ++ (picture_line f.picture f.frame_num f.slice ++ macroblock_line f.macroblock)

-- ---- what was found

-- an element with its bit and its value, after a word
abbrev pub element_line : List ℕ → Element → List ℕ
element_line word e = word ++ (text_of e.name ++ (numbered (codes " bit ") e.bit ++ (codes " value " ++ (signed_decimal e.value ++ codes "\n"))))

-- the element at the bit; else the one that was read last
abbrev pub found_line : (at_bit last : Option Element) → List ℕ
found_line (Some e) last = element_line (codes "explain found ") e
found_line None (Some e) = element_line (codes "explain after ") e
found_line None None = []

-- a text on a line of its own, after a word
abbrev pub line_of : (word text : List ℕ) → List ℕ
line_of word text = word ++ (text ++ codes "\n")

-- ---- what is said of it

-- what breaks the rule, and what causes that
abbrev pub guide_lines : Option Reason → Option Guide → List ℕ
guide_lines reason None = []
guide_lines reason (Some guide) = codes "explain rule " ++ (guide.breaks.now ++ (codes "\nexplain cause " ++ (cause_text reason guide.cause.now
    ++ codes "\n")))

-- why the input is no stream for this program
abbrev pub reason_line : Option Reason → List ℕ
reason_line None = []
reason_line (Some (reasons.Container container)) = line_of (codes "explain reason container ") (container_name container)
reason_line (Some reasons.Hevc) = codes "explain reason hevc\n"
reason_line (Some (reasons.OtherProfile declared)) = line_of (codes "explain reason other-profile ") (profile_declared declared)
reason_line (Some reasons.Cabac) = codes "explain reason cabac\n"

-- what to do about it, with a file of this name
abbrev pub remedy_line : Option (List ℕ) → Reason → List ℕ
remedy_line file reason = if has_remedy reason then line_of (codes "explain remedy ") (remedy reason file) else []

abbrev pub given_remedy_line : Option (List ℕ) → Option Reason → List ℕ
given_remedy_line file None = []
given_remedy_line file (Some reason) = remedy_line file reason

-- the input ends in the unit
abbrev pub end_line : Bool → List ℕ
end_line ends = if ends then codes "explain end the input ends in this unit\n" else []

-- ---- all of them

-- the lines of a finding, with these words of what is allowed
abbrev pub finding_lines : Option Rule → Option Unit → Finding → Option Guide → (words : Option (List ℕ)) → List ℕ
finding_lines rule unit f guide words = place_lines unit f ++ (found_line f.element f.last ++ (allowed_as (line_of (codes "explain allowed ")) rule words
    ++ (guide_lines f.reason guide ++ (reason_line f.reason ++ (given_remedy_line (file_named guide) f.reason ++ end_line f.ends_in_unit)))))

-- none for an answer that nothing was found of
abbrev pub explanation : Result Summary Stop → Option Unit → Option Finding → Option Guide → (words : Option (List ℕ)) → List ℕ
explanation answer unit None guide words = []
explanation answer unit (Some f) guide words = finding_lines (rule_in answer) unit f guide words
