-- The lines' texts, in ASCII and without a line end. To be read beside docs/OUTPUT.md.
use Rattle.std.specs.Prelude.{ℕ, ℤ, List, ◌++◌, codes, Result, Ok, Err}
use Rattle.std.specs.Fmt.{decimal, signed_decimal}
use Rattle.hex.specs.Hex.{encode_lower}
use Rattle.md5.specs.Md5.{md5}
use Rattle.h264_base.specs.ElementName as names
use Rattle.h264_base.specs.declared.element_name.ElementName.{ElementName}
use Rattle.h264_base.specs.declared.mode.Mode.{Mode}
use Rattle.h264_base.specs.declared.mode.Mode.TheVariants as modes
use Rattle.h264_base.specs.declared.mode.SliceType.{SliceType}
use Rattle.h264_base.specs.declared.mode.SliceType.TheVariants as slice_type
use Rattle.h264_base.specs.declared.rule.Rule.{Rule}
use Rattle.h264_base.specs.declared.stop.Feature.{Feature}
use Rattle.h264_base.specs.declared.stop.Stop.{Stop}
use Rattle.h264_base.specs.declared.stop.Stop.TheVariants.{No, Outside, Memory, Read, Write}
use Rattle.h264_base.specs.Rule.{label_of, clause_of}
use Rattle.h264_base.specs.Feature.{text_of}
use Rattle.h264_base.specs.declared.summary.Summary.{Summary}

-- unit BYTE type T ref R bytes L
abbrev pub unit_text : ℕ → ℕ → ℕ → ℕ → List ℕ
unit_text byte kind reference length =
    codes "unit " ++ (decimal byte ++ (codes " type " ++ (decimal kind ++ (codes " ref " ++ (decimal reference ++ (codes " bytes " ++ decimal length))))))

-- P or I
abbrev pub type_text : SliceType → List ℕ
type_text slice_type.P = codes "P"
type_text slice_type.I = codes "I"

-- slice BYTE mb F type P|I frame N count C
abbrev pub slice_text : ℕ → ℕ → SliceType → ℕ → ℤ → List ℕ
slice_text byte mb kind frame_num count =
    codes "slice " ++ (decimal byte ++ (codes " mb " ++ (decimal mb ++ (codes " type " ++ (type_text kind
    ++ (codes " frame " ++ (decimal frame_num ++ (codes " count " ++ signed_decimal count))))))))

-- frame I count C WxH md5 HEX, with the digest of these bytes
abbrev pub frame_text : ℕ → ℤ → ℕ → ℕ → List ℕ → List ℕ
frame_text index count width height bytes =
    codes "frame " ++ (decimal index ++ (codes " count " ++ (signed_decimal count ++ (codes " " ++ (decimal width ++ (codes "x" ++ (decimal height
    ++ (codes " md5 " ++ encode_lower (md5 bytes)))))))))

-- element NAME bit N value V
abbrev pub element_text : ElementName → ℕ → ℤ → List ℕ
element_text name bit value = codes "element " ++ (names.text_of name ++ (codes " bit " ++ (decimal bit ++ (codes " value " ++ signed_decimal value))))

-- yes: units U pictures P frames F
abbrev pub whole_text : Summary → List ℕ
whole_text summary =
    codes "yes: units " ++ (decimal summary.units ++ (codes " pictures " ++ (decimal summary.pictures ++ (codes " frames " ++ decimal summary.frames))))

-- yes: units U, the pictures where slices were read, and the frames where slice data were
abbrev pub yes_text : Mode → Summary → List ℕ
yes_text modes.Units summary = codes "yes: units " ++ decimal summary.units
yes_text modes.Headers summary = codes "yes: units " ++ (decimal summary.units ++ (codes " pictures " ++ decimal summary.pictures))
yes_text modes.Verdict summary = whole_text summary
yes_text modes.Full summary = whole_text summary

-- no: bit N: LABEL (clause C)
abbrev pub no_text : ℕ → Rule → List ℕ
no_text bit rule = codes "no: bit " ++ (decimal bit ++ (codes ": " ++ (label_of rule ++ (codes " (clause " ++ (clause_of rule ++ codes ")")))))

-- outside: bit N: FEATURE
abbrev pub outside_text : ℕ → Feature → List ℕ
outside_text bit feature = codes "outside: bit " ++ (decimal bit ++ (codes ": " ++ text_of feature))

-- the last line
abbrev pub verdict_text : Mode → Result Summary Stop → List ℕ
verdict_text mode (Ok summary) = yes_text mode summary
verdict_text mode (Err (No bit rule)) = no_text bit rule
verdict_text mode (Err (Outside bit feature)) = outside_text bit feature
verdict_text mode (Err Memory) = codes "memory"
verdict_text mode (Err Read) = codes "read failed"
verdict_text mode (Err Write) = codes "write failed"
