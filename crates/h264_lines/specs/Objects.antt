-- The objects of JSON, without a line end, and what a line or an object begins with. `head` opens an object and has its first fields. To be read beside
-- docs/OUTPUT.md.
use Rattle.std.specs.Prelude.{ℕ, ℤ, List, ◌++◌, codes, []}
use Rattle.std.specs.Fmt.{decimal, signed_decimal}
use Rattle.hex.specs.Hex.{encode_lower}
use Rattle.md5.specs.Md5.{md5}
use Rattle.h264_base.specs.ElementName as names
use Rattle.h264_base.specs.declared.element_name.ElementName.{ElementName}
use Rattle.h264_base.specs.declared.mode.SliceType.{SliceType}
use Rattle.h264_lines.specs.Lines.{unit_text, slice_text, element_text, frame_text, type_text}
use Rattle.h264_lines.specs.declared.form.Form.{Form}
use Rattle.h264_lines.specs.declared.form.Form.TheVariants.{Lines, Objects}

-- HEAD,"kind":"unit","byte":BYTE,"nal_unit_type":T,"nal_ref_idc":R,"bytes":L}
abbrev pub unit_object : List ℕ → ℕ → ℕ → ℕ → ℕ → List ℕ
unit_object head byte kind reference length =
    head ++ (codes ",\"kind\":\"unit\",\"byte\":" ++ (decimal byte ++ (codes ",\"nal_unit_type\":" ++ (decimal kind
    ++ (codes ",\"nal_ref_idc\":" ++ (decimal reference ++ (codes ",\"bytes\":" ++ (decimal length ++ codes "}"))))))))

-- HEAD,"kind":"slice","byte":BYTE,"first_mb_in_slice":F,"slice_type":"P"|"I","frame_num":N,"count":C}
abbrev pub slice_object : List ℕ → ℕ → ℕ → SliceType → ℕ → ℤ → List ℕ
slice_object head byte mb kind frame_num count =
    head ++ (codes ",\"kind\":\"slice\",\"byte\":" ++ (decimal byte ++ (codes ",\"first_mb_in_slice\":" ++ (decimal mb
    ++ (codes ",\"slice_type\":\"" ++ (type_text kind ++ (codes "\",\"frame_num\":" ++ (decimal frame_num
    ++ (codes ",\"count\":" ++ (signed_decimal count ++ codes "}"))))))))))

-- HEAD,"kind":"element","name":"NAME","bit":N,"value":V}
abbrev pub element_object : List ℕ → ElementName → ℕ → ℤ → List ℕ
element_object head name bit value =
    head ++ (codes ",\"kind\":\"element\",\"name\":\"" ++ (names.text_of name ++ (codes "\",\"bit\":" ++ (decimal bit
    ++ (codes ",\"value\":" ++ (signed_decimal value ++ codes "}"))))))

-- HEAD,"kind":"frame","index":I,"count":C,"width":W,"height":H,"md5":"HEX"}, with the digest of these bytes
abbrev pub frame_object : List ℕ → ℕ → ℤ → ℕ → ℕ → List ℕ → List ℕ
frame_object head index count width height bytes =
    head ++ (codes ",\"kind\":\"frame\",\"index\":" ++ (decimal index ++ (codes ",\"count\":" ++ (signed_decimal count
    ++ (codes ",\"width\":" ++ (decimal width ++ (codes ",\"height\":" ++ (decimal height ++ (codes ",\"md5\":\""
    ++ (encode_lower (md5 bytes) ++ codes "\"}"))))))))))

-- ---- in either form

-- what each line or object begins with
pub data Opening : Type 0 where
  -- a line of text begins with this
  OfLine : List ℕ → Opening
  -- an object begins with this, which opens it and has its first fields
  OfObject : List ℕ → Opening

-- lines with nothing before them
abbrev pub bare : Opening
bare = OfLine []

abbrev pub opening_of : Form → Opening
opening_of (Lines prefix) = OfLine prefix.now
opening_of (Objects head) = OfObject head.now

abbrev pub unit_in : Opening → ℕ → ℕ → ℕ → ℕ → List ℕ
unit_in (OfLine prefix) byte kind reference length = prefix ++ unit_text byte kind reference length
unit_in (OfObject head) byte kind reference length = unit_object head byte kind reference length

abbrev pub slice_in : Opening → ℕ → ℕ → SliceType → ℕ → ℤ → List ℕ
slice_in (OfLine prefix) byte mb kind frame_num count = prefix ++ slice_text byte mb kind frame_num count
slice_in (OfObject head) byte mb kind frame_num count = slice_object head byte mb kind frame_num count

abbrev pub element_in : Opening → ElementName → ℕ → ℤ → List ℕ
element_in (OfLine prefix) name bit value = prefix ++ element_text name bit value
element_in (OfObject head) name bit value = element_object head name bit value

abbrev pub frame_in : Opening → ℕ → ℤ → ℕ → ℕ → List ℕ → List ℕ
frame_in (OfLine prefix) index count width height bytes = prefix ++ frame_text index count width height bytes
frame_in (OfObject head) index count width height bytes = frame_object head index count width height bytes
