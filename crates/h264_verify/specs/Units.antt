-- The course of a unit after those before it, and the rules of the end of the input (7.3.1, 7.4). To be read beside the standard.
use Rattle.std.specs.Prelude.{ℕ, Bool, true, false, List, [], ◌∷◌, length, ◌==◌, if◌then◌else◌}
use Rattle.h264_verify.specs.declared.state.Depth.{Depth}
use Rattle.h264_verify.specs.declared.state.Depth.TheVariants as depths
use Rattle.h264_base.specs.declared.mode.Mode.{Mode}
use Rattle.h264_base.specs.declared.mode.Target.{Target}
use Rattle.h264_base.specs.declared.rule.Rule.TheVariants.{NoPicture}
use Rattle.h264_base.specs.Call.{Call, OfUnit}
use Rattle.h264_base.specs.Grammar.{Grammar, ◌>>=◌, Done}
use Rattle.h264_units.specs.Stream.{NalUnit}
use Rattle.h264_header.specs.declared.header.SliceUnit.{SliceUnit}
use Rattle.h264_header.specs.Layout.{sets_of}
use Rattle.h264_header.specs.Header.{header}
use Rattle.h264_base.specs.declared.summary.Summary.{Summary}
use Rattle.h264_verify.specs.declared.state.Extent.{Extent}
use Rattle.h264_verify.specs.declared.state.Terms.{Terms}
use Rattle.h264_verify.specs.Content.{Content}
use Rattle.h264_verify.specs.Content as contents
use Rattle.h264_verify.specs.Demands.{Demand}
use Rattle.h264_units.specs.UnitHeader.{header_of, nal_unit_type, nal_ref_idc, is_slice}
use Rattle.h264_verify.specs.History.{History, maps_of}
use Rattle.h264_verify.specs.Modes.{depth_of, purpose_for}
use Rattle.h264_verify.specs.Pictures.{CodedPicture, runs_of}
use Rattle.h264_verify.specs.Buffering.{frames_written}

-- what the sink is told of a unit: the byte where it begins, its type, nal_ref_idc, and its length in bytes
abbrev pub unit_call : ℕ → ℕ → ℕ → Call
unit_call from header length = OfUnit from (nal_unit_type header) (nal_ref_idc header) length

-- what a unit's first byte says of the slice in it
abbrev pub slice_unit_of : ℕ → SliceUnit
slice_unit_of header = record { idr_pic_flag = nal_unit_type header == 5; nal_ref_idc = nal_ref_idc header }

abbrev pub slice_unit : NalUnit → SliceUnit
slice_unit unit = slice_unit_of (header_of unit)

-- the header of a slice, by the sets so far
abbrev pub header_content : History → NalUnit → Grammar Content
header_content before unit = header (sets_of (maps_of before)) (slice_unit unit) >>= (λ h. Done (contents.OfSlice h []))

-- it stands in a slice's unit; what is in another one is passed over
abbrev pub header_or_passed : ℕ → History → NalUnit → Grammar Content
header_or_passed kind before unit = if is_slice kind then header_content before unit else Done contents.Passed

-- the syntax structure in a unit that is no parameter set
abbrev pub other_content : Depth → ℕ → History → NalUnit → Grammar Content
other_content depths.Units kind before unit = Done contents.Passed
other_content depths.Headers kind before unit = header_or_passed kind before unit
other_content depths.Full kind before unit = header_or_passed kind before unit

-- Judged so far, and for such a decoder.
abbrev pub extent_at : Depth → Target → Extent
extent_at depth target = record { depth = depth; target = target }

-- How far a stream is judged in a mode, and for which decoder.
abbrev pub extent_of : Mode → Target → Extent
extent_of mode target = extent_at (depth_of mode) target

-- What a stream is judged by.
abbrev pub terms_of : Mode → Target → Terms
terms_of mode target = record { depth = depth_of mode; purpose = purpose_for mode; target = target }

-- how far it is judged by these terms
abbrev pub extent_by : Terms → Extent
extent_by terms = extent_at terms.depth terms.target

-- a stream whose slices are read has a picture
abbrev pub has_pictures : Depth → List CodedPicture → Bool
has_pictures depths.Units pictures = true
has_pictures depths.Headers [] = false
has_pictures depths.Headers (p ∷ pictures) = true
has_pictures depths.Full [] = false
has_pictures depths.Full (p ∷ pictures) = true

abbrev pub picture_demand : Depth → History → ℕ → Demand
picture_demand depth before bit = record { rule = NoPicture; bit = bit; met = has_pictures depth (runs_of before) }

abbrev pub summary_of : Depth → History → Summary
summary_of depth before = record { units = length before; pictures = length (runs_of before); frames = frames_written depth (runs_of before) }
