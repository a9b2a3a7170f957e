-- The pictures so far, and the reference frames that they leave (7.4.1.2.4, 7.4.3, 8.2.5). To be read beside the standard.
use Rattle.std.specs.Prelude.{ℕ, ◌*◌, ◌&&◌, not, Bool, true, false, Option, Some, None, Result, Ok, Err, List, [], ◌∷◌, map, length, if◌then◌else◌}
use Rattle.std.specs.Option.{option_map}
use Rattle.std.specs.Result.{result_unwrap_or}
use Rattle.h264_base.specs.declared.rule.Rule.TheVariants.{MarkCommand}
use Rattle.h264_sps.specs.declared.sps.Sps.{Sps}
use Rattle.h264_pps.specs.declared.Pps.{Pps}
use Rattle.h264_header.specs.declared.header.Header.{Header}
use Rattle.h264_header.specs.Layout.{sets_of}
use Rattle.h264_header.specs.Picture.{begins_picture, picture_elements, is_idr, is_reference}
use Rattle.h264_poc.specs.declared.picture.Picture.{Picture}
use Rattle.h264_poc.specs.OfSlice.{picture_of}
use Rattle.h264_marking.specs.declared.frame.Numbering.{Numbering}
use Rattle.h264_marking.specs.Frames.{References}
use Rattle.h264_marking.specs.Gaps.{last_or, unused_short_term_frame_nums, entered}
use Rattle.h264_marking.specs.Held.{no_references}
use Rattle.h264_marking.specs.Ended.{numbering_of, resets, ended}
use Rattle.h264_units.specs.Stream.{NalUnit, past}
use Rattle.h264_units.specs.UnitHeader.{ends_picture}
use Rattle.h264_sets.specs.Sets.{Maps}
use Rattle.h264_near.specs.Coded.{CodedMacroblock}
use Rattle.h264_verify.specs.Content.{Content}
use Rattle.h264_verify.specs.Content as contents
use Rattle.h264_verify.specs.Demands.{Demand}
use Rattle.h264_units.specs.UnitHeader.{header_of, nal_unit_type}
use Rattle.h264_verify.specs.History.{History, maps_of}

-- A slice: the unit in which it stands, its header, the macroblocks of its picture up to its end, and the parameter sets that it
-- names.
pub record CodedSlice : Type 0 where
  pub unit : NalUnit
  pub header : Header
  pub macroblocks : List CodedMacroblock
  pub pps : Pps
  pub sps : Sps

-- A picture: its first slice, and the others, the last one first.
pub record CodedPicture : Type 0 where
  pub first : CodedSlice
  pub later : List CodedSlice

-- the last of these slices, the last one first
abbrev pub last_in : CodedSlice → List CodedSlice → CodedSlice
last_in first [] = first
last_in first (slice ∷ later) = slice

abbrev pub last_slice : CodedPicture → CodedSlice
last_slice p = last_in p.first p.later

-- the macroblocks of the newest of these pictures
abbrev pub coded_of : List CodedPicture → List CodedMacroblock
coded_of [] = []
coded_of (p ∷ pictures) = (last_slice p).macroblocks

-- how many macroblocks a picture has (7.4.2.1.1)
abbrev pub picture_size : Sps → ℕ
picture_size sps = sps.frame_size.width * sps.frame_size.height

-- the first stream bit after a unit
abbrev pub bit_after : NalUnit → ℕ
bit_after unit = 8 * past unit

-- the parameter sets that a slice names
abbrev pub sets_at : History → Header → Option (Pps × Sps)
sets_at before h = sets_of (maps_of before) h.pic_parameter_set_id.value

abbrev pub with_sets : NalUnit → Header → List CodedMacroblock → Pps × Sps → CodedSlice
with_sets unit h macroblocks sets = record { unit = unit; header = h; macroblocks = macroblocks; pps = sets.0; sps = sets.1 }

-- the slice that stands in a unit, if it is one
abbrev pub slice_in : Maps → NalUnit → Content → Option CodedSlice
slice_in maps unit (contents.OfSps set) = None
slice_in maps unit (contents.OfPps set) = None
slice_in maps unit (contents.OfSlice h macroblocks) = option_map (with_sets unit h macroblocks) (sets_of maps h.pic_parameter_set_id.value)
slice_in maps unit contents.Passed = None

-- whether more slices may come to the newest picture after this unit
abbrev pub goes_on_after : Content → ℕ → Bool → Bool
goes_on_after (contents.OfSps set) kind on = not (ends_picture kind) && on
goes_on_after (contents.OfPps set) kind on = not (ends_picture kind) && on
goes_on_after (contents.OfSlice h macroblocks) kind on = true
goes_on_after contents.Passed kind on = not (ends_picture kind) && on

-- There is a slice after which no unit ended its picture.
abbrev pub goes_on : History → Bool
goes_on [] = false
goes_on (r ∷ before) = goes_on_after r.content (nal_unit_type (header_of r.unit)) (goes_on before)

-- the newest of these pictures, if more slices may come to it
abbrev pub open_of : Bool → List CodedPicture → Option CodedPicture
open_of on [] = None
open_of on (p ∷ pictures) = if on then Some p else None

-- The slice of this header is the first of a picture, where this one may go on (7.4.1.2.4).
abbrev pub begins_after : Option CodedPicture → Header → Bool
begins_after None h = true
begins_after (Some p) h = begins_picture (picture_elements (last_slice p).header) (picture_elements h)

-- a slice begins a picture, or belongs to the newest
abbrev pub joined_to : Bool → CodedSlice → List CodedPicture → List CodedPicture
joined_to true slice pictures = record { first = slice; later = [] } ∷ pictures
joined_to false slice [] = []
joined_to false slice (p ∷ pictures) = record p { later = slice ∷ p.later } ∷ pictures

abbrev pub joined_by : Option CodedSlice → Bool → List CodedPicture → List CodedPicture
joined_by None on pictures = pictures
joined_by (Some slice) on pictures = joined_to (begins_after (open_of on pictures) slice.header) slice pictures

-- The slices of these units, cut into pictures; the newest stands first (7.4.1.2.4).
abbrev pub runs_of : History → List CodedPicture
runs_of [] = []
runs_of (r ∷ before) = joined_by (slice_in (maps_of before) r.unit r.content) (goes_on before) (runs_of before)

-- whether a slice begins a picture after these units
abbrev pub begins_at : History → Header → Bool
begins_at before h = begins_after (open_of (goes_on before) (runs_of before)) h

abbrev pub counted : CodedPicture → Picture
counted p = picture_of p.first.sps p.first.header

abbrev pub pictures_of : History → List Picture
pictures_of before = map counted (runs_of before)

-- PrevRefFrameNum after a picture: its frame_num, or 0 after operation 5, where it is a reference; else that of the last missing
-- frame, where there was one.
abbrev pub prev_ref_frame_num_after : Bool → Bool → Bool → Numbering → ℕ → ℕ
prev_ref_frame_num_after idr reference resets n prev =
    if reference then (if resets then 0 else n.frame_num)
    else last_or prev (unused_short_term_frame_nums idr prev n)

abbrev pub prev_ref_frame_num_by : CodedPicture → ℕ → ℕ
prev_ref_frame_num_by p prev = prev_ref_frame_num_after (is_idr p.first.header) (is_reference p.first.header)
    (resets p.first.header.marking) (numbering_of p.first.sps p.first.header) prev

abbrev pub prev_ref_frame_num_of : List CodedPicture → ℕ
prev_ref_frame_num_of [] = 0
prev_ref_frame_num_of (p ∷ ps) = prev_ref_frame_num_by p (prev_ref_frame_num_of ps)

abbrev pub entered_by : CodedPicture → ℕ → References → References
entered_by p prev refs = entered (is_idr p.first.header) prev (numbering_of p.first.sps p.first.header) refs

abbrev pub ended_by : CodedPicture → ℕ → References → Result References ℕ
ended_by p number refs = ended p.first.header.marking (numbering_of p.first.sps p.first.header) number refs

-- what is held once it has ended
abbrev pub held_at_end : CodedPicture → ℕ → References → References
held_at_end p number refs = result_unwrap_or (ended_by p number refs) refs

-- What is held once all these pictures have ended; the newest stands first, and the pictures are numbered in decoding order.
abbrev pub held_after : List CodedPicture → References
held_after [] = no_references
held_after (p ∷ ps) = held_at_end p (length ps) (entered_by p (prev_ref_frame_num_of ps) (held_after ps))

-- What is held while the newest is decoded.
abbrev pub held_in : List CodedPicture → References
held_in [] = no_references
held_in (p ∷ ps) = entered_by p (prev_ref_frame_num_of ps) (held_after ps)

-- the bit of what cannot be met, if there is such a thing
abbrev pub bit_of : {A : Type 0} → Result A ℕ → ℕ
bit_of (Ok x) = 0
bit_of (Err bit) = bit

abbrev pub is_met : {A : Type 0} → Result A ℕ → Bool
is_met (Ok x) = true
is_met (Err bit) = false

abbrev pub mark_demand : Result References ℕ → Demand
mark_demand r = record { rule = MarkCommand; bit = bit_of r; met = is_met r }

-- The marking of the newest picture can be met.
abbrev pub end_of_picture : List CodedPicture → List Demand
end_of_picture [] = []
end_of_picture (p ∷ ps) = mark_demand (ended_by p (length ps) (held_in (p ∷ ps))) ∷ []

-- the pictures that have ended, where more slices may come to the newest, or it has ended
abbrev pub ended_pictures : Bool → Bool → List CodedPicture → List CodedPicture
ended_pictures on ended [] = []
ended_pictures true true (p ∷ ps) = p ∷ ps
ended_pictures true false (p ∷ ps) = ps
ended_pictures false ended (p ∷ ps) = p ∷ ps
