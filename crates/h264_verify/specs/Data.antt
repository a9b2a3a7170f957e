-- Slice data after a slice's header, by what the units so far give (7.3.4). To be read beside the standard.
use Rattle.std.specs.Prelude.{ℕ, Bool, true, false, Option, Some, None, List, [], ◌∷◌}
use Rattle.h264_base.specs.Grammar.{Grammar, Done}
use Rattle.h264_units.specs.Stream.{NalUnit}
use Rattle.h264_sps.specs.declared.sps.Sps.{Sps}
use Rattle.h264_pps.specs.declared.Pps.{Pps}
use Rattle.h264_header.specs.declared.header.Header.{Header}
use Rattle.h264_near.specs.Coded.{CodedMacroblock}
use Rattle.h264_vectors.specs.declared.slice.SliceContext.{SliceContext}
use Rattle.h264_mbsyntax.specs.Slice.{slice_data}
use Rattle.h264_picture.specs.Levels.{transform_fits}
use Rattle.h264_verify.specs.History.{History}
use Rattle.h264_verify.specs.Pictures.{CodedSlice, CodedPicture, coded_of, picture_size, with_sets, sets_at, joined_to, runs_of, begins_at}
use Rattle.h264_verify.specs.Lists.{context_in}

-- the sequence parameter set by which a picture is as large as it is: that of its first slice
abbrev pub picture_set : Bool → CodedSlice → List CodedPicture → Sps
picture_set true s pictures = s.sps
picture_set false s [] = s.sps
picture_set false s (p ∷ pictures) = p.first.sps

-- the macroblocks of its picture before a slice
abbrev pub coded_so_far : Bool → List CodedPicture → List CodedMacroblock
coded_so_far true pictures = []
coded_so_far false pictures = coded_of pictures

-- slice data of a slice of this context, after the macroblocks so far of a picture of this size
unfoldable pub slice_syntax : ℕ → ℕ → SliceContext → List CodedMacroblock → Grammar (List CodedMacroblock)
slice_syntax width size slice picture = slice_data (transform_fits slice) width size slice picture

-- slice data of a slice that begins a picture after these pictures, or belongs to the newest
abbrev pub data_in : Bool → List CodedPicture → CodedSlice → Grammar (List CodedMacroblock)
data_in begins pictures s =
    slice_syntax (picture_set begins s pictures).frame_size.width (picture_size (picture_set begins s pictures))
    (context_in (joined_to begins s pictures) s) (coded_so_far begins pictures)

abbrev pub data_by : Option (Pps × Sps) → History → NalUnit → Header → Grammar (List CodedMacroblock)
data_by None before unit h = Done []
data_by (Some sets) before unit h = data_in (begins_at before h) (runs_of before) (with_sets unit h [] sets)

-- Slice data in this unit after these units, with the sets that its header names; a header that was read has them.
unfoldable pub slice_data_at : History → NalUnit → Header → Grammar (List CodedMacroblock)
slice_data_at before unit h = data_by (sets_at before h) before unit h
