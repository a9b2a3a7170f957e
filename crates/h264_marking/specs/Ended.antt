-- The end of a picture, by the header of its first slice (8.2.5). To be read beside the standard.
use Rattle.std.specs.Prelude.{ℕ, ◌^◌, ◌==◌, Bool, false, Option, Some, None, Result, Ok}
use Rattle.std.specs.List.{list_any}
use Rattle.h264_bits.specs.declared.element.Found.{Found}
use Rattle.h264_sps.specs.declared.sps.Sps.{Sps}
use Rattle.h264_header.specs.declared.header.Header.{Header}
use Rattle.h264_header.specs.declared.header.Marking.{Marking}
use Rattle.h264_header.specs.declared.header.Marking.TheVariants as marking
use Rattle.h264_header.specs.Marking.{number_of}
use Rattle.h264_marking.specs.declared.frame.Numbering.{Numbering}
use Rattle.h264_marking.specs.Frames.{References}
use Rattle.h264_marking.specs.Held.{marked}

-- operation 5 is among the marking
abbrev pub resets_by : Marking → Bool
resets_by (marking.Idr no_output long_term) = false
resets_by marking.SlidingWindow = false
resets_by (marking.Adaptive operations) = list_any (λ o. number_of o.operation == 5) operations.items

abbrev pub resets : Option (Found Marking) → Bool
resets None = false
resets (Some found) = resets_by found.value

-- what the numbers of frames go by in a slice
abbrev pub numbering_of : Sps → Header → Numbering
numbering_of sps h = record { frame_num = h.frame_num.value; max_frame_num = 2 ^ sps.log2_max_frame_num; max_num_ref_frames = sps.max_num_ref_frames }

-- the end of a picture, which has this number: what is held then, or the bit of what cannot be met
abbrev pub ended : Option (Found Marking) → Numbering → ℕ → References → Result References ℕ
ended None n number refs = Ok refs
ended (Some found) n number refs = marked n number found.bit found.value refs
