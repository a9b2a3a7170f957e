-- What the buffer is told of a picture, by the header of its first slice (7.4.3.3, 8.2.1). To be read beside the standard.
use Rattle.std.specs.Prelude.{ℕ, ℤ, pos, Bool, false, Option, Some, None, if◌then◌else◌}
use Rattle.h264_bits.specs.declared.element.Found.{Found}
use Rattle.h264_sps.specs.declared.sps.Sps.{Sps}
use Rattle.h264_header.specs.declared.header.Header.{Header}
use Rattle.h264_header.specs.declared.header.Marking.{Marking}
use Rattle.h264_header.specs.declared.header.Marking.TheVariants as marking
use Rattle.h264_header.specs.Picture.{is_idr, is_reference}
use Rattle.h264_marking.specs.Ended.{resets}
use Rattle.h264_dpb.specs.declared.ended.Ended.{Ended}
use Rattle.h264_dpb.specs.Rectangles.{rectangle_of}

-- no_output_of_prior_pics_flag, where it is there
abbrev pub drops_by : Marking → Bool
drops_by (marking.Idr no_output long_term) = no_output
drops_by marking.SlidingWindow = false
drops_by (marking.Adaptive operations) = false

abbrev pub drops : Option (Found Marking) → Bool
drops None = false
drops (Some found) = drops_by found.value

-- operation 5 takes the count of a frame from itself (8.2.1)
abbrev pub count_after : Bool → ℤ → ℤ
count_after resets count = if resets then pos 0 else count

-- a picture with its number in decoding order, the lesser of its fields' counts, and the size of its sequence's buffer
unfoldable pub ended_of : Sps → Header → ℕ → ℤ → ℕ → Ended
ended_of sps h picture count size = record {
  idr = is_idr h;
  drops = drops h.marking;
  resets = resets h.marking;
  reference = is_reference h;
  picture = picture;
  count = count_after (resets h.marking) count;
  rectangle = rectangle_of sps;
  size = size;
}
