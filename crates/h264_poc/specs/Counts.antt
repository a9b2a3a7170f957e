-- Picture order counts (8.2.1), as functions of the pictures before in decoding order, the newest first. To be read beside the standard.
use Rattle.std.specs.Prelude.{◌≡◌, ℕ, ◌+◌, ◌*◌, ◌^◌, ◌<◌, nat_lt, ◌&&◌, ◌||◌, not, Bool, true, false, Option, None, List, [], ◌∷◌, ℤ, pos, neg_ℤ, ◌-ℤ◌, ◌≤ℤ◌}
use Rattle.std.specs.Prelude.{if◌then◌else◌}
use Rattle.h264_poc.specs.declared.picture.Picture.{Picture}
use Rattle.h264_poc.specs.declared.picture.Order.{Order}
use Rattle.h264_poc.specs.declared.picture.Order.TheVariants as order
use Rattle.h264_poc.specs.declared.picture.Count.{Count}
use Rattle.h264_poc.specs.declared.lsb.Prev.{Prev}
use Rattle.h264_poc.specs.declared.within.FieldCounts.{FieldCounts}
use Rattle.h264_poc.specs.declared.step.History.{History}
use Rattle.h264_poc.specs.Lsb.{no_prev, msb_of, lsb_counts, prev_after}
use Rattle.h264_poc.specs.Cycle.{cycle_counts}
use Rattle.h264_poc.specs.Within.{count_within}

-- an IDR picture starts anew
abbrev pub start_of : Bool → Prev → Prev
start_of idr prev = if idr then no_prev else prev

-- what a reference picture leaves, by its type
abbrev pub prev_by : Order → Bool → Prev → Prev
prev_by (order.Lsb max lsb delta_bottom) resets start = prev_after resets (msb_of start lsb max) lsb delta_bottom
prev_by (order.Cycle non_ref top_to_bottom cycle delta_top delta_bottom) resets start = no_prev
prev_by order.DecodingOrder resets start = no_prev

-- prevPicOrderCntMsb and prevPicOrderCntLsb: those of the last reference picture
unfoldable pub prev_of : List Picture → Prev
prev_of [] = no_prev
prev_of (p ∷ before) = if p.reference then prev_by p.order p.resets (start_of p.idr (prev_of before)) else prev_of before

-- prevFrameNum: frame_num of the picture before, 0 after operation 5
unfoldable pub prev_frame_num : List Picture → ℕ
prev_frame_num [] = 0
prev_frame_num (p ∷ before) = if p.resets then 0 else p.frame_num

abbrev pub has_frame_num_offset : Order → Bool
has_frame_num_offset (order.Lsb max lsb delta_bottom) = false
has_frame_num_offset (order.Cycle non_ref top_to_bottom cycle delta_top delta_bottom) = true
has_frame_num_offset order.DecodingOrder = true

-- FrameNumOffset of types 1 and 2, from prevFrameNum and prevFrameNumOffset; type 0 has none, and it is 0 there
abbrev pub frame_num_offset : Picture → ℕ → ℕ → ℕ
frame_num_offset p prev_num prev_offset =
    if p.idr || not (has_frame_num_offset p.order) then 0
    else (if nat_lt p.frame_num prev_num then prev_offset + p.max_frame_num
    else prev_offset)

-- prevFrameNumOffset: FrameNumOffset of the picture before, 0 after operation 5
unfoldable pub prev_frame_num_offset : List Picture → ℕ
prev_frame_num_offset [] = 0
prev_frame_num_offset (p ∷ before) = if p.resets then 0 else frame_num_offset p (prev_frame_num before) (prev_frame_num_offset before)

-- the picture before is a non-reference picture
unfoldable pub follows_non_reference : List Picture → Bool
follows_non_reference [] = false
follows_non_reference (p ∷ before) = not p.reference

-- type 2 (8.2.1.3): tempPicOrderCnt
abbrev pub decoding_order_count : Bool → Bool → ℕ → ℤ
decoding_order_count idr reference number =
    if idr then pos 0
    else (if reference then pos (2 * number)
    else pos (2 * number) -ℤ pos 1)

abbrev pub order_counts : Bool → Bool → ℕ → FieldCounts
order_counts idr reference number = record { top = decoding_order_count idr reference number; bottom = decoding_order_count idr reference number }

-- TopFieldOrderCnt and BottomFieldOrderCnt, from prevPicOrderCntMsb, prevPicOrderCntLsb and FrameNumOffset
abbrev pub field_counts_by : Order → Picture → Prev → ℕ → FieldCounts
field_counts_by (order.Lsb max lsb delta_bottom) p start offset = lsb_counts (msb_of start lsb max) lsb delta_bottom
field_counts_by (order.Cycle non_ref top_to_bottom cycle delta_top delta_bottom) p start offset =
    cycle_counts cycle p.reference (offset + p.frame_num) (record {
      offset_for_non_ref_pic = non_ref;
      offset_for_top_to_bottom_field = top_to_bottom;
      top = delta_top;
      bottom = delta_bottom;
    })
field_counts_by order.DecodingOrder p start offset =
    order_counts p.idr p.reference (offset + p.frame_num)

abbrev pub field_counts : Picture → Prev → ℕ → FieldCounts
field_counts p start offset = field_counts_by p.order p start offset

-- two non-reference pictures of type 2 do not follow each other
abbrev pub may_follow : Order → Bool → Bool → Bool
may_follow (order.Lsb max lsb delta_bottom) reference after_non_reference = true
may_follow (order.Cycle non_ref top_to_bottom cycle delta_top delta_bottom) reference after_non_reference = true
may_follow order.DecodingOrder reference after_non_reference = reference || not after_non_reference

-- FrameNumOffset stays below 2^62
abbrev pub count_with : Picture → Prev → ℕ → Bool → Option Count
count_with p prev offset after_non_reference =
    if nat_lt offset (2 ^ 62) && may_follow p.order p.reference after_non_reference then count_within (field_counts p (start_of p.idr prev) offset)
    else None

-- The counts of a picture that follows these, if it may follow them and the counts are in range.
unfoldable pub count_of : List Picture → Picture → Option Count
count_of before p = count_with p (prev_of before) (frame_num_offset p (prev_frame_num before) (prev_frame_num_offset before)) (follows_non_reference before)

-- What is kept is that of these pictures.
pub record Keeps (pictures : List Picture) (kept : History) : Type 0 where
  pub prev : kept.prev ≡ prev_of pictures
  pub frame_num : kept.frame_num ≡ prev_frame_num pictures
  pub frame_num_offset : kept.frame_num_offset ≡ prev_frame_num_offset pictures
  pub non_reference : kept.non_reference ≡ follows_non_reference pictures

-- numbers that leave room to count on
pub record IsSmallPrev (prev : Prev) : Type 0 where
  pub low : neg_ℤ (pos (2 ^ 40)) ≤ℤ prev.msb
  pub high : prev.msb ≤ℤ pos (2 ^ 40)

pub record IsSmall (kept : History) : Type 0 where
  pub prev : IsSmallPrev kept.prev
  pub offset : kept.frame_num_offset < 2 ^ 62

-- FrameNumOffset of a picture, from what is kept
abbrev pub offset_of : History → Picture → ℕ
offset_of kept p = frame_num_offset p kept.frame_num kept.frame_num_offset

-- what is kept once a picture is counted that leaves these as a reference
abbrev pub history_after : History → Picture → Prev → ℕ → History
history_after kept p left offset = record {
  prev = if p.reference then left else kept.prev;
  frame_num = if p.resets then 0 else p.frame_num;
  frame_num_offset = if p.resets then 0 else offset;
  non_reference = not p.reference;
}
