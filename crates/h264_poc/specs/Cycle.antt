-- pic_order_cnt_type 1 (8.2.1.2). To be read beside the standard.
use Rattle.std.specs.Prelude.{ℕ, ◌+◌, ◌-◌, ◌/◌, ◌%◌, ◌==◌, ◌^◌, ◌⊎◌, neg_ℤ, ◌≤ℤ◌, Bool, List, [], ◌∷◌, length, take, ℤ, pos, ◌+ℤ◌, ◌*ℤ◌, if◌then◌else◌}
use Rattle.h264_poc.specs.declared.cycle.Deltas.{Deltas}
use Rattle.h264_poc.specs.declared.within.FieldCounts.{FieldCounts}

abbrev pub sum_of : List ℤ → ℤ
sum_of [] = pos 0
sum_of (x ∷ xs) = x +ℤ sum_of xs

-- absFrameNum, from FrameNumOffset + frame_num
abbrev pub abs_frame_num : List ℤ → Bool → ℕ → ℕ
abs_frame_num offsets reference number =
    let counted : ℕ = if length offsets == 0 then 0 else number in
    if reference then counted else counted - 1

-- expectedPicOrderCnt, before offset_for_non_ref_pic: the whole cycles, and the offsets of the one that has begun
abbrev pub expected : List ℤ → ℕ → ℤ
expected offsets abs =
    if abs == 0 then pos 0
    else (pos ((abs - 1) / length offsets) *ℤ sum_of offsets) +ℤ sum_of (take ((abs - 1) % length offsets + 1) offsets)

-- the same with offset_for_non_ref_pic: expectedPicOrderCnt
abbrev pub with_non_ref : ℤ → Bool → ℤ → ℤ
with_non_ref base reference offset_for_non_ref_pic = if reference then base else base +ℤ offset_for_non_ref_pic

abbrev pub counts_from : ℤ → ℤ → ℤ → ℤ → FieldCounts
counts_from expected top_to_bottom delta_top delta_bottom =
    record { top = expected +ℤ delta_top; bottom = ((expected +ℤ delta_top) +ℤ top_to_bottom) +ℤ delta_bottom }

abbrev pub cycle_counts : List ℤ → Bool → ℕ → Deltas → FieldCounts
cycle_counts offsets reference number deltas =
    counts_from (with_non_ref (expected offsets (abs_frame_num offsets reference number)) reference deltas.offset_for_non_ref_pic)
    deltas.offset_for_top_to_bottom_field deltas.top deltas.bottom

-- no count comes near such a number
abbrev pub IsFar : ℤ → Type 0
IsFar z = (z ≤ℤ neg_ℤ (pos (2 ^ 40))) ⊎ (pos (2 ^ 40) ≤ℤ z)
