-- Numbers and picture order counts of the pictures of a stream (7.4.3, 8.2.1, E.2.1). To be read beside the standard.
use Rattle.std.specs.Prelude.{ℕ, ◌-◌, ◌==◌, ◌&&◌, ◌||◌, Bool, false, not, if◌then◌else◌, Option, None, Some, ℤ, pos, int_lt, int_le}
use Rattle.h264_strict.specs.StrictRules.{broken_if}
use Rattle.h264_strict.specs.declared.strict_rule.StrictRule.{StrictRule}
use Rattle.h264_strict.specs.declared.strict_rule.StrictRule.TheVariants as rules
use Rattle.h264_strict.specs.declared.strict_pictures.NewPicture.{NewPicture}
use Rattle.h264_strict.specs.declared.strict_pictures.Pictures.{Pictures}

abbrev pub no_pictures : Pictures
no_pictures = record { prev_ref_frame_num = None; greatest_count = None }

abbrev pub is_previous : Option ℕ → ℕ → Bool
is_previous None frame_num = false
is_previous (Some previous) frame_num = previous == frame_num

-- PrevRefFrameNum of the picture after this one (7.4.3). A reference picture leaves its frame_num, or 0 after operation 5. Another picture leaves the number
-- before its own: either PrevRefFrameNum was that, or a gap was filled up to it. Of frame_num 0 that is MaxFrameNum - 1, which is not kept here.
abbrev pub number_after : Option ℕ → NewPicture → Option ℕ
number_after previous p =
    if p.is_reference then Some (if p.resets then 0 else p.frame_num)
    else (if is_previous previous p.frame_num then previous else (if p.frame_num == 0 then None else Some (p.frame_num - 1)))

-- The greatest picture order count of the coded video sequence. An IDR picture begins one, and operation 5 makes the count of its picture 0 (8.2.1).
abbrev pub greatest : Option ℤ → ℤ → ℤ
greatest None count = count
greatest (Some most) count = if int_lt most count then count else most

abbrev pub count_after : Option ℤ → NewPicture → Option ℤ
count_after most p = if p.resets then Some (pos 0) else Some (if p.is_idr then p.count else greatest most p.count)

abbrev pub pictures_after : Pictures → NewPicture → Pictures
pictures_after s p = record { prev_ref_frame_num = number_after s.prev_ref_frame_num p; greatest_count = count_after s.greatest_count p }

-- a picture that has PrevRefFrameNum again, and is no IDR picture (7.4.3)
abbrev pub repeats_number : Pictures → NewPicture → Bool
repeats_number s p = not p.is_idr && is_previous s.prev_ref_frame_num p.frame_num

-- A picture comes after one with its count in decoding order (8.2.1), or with a greater one though max_num_reorder_frames is 0 (E.2.1).
abbrev pub by_greatest : ℤ → (is_in_order : Bool) → ℤ → Option StrictRule
by_greatest most is_in_order count =
    if int_lt count most then broken_if is_in_order rules.Reorder else broken_if (int_le count most) rules.CountRepeated

abbrev pub by_most : Option ℤ → (is_in_order : Bool) → ℤ → Option StrictRule
by_most None is_in_order count = None
by_most (Some most) is_in_order count = by_greatest most is_in_order count

-- in a sequence, of which the picture is not the first
abbrev pub by_count : Pictures → (is_in_order : Bool) → NewPicture → Option StrictRule
by_count s is_in_order p = if p.is_idr || p.resets then None else by_most s.greatest_count is_in_order p.count
