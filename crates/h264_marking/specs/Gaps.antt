-- To be read beside the standard. Gaps in frame_num (7.4.3, 8.2.5.2): the numbers that are missing before a picture, and what is held once each has its
-- frame.
use Rattle.std.specs.Prelude.{ℕ, zero, suc, ◌+◌, ◌-◌, ◌%◌, ◌&&◌, ◌||◌, ◌==◌, not, Bool, Option, Some, unwrap_or, List, [], ◌∷◌, if◌then◌else◌}
use Rattle.std.specs.List.{list_any}
use Rattle.std.specs.Option.{option_and_then}
use Rattle.h264_marking.specs.declared.frame.Numbering.{Numbering}
use Rattle.h264_marking.specs.Frames.{References, has_frame_num}
use Rattle.h264_marking.specs.Window.{filled}

-- so many numbers from this one on, modulo MaxFrameNum
abbrev pub numbers_from : ℕ → ℕ → ℕ → List ℕ
numbers_from zero number max_frame_num = []
numbers_from (suc n) number max_frame_num = number ∷ numbers_from n ((number + 1) % max_frame_num) max_frame_num

-- how many numbers lie between PrevRefFrameNum and frame_num, modulo MaxFrameNum; none where they are the same
abbrev pub gap_before : Bool → ℕ → Numbering → ℕ
gap_before idr prev n = if idr || n.frame_num == prev then 0 else (n.frame_num + n.max_frame_num - (prev + 1)) % n.max_frame_num

-- The values of UnusedShortTermFrameNum before a picture: the numbers after PrevRefFrameNum that are missing (7.4.3).
abbrev pub unused_short_term_frame_nums : Bool → ℕ → Numbering → List ℕ
unused_short_term_frame_nums idr prev n = numbers_from (gap_before idr prev n) ((prev + 1) % n.max_frame_num) n.max_frame_num

abbrev pub last_or : ℕ → List ℕ → ℕ
last_or prev [] = prev
last_or prev (n ∷ ns) = last_or n ns

-- the frames of these missing numbers, one after another
abbrev pub all_filled : Numbering → List ℕ → References → Option References
all_filled n [] refs = Some refs
all_filled n (number ∷ numbers) refs = option_and_then (all_filled n numbers) (filled (record n { frame_num = number }) refs)

-- what is held once the gap before a picture is filled
abbrev pub entered : Bool → ℕ → Numbering → References → References
entered idr prev n refs = unwrap_or (all_filled n (unused_short_term_frame_nums idr prev n) refs) refs

-- a reference picture has neither PrevRefFrameNum nor the frame_num of a held short-term frame
abbrev pub is_new_num : ℕ → ℕ → References → Bool
is_new_num prev frame_num refs = not (frame_num == prev) && not (list_any (has_frame_num frame_num) refs.frames)
