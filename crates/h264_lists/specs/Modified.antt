-- Modification of a reference picture list (8.2.4.3). To be read beside the standard.
use Rattle.std.specs.Prelude.{ℕ, ℤ, pos, neg_ℤ, ◌+◌, ◌*◌, ◌^◌, ◌≤ℤ◌, ◌+ℤ◌, ◌-ℤ◌, int_lt, int_le, Bool, false, Option, Some, None, Result, Ok, Err, List, []}
use Rattle.std.specs.Prelude.{◌∷◌, ◌++◌, take, drop, if◌then◌else◌}
use Rattle.std.specs.List.{find}
use Rattle.h264_header.specs.declared.header.Modification.{Modification}
use Rattle.h264_header.specs.declared.header.Modification.TheVariants.{Subtract, Add, LongTerm}
use Rattle.h264_header.specs.declared.header.PicNumModification.{PicNumModification}
use Rattle.h264_marking.specs.declared.frame.ReferenceFrame.{ReferenceFrame}
use Rattle.h264_marking.specs.declared.frame.Numbering.{Numbering}
use Rattle.h264_marking.specs.Frames.{has_pic_num, has_index}
use Rattle.h264_lists.specs.declared.slot.RefSlot.{RefSlot}
use Rattle.h264_lists.specs.declared.slot.RefSlot.TheVariants.{NoPicture, Held}

-- picNumL0NoWrap of commands 0 and 1, from picNumL0Pred
abbrev pub lowered : Numbering → ℤ → ℕ → ℤ
lowered current pred abs_diff_minus1 =
    let number : ℤ = pred -ℤ pos (abs_diff_minus1 + 1) in
    if int_lt number (pos 0) then number +ℤ pos current.max_frame_num else number

abbrev pub raised : Numbering → ℤ → ℕ → ℤ
raised current pred abs_diff_minus1 =
    let number : ℤ = pred +ℤ pos (abs_diff_minus1 + 1) in
    if int_le (pos current.max_frame_num) number then number -ℤ pos current.max_frame_num else number

-- picNumL0NoWrap after this modification; a long-term one does not change it
abbrev pub pred_after : Numbering → ℤ → Modification → ℤ
pred_after current pred (Subtract abs_diff_minus1) = lowered current pred abs_diff_minus1
pred_after current pred (Add abs_diff_minus1) = raised current pred abs_diff_minus1
pred_after current pred (LongTerm number) = pred

-- a number that n modifications reach at most, since each adds or takes less than 2^33
pub record IsWithin (n : ℕ) (z : ℤ) : Type 0 where
  pub low : neg_ℤ (pos (n * 2 ^ 33 + 2 ^ 32)) ≤ℤ z
  pub high : z ≤ℤ pos (n * 2 ^ 33 + 2 ^ 32)

-- picNumL0
abbrev pub pic_num_of : Numbering → ℤ → ℤ
pic_num_of current no_wrap = if int_lt (pos current.frame_num) no_wrap then no_wrap -ℤ pos current.max_frame_num else no_wrap

-- this frame is the one that a modification names, where picNumL0NoWrap is so
abbrev pub is_named : Numbering → ℤ → Modification → ReferenceFrame → Bool
is_named current no_wrap (Subtract abs_diff_minus1) f = has_pic_num current (pic_num_of current no_wrap) f
is_named current no_wrap (Add abs_diff_minus1) f = has_pic_num current (pic_num_of current no_wrap) f
is_named current no_wrap (LongTerm number) f = has_index number f

-- it stands in this place of a list
abbrev pub is_in : (ReferenceFrame → Bool) → RefSlot → Bool
is_in named NoPicture = false
is_in named (Held f) = named f

-- the places without the first in which it stands
abbrev pub without_first : (RefSlot → Bool) → List RefSlot → List RefSlot
without_first is [] = []
without_first is (slot ∷ slots) = if is slot then slots else slot ∷ without_first is slots

-- the named frame at index k: the places before it, the frame, and the others without it, cut to the list's length
abbrev pub put_at : ℕ → ℕ → (ReferenceFrame → Bool) → ReferenceFrame → List RefSlot → List RefSlot
put_at places k named f slots = take places (take k slots ++ Held f ∷ without_first (is_in named) (drop k slots))

abbrev pub go_on : Option ReferenceFrame → ℕ → (ReferenceFrame → Result (List RefSlot) ℕ) → Result (List RefSlot) ℕ
go_on None bit rest = Err bit
go_on (Some f) bit rest = rest f

-- what a picture's reference list is made of: its numbering, the places of the list, and the frames that are held
pub record ListSource : Type 0 where
  pub current : Numbering
  pub places : ℕ
  pub frames : List ReferenceFrame

abbrev pub source : Numbering → ℕ → List ReferenceFrame → ListSource
source current places frames = record { current = current; places = places; frames = frames }

-- The modifications in turn, the next one at index k, or the bit of the first that names a frame that is not held.
unfoldable pub modified : ListSource → ℕ → ℤ → List PicNumModification → List RefSlot → Result (List RefSlot) ℕ
modified s k pred [] slots = Ok slots
modified s k pred (m ∷ ms) slots =
    let now = pred_after s.current pred m.modification in
    let named = is_named s.current now m.modification in
    go_on (find named s.frames) m.bit (λ f. modified s (k + 1) now ms (put_at s.places k named f slots))
