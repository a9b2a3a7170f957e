-- Memory management control operations (8.2.5.4). To be read beside the standard.
use Rattle.std.specs.Prelude.{ℕ, ℤ, pos, ◌+◌, ◌-ℤ◌, nat_lt, nat_le, ◌&&◌, not, Bool, true, false, Option, Some, None, Result, Ok, Err, List, [], ◌∷◌, map}
use Rattle.std.specs.Prelude.{if◌then◌else◌}
use Rattle.std.specs.List.{filter, list_any}
use Rattle.h264_header.specs.declared.header.Operation.{Operation}
use Rattle.h264_header.specs.declared.header.Operation.TheVariants.{UnmarkShortTerm, UnmarkLongTerm, MakeLongTerm, LimitLongTerm, UnmarkAll}
use Rattle.h264_header.specs.declared.header.Operation.TheVariants.{MakeCurrentLongTerm}
use Rattle.h264_header.specs.declared.header.MarkingOperation.{MarkingOperation}
use Rattle.h264_marking.specs.declared.frame.Term.{Term}
use Rattle.h264_marking.specs.declared.frame.Term.TheVariants.{Short, Long}
use Rattle.h264_marking.specs.declared.frame.ReferenceFrame.{ReferenceFrame}
use Rattle.h264_marking.specs.declared.frame.Numbering.{Numbering}
use Rattle.h264_marking.specs.Frames.{References, has_pic_num, has_index, is_index, long_term_num, is_existing, is_short, without_pic_num, without_index}

-- What stands between two operations of a picture: the frames that are held, how the picture's own frame is marked so far, and
-- whether operation 5 has come.
pub record Marks : Type 0 where
  pub held : References
  pub current : Term
  pub resets : Bool

-- before the first operation
abbrev pub marks_of : References → Marks
marks_of refs = record { held = refs; current = Short; resets = false }

-- picNumX of operations 1 and 3
abbrev pub pic_num_x : Numbering → ℕ → ℤ
pic_num_x current difference_of_pic_nums_minus1 = pos current.frame_num -ℤ pos (difference_of_pic_nums_minus1 + 1)

-- the indices of the frames lie below this number
abbrev pub is_below : ℕ → Option ℕ → Bool
is_below limit None = true
is_below limit (Some index) = nat_lt index limit

abbrev pub with_frames : Marks → List ReferenceFrame → Marks
with_frames marks frames = record marks { held = record marks.held { frames = frames } }

-- 1: a held short-term frame becomes unused
abbrev pub unmark_short : Numbering → ℤ → Marks → Option Marks
unmark_short current number marks =
    if list_any (has_pic_num current number) marks.held.frames then Some (with_frames marks (without_pic_num current number marks.held.frames))
    else None

-- 2: a held long-term frame becomes unused, which is not the picture's own
abbrev pub unmark_long : ℕ → Marks → Option Marks
unmark_long number marks =
    if list_any (has_index number) marks.held.frames then Some (with_frames marks (without_index number marks.held.frames))
    else None

-- a short-term frame of this PicNum gets the index
abbrev pub made_long : Numbering → ℤ → ℕ → ReferenceFrame → ReferenceFrame
made_long current number index f = if has_pic_num current number f then record f { term = Long index } else f

-- 3: a held short-term frame gets the index, and another frame that has it becomes unused. The index is one of those that there are
-- and not that of the picture's own frame, and the frame exists.
abbrev pub may_make_long : Numbering → ℤ → ℕ → Marks → Bool
may_make_long current number index marks =
    list_any (λ f. has_pic_num current number f && is_existing f) marks.held.frames
    && nat_lt index marks.held.max_long_term_frame_idx_plus1
    && not (is_index index (long_term_num marks.current))

abbrev pub make_long : Numbering → ℤ → ℕ → Marks → Option Marks
make_long current number index marks =
    if may_make_long current number index marks then Some (with_frames marks (map (made_long current number index) (without_index index marks.held.frames)))
    else None

-- 4: the indices lie below this number, which is at most max_num_ref_frames, and frames with others become unused; the picture's
-- own does not
abbrev pub limit_long : Numbering → ℕ → Marks → Option Marks
limit_long current limit marks =
    if nat_le limit current.max_num_ref_frames && is_below limit (long_term_num marks.current) then
    Some (record marks {
      held = record {
        frames = filter (λ f. is_below limit (long_term_num f.term)) marks.held.frames;
        max_long_term_frame_idx_plus1 = limit;
      };
    })
    else None

-- 5: all frames become unused, and there are no indices; it does not come once the picture's own frame has one
abbrev pub unmark_all : Marks → Option Marks
unmark_all marks =
    if is_short marks.current then Some (record { held = record { frames = []; max_long_term_frame_idx_plus1 = 0 }; current = Short; resets = true })
    else None

-- 6: the picture's own frame gets the index, and another that has it becomes unused
abbrev pub make_current_long : ℕ → Marks → Option Marks
make_current_long index marks =
    if nat_lt index marks.held.max_long_term_frame_idx_plus1 then
    Some (record marks { held = record marks.held { frames = without_index index marks.held.frames }; current = Long index })
    else None

-- One operation, if it can be met.
abbrev pub operated : Numbering → Operation → Marks → Option Marks
operated current (UnmarkShortTerm difference) marks = unmark_short current (pic_num_x current difference) marks
operated current (UnmarkLongTerm number) marks = unmark_long number marks
operated current (MakeLongTerm difference index) marks = make_long current (pic_num_x current difference) index marks
operated current (LimitLongTerm limit) marks = limit_long current limit marks
operated current UnmarkAll marks = unmark_all marks
operated current (MakeCurrentLongTerm index) marks = make_current_long index marks

abbrev pub go_on : Option Marks → ℕ → (Marks → Result Marks ℕ) → Result Marks ℕ
go_on None bit rest = Err bit
go_on (Some marks) bit rest = rest marks

-- The operations in turn, each on what the earlier ones left, or the bit of the first that cannot be met.
unfoldable pub all_operated : Numbering → List MarkingOperation → Marks → Result Marks ℕ
all_operated current [] marks = Ok marks
all_operated current (o ∷ os) marks = go_on (operated current o.operation marks) o.bit (all_operated current os)
