-- The reference picture list of a P slice (8.2.4). To be read beside the standard.
use Rattle.std.specs.Prelude.{ℕ, pos, Result, Ok, Err, List, [], ◌∷◌}
use Rattle.arrayvec.specs.ArrayVec.{ArrayVec}
use Rattle.h264_base.specs.declared.rule.Rule.TheVariants.{ListCommand}
use Rattle.h264_base.specs.declared.stop.Stop.{Stop}
use Rattle.h264_base.specs.declared.stop.Stop.TheVariants.{No}
use Rattle.h264_header.specs.declared.header.RefPicList0.{RefPicList0}
use Rattle.h264_marking.specs.declared.frame.ReferenceFrame.{ReferenceFrame}
use Rattle.h264_marking.specs.declared.frame.Numbering.{Numbering}
use Rattle.h264_lists.specs.declared.slot.RefSlot.{RefSlot}
use Rattle.h264_lists.specs.declared.slot.RefSlot.TheVariants.{NoPicture, Held}
use Rattle.h264_lists.specs.Initial.{list_places, initial}
use Rattle.h264_lists.specs.Modified.{modified, source}

-- The list, or the bit of the first modification that names a frame that is not held.
unfoldable pub built : Numbering → RefPicList0 → List ReferenceFrame → Result (List RefSlot) ℕ
built current list frames =
    let places : ℕ = list_places list.num_ref_idx_l0_active in
    modified (source current places frames) 0 (pos current.frame_num) list.modifications.items (initial current places frames)

-- this holds of each frame in these places
abbrev pub AreOf : (ReferenceFrame → Type 0) → List RefSlot → Type 0
AreOf P [] = Unit {0}
AreOf P (NoPicture ∷ slots) = AreOf P slots
AreOf P (Held f ∷ slots) = P f × AreOf P slots

-- the same as an answer
abbrev pub list_answer : Result (List RefSlot) ℕ → Result (ArrayVec RefSlot) Stop
list_answer (Ok slots) = Ok (record { items = slots })
list_answer (Err bit) = Err (No bit ListCommand)
