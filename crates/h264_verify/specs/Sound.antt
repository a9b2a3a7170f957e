-- What is known of pictures whose rules are met. A working form.
use Rattle.std.specs.Prelude.{◌≡◌, ◌||◌, not, List, [], ◌∷◌, length, Option, Some, None, Bool, true, false}
use Rattle.std.specs.Option.{is_some}
use Rattle.h264_pps.specs.declared.Pps.{Pps}
use Rattle.h264_sps.specs.declared.sps.Sps.{Sps}
use Rattle.h264_sps.specs.Usable.{is_usable}
use Rattle.h264_sets.specs.Sets.{Maps, IsActive, pps_of}
use Rattle.h264_header.specs.declared.header.Header.{Header}
use Rattle.h264_header.specs.Picture.{is_idr, is_reference}
use Rattle.h264_bits.specs.declared.element.Found.{Found}
use Rattle.h264_header.specs.declared.header.Marking.{Marking}
use Rattle.h264_header.specs.declared.header.Marking.TheVariants as marking
use Rattle.h264_marking.specs.Gaps.{all_filled}
use Rattle.h264_marking.specs.Ended.{numbering_of}
use Rattle.h264_verify.specs.Pictures.{CodedPicture, last_slice, held_in, held_after, ended_by, is_met}
use Rattle.h264_verify.specs.Buffering.{missing_before}

-- that of an IDR picture (7.3.3.3)
abbrev pub is_idr_marking : Marking → Bool
is_idr_marking (marking.Idr no_output long_term) = true
is_idr_marking marking.SlidingWindow = false
is_idr_marking (marking.Adaptive operations) = false

abbrev pub is_own : Option (Found Marking) → Bool
is_own None = true
is_own (Some found) = is_idr_marking found.value

-- the gap before a picture after these was filled (8.2.5.2)
abbrev pub has_gap_filled : CodedPicture → List CodedPicture → Bool
has_gap_filled p ps = is_some (all_filled (numbering_of p.first.sps p.first.header) (missing_before p ps) (held_after ps))

-- A header that was read has a marking where its picture is a reference, and nowhere else (7.3.3); an IDR picture is one (7.4.1), and is marked as
-- one (7.3.3.3).
pub record IsMarked (h : Header) : Type 0 where
  pub some : is_reference h ≡ true → is_some h.marking ≡ true
  pub none : is_reference h ≡ false → h.marking ≡ None
  pub idr : is_idr h ≡ true → is_reference h ≡ true
  pub own : is_idr h ≡ true → is_own h.marking ≡ true

-- the newest of these pictures has this sequence parameter set
abbrev pub HasSet : Sps → List CodedPicture → Type 0
HasSet sps [] = ⊥
HasSet sps (p ∷ ps) = p.first.sps ≡ sps

-- and this picture parameter set
abbrev pub HasPps : Pps → List CodedPicture → Type 0
HasPps pps [] = ⊥
HasPps pps (p ∷ ps) = p.first.pps ≡ pps

-- a picture after these: one that is no IDR picture has the set of the one before it (7.4.1.2.1), the gap before it was filled (8.2.5.2), and its
-- last slice is of
-- an IDR picture where its first one is (7.4.1.2.4)
pub record Follows (p : CodedPicture) (ps : List CodedPicture) : Type 0 where
  pub marked : IsMarked p.first.header
  pub usable : is_usable p.first.sps ≡ true
  pub set : is_idr p.first.header ≡ false → HasSet p.first.sps ps
  pub filled : has_gap_filled p ps ≡ true
  pub last : is_idr (last_slice p).header ≡ is_idr p.first.header

-- its marking can be met (8.2.5)
abbrev pub IsMet : CodedPicture → List CodedPicture → Type 0
IsMet p ps = is_met (ended_by p (length ps) (held_in (p ∷ ps))) ≡ true

-- each of these pictures is one after the others, and its marking was met; that of the newest, if it has ended
abbrev pub AreSound : Bool → List CodedPicture → Type 0
AreSound ended [] = Unit {0}
AreSound ended (p ∷ ps) = Follows p ps × (ended ≡ true → IsMet p ps) × AreSound true ps

-- no more slices may come to the newest of the pictures, or it has ended
abbrev pub has_ended : Bool → Bool → Bool
has_ended on ended = not on || ended

-- the active sequence parameter set is that of the newest picture; before the first one an IDR picture is due
abbrev pub HasActive : Bool → List CodedPicture → Maps → Type 0
HasActive due [] maps = due ≡ true
HasActive due (p ∷ ps) maps = IsActive maps p.first.sps

-- the id in the last slice of the picture that may go on names the set of its first one
abbrev pub NamesSet : Bool → List CodedPicture → Maps → Type 0
NamesSet on [] maps = Unit {0}
NamesSet false (p ∷ ps) maps = Unit {0}
NamesSet true (p ∷ ps) maps = pps_of maps (last_slice p).header.pic_parameter_set_id.value ≡ Some p.first.pps
