-- What the work holds of a picture. A working form.
use Rattle.std.specs.Prelude.{◌≡◌, ℕ, ◌+◌, ◌-◌, ◌<◌, ◌≤◌, true, List, length, Option, Some, None, slice_get}
use Rattle.h264_near.specs.Coded.{CodedMacroblock}
use Rattle.h264_near.specs.Keeps.{Keeps, width_of}
use Rattle.h264_vectors.specs.Derived.{has_picture}
use Rattle.h264_vectors.specs.declared.slice.SliceContext.{SliceContext}
use Rattle.h264_mbsyntax.specs.declared.slice.Standing.{Standing}
use Rattle.h264_mbsyntax.specs.declared.slice.Standing.TheVariants.{Next, Skipping}
use Rattle.h264_picture.specs.declared.sequence.Sequence.{Sequence}
use Rattle.h264_picture.specs.declared.work.Work.{Work}
use Rattle.h264_picture.specs.Lent.{rest_of}

-- the last of these macroblocks is of a slice that began before their end
abbrev pub IsPast : List CodedMacroblock → Type 0
IsPast picture = (m : CodedMacroblock) → slice_get picture (length picture - 1) ≡ Some m → m.slice < length picture

-- ---- a sequence

-- It has room for pictures that are so many macroblocks wide and have so many macroblocks.
pub record ServesIn (width size : ℕ) (sequence : Sequence) : Type 0 where
  pub row : width_of sequence.picture.near ≡ width
  pub columns : sequence.across ≡ width
  pub macroblocks : sequence.size ≡ size

-- It holds these macroblocks of a picture.
pub record HoldsIn (width size : ℕ) (picture : List CodedMacroblock) (sequence : Sequence) : Type 0 where
  pub keeps : Keeps width picture sequence.picture.near
  pub columns : sequence.across ≡ width
  pub macroblocks : sequence.size ≡ size
  pub next : sequence.picture.next ≡ length picture
  pub past : IsPast picture

-- pictures are as wide and high as they were, and the frames stand as they stood
pub record KeepsPlace (old new : Sequence) : Type 0 where
  pub across : new.across ≡ old.across
  pub down : new.down ≡ old.down
  pub places : new.places ≡ old.places
  pub rest : rest_of new.canvas ≡ rest_of old.canvas

-- what is known of the macroblocks is what it was
pub record KeepsSyntax (old new : Sequence) : Type 0 where
  pub near : new.picture.near ≡ old.picture.near
  pub size : new.size ≡ old.size
  pub next : new.picture.next ≡ old.picture.next
  pub mb : new.mb ≡ old.mb

-- ---- the work

-- a sequence is active, of which this holds
abbrev pub IsActive : (Sequence → Type 0) → Option Sequence → Type 0
IsActive P None = ⊥
IsActive P (Some sequence) = P sequence

-- It has room for pictures that are so many macroblocks wide and have so many macroblocks.
abbrev pub Serves : ℕ → ℕ → Work → Type 0
Serves width size work = IsActive (ServesIn width size) work.active

-- It holds these macroblocks of a picture.
abbrev pub HoldsMacroblocks : ℕ → ℕ → List CodedMacroblock → Work → Type 0
HoldsMacroblocks width size picture work = IsActive (HoldsIn width size picture) work.active

-- ---- steps

-- so many macroblocks are left for the rest of a run
abbrev pub IsWithin : ℕ → Standing → Type 0
IsWithin left Next = Unit {0}
IsWithin left (Skipping bit more) = more ≤ left

-- how many macroblocks there are after a step, where so many were left before it
abbrev pub Moves : ℕ → ℕ → ℕ → Option Standing → Type 0
Moves left old new None = new ≡ old
Moves left old new (Some standing) = (0 < left) × (new ≡ old + 1) × IsWithin (left - 1) standing

-- a run that goes on has its picture
abbrev pub RefersOn : SliceContext → Standing → Type 0
RefersOn slice Next = Unit {0}
RefersOn slice (Skipping bit more) = 0 < more → has_picture slice 0 ≡ true

abbrev pub RefersIf : SliceContext → Option Standing → Type 0
RefersIf slice None = Unit {0}
RefersIf slice (Some standing) = RefersOn slice standing
