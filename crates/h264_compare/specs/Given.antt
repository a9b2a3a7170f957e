-- What a reconstruction gave, and what was noted of it. A working form.
use Rattle.std.specs.Prelude.{◌≡◌, ◌≢◌, ℕ, ◌≤◌, ◌++◌, ◌==◌, ◌&&◌, Bool, true, List, [], length, Option, None, Some, codes}
use Rattle.std.specs.List.{All}
use Rattle.std.specs.Io.KnownBytes.{Consumes, IsAtEnd}
use Rattle.h264_lines.specs.Told.{ended}
use Rattle.h264_compare.specs.declared.given.Lack.{Lack}
use Rattle.h264_compare.specs.declared.given.Lack.TheVariants.{TooShort}
use Rattle.h264_compare.specs.declared.given.Layout.{Layout}
use Rattle.h264_compare.specs.declared.given.Layout.TheVariants.{Bare, Y4m}
use Rattle.h264_compare.specs.declared.numbers.Numbers.{Numbers}
use Rattle.h264_compare.specs.declared.shown.ShownFrame.{ShownFrame}
use Rattle.h264_compare.specs.Differences.{differ}
use Rattle.h264_compare.specs.Numbers.{AreNoted}

-- A reconstruction that is too short has no byte left.
abbrev pub EndsAt : Lack → (left : Option (List ℕ)) → Type 0
EndsAt TooShort left = IsAtEnd left
EndsAt lack left = Unit {0}

-- All these samples were given; or, where the reconstruction lacks something, the first of them.
abbrev pub EndsWith : Option Lack → (left : Option (List ℕ)) → (made given : List ℕ) → Type 0
EndsWith None left made given = length given ≡ length made
EndsWith (Some lack) left made given = (length given ≤ length made) × EndsAt lack left

-- a comparison: the bytes that are left to read, where they are known, and the numbers
pub record Standing : Type 0 where
  pub left : Option (List ℕ)
  pub numbers : Numbers

module _ (f : ShownFrame) (byte : ℕ) where
  -- From old to new these samples were compared, which stand at this byte of a frame, with the bytes that were read.
  pub record Compares (old new : Standing) (made : List ℕ) (differs : Bool) (lack : Option Lack) : Type 0 where
    pub given : List ℕ
    pub read : Consumes old.left new.left given
    pub noted : AreNoted f byte old.numbers new.numbers made given
    pub differs_are : differs ≡ differ made given
    pub ends : EndsWith lack new.left made given

-- FRAME, parameters, and the end of the line
pub record IsFrameLine (line : List ℕ) : Type 0 where
  pub parameters : List ℕ
  pub whole : line ≡ codes "FRAME" ++ ended parameters
  pub one_line : All (λ byte. byte ≢ 10) parameters

-- what stands before a frame: nothing, or its line
abbrev pub IsLine : Layout → List ℕ → Type 0
IsLine Bare line = line ≡ []
IsLine (Y4m width height) line = IsFrameLine line

-- whether frames of this width and height can stand in it
abbrev pub suits : Layout → (width height : ℕ) → Bool
suits Bare width height = true
suits (Y4m w h) width height = (w == width) && (h == height)
