-- The numbers of a comparison. To be read as it stands, beside no clause of the standard.
use Rattle.std.specs.Prelude.{◌≡◌, ℕ, ◌+◌, ◌-◌, ◌^◌, min, length, List, Option, None, Some, if◌then◌else◌}
use Rattle.std.specs.List.{sum_by, flat_map}
use Rattle.h264_plane.specs.declared.frame.Component.{Component}
use Rattle.h264_plane.specs.declared.frame.Component.TheVariants.{Y, Cb, Cr}
use Rattle.h264_compare.specs.declared.shown.ShownFrame.{ShownFrame}
use Rattle.h264_compare.specs.declared.numbers.Difference.{Difference}
use Rattle.h264_compare.specs.declared.numbers.Sums.{Sums}
use Rattle.h264_compare.specs.declared.numbers.Numbers.{Numbers}
use Rattle.h264_compare.specs.Places.{luma}
use Rattle.h264_compare.specs.Differences.{differences, first_of, differ, squares}

-- a sum that is kept in 64 bits, and stops at the largest number
abbrev pub capped : ℕ → ℕ
capped n = min n (2 ^ 64 - 1)

-- the sum of a plane
abbrev pub sum_of : Component → Sums → ℕ
sum_of Y s = s.y
sum_of Cb s = s.cb
sum_of Cr s = s.cr

-- the earlier of two differences, of which the second comes after all places of the first
abbrev pub earlier : Option Difference → Option Difference → Option Difference
earlier None later = later
earlier (Some d) later = Some d

-- A frame that was compared: how it is shown, its samples as they were made, what stands before it in the reconstruction (the line FRAME of YUV4MPEG2), and
-- the samples that the reconstruction gave for it.
pub record Compared : Type 0 where
  pub shown : ShownFrame
  pub made : List ℕ
  pub line : List ℕ
  pub given : List ℕ

-- the samples of these frames that differ, in order
abbrev pub differences_of : List Compared → List Difference
differences_of frames = flat_map (λ f. differences f.shown 0 f.made f.given) frames

-- the numbers of these frames
pub record AreNumbersOf (n : Numbers) (compared : List Compared) : Type 0 where
  pub frames : n.frames ≡ length compared
  pub differing : n.differing ≡ capped (sum_by (λ f. if differ f.made f.given then 1 else 0) compared)
  pub first : n.first ≡ first_of (differences_of compared)
  pub luma : n.luma ≡ capped (sum_by (λ f. luma f.shown) compared)
  pub squares : (c : Component) → sum_of c n.squares ≡ capped (sum_by (λ f. squares c f.shown 0 f.made f.given) compared)

-- From old to new these samples of one frame were compared, the first of them at this byte of it. The counts of frames stay.
pub record AreNoted (f : ShownFrame) (byte : ℕ) (old new : Numbers) (made given : List ℕ) : Type 0 where
  pub first : new.first ≡ earlier old.first (first_of (differences f byte made given))
  pub squares : (c : Component) → sum_of c new.squares ≡ capped (sum_of c old.squares + squares c f byte made given)
  pub frames : new.frames ≡ old.frames
  pub differing : new.differing ≡ old.differing
  pub luma : new.luma ≡ old.luma
