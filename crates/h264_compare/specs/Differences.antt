-- Where the samples that were made differ from those that were given, and by how much. To be read as it stands, beside no clause of the standard.
use Rattle.std.specs.Prelude.{ℕ, ◌+◌, ◌-◌, ◌*◌, ◌==◌, ◌||◌, not, Bool, false, List, [], ◌∷◌, ◌++◌, Option, None, Some, if◌then◌else◌}
use Rattle.h264_plane.specs.declared.frame.Component.{Component}
use Rattle.h264_plane.specs.declared.frame.Component.TheVariants.{Y, Cb, Cr}
use Rattle.h264_compare.specs.declared.shown.ShownFrame.{ShownFrame}
use Rattle.h264_compare.specs.declared.numbers.Difference.{Difference}
use Rattle.h264_compare.specs.Places.{plane_at, place_at}

-- a byte of a frame at which two samples stand
abbrev pub difference : ShownFrame → (byte made given : ℕ) → Difference
difference f byte made given = record { frame = f.number; place = place_at f byte; made = made; given = given }

-- the samples that differ, in order, where the first stands at this byte of the frame
unfoldable pub differences : ShownFrame → (byte : ℕ) → (made given : List ℕ) → List Difference
differences f byte [] given = []
differences f byte (m ∷ made) [] = []
differences f byte (m ∷ made) (g ∷ given) =
    (if m == g then [] else difference f byte m g ∷ []) ++ differences f (byte + 1) made given

-- the first of a list, if it has any
abbrev pub first_of : List Difference → Option Difference
first_of [] = None
first_of (d ∷ ds) = Some d

-- whether some sample differs
unfoldable pub differ : (made given : List ℕ) → Bool
differ [] given = false
differ (m ∷ made) [] = false
differ (m ∷ made) (g ∷ given) = not (m == g) || differ made given

-- the square of a difference; `-` gives 0 where the second is larger
abbrev pub square : ℕ → ℕ → ℕ
square m g = let d = (m - g) + (g - m) in d * d

-- a number that counts for one plane alone
abbrev pub only : Component → Component → ℕ → ℕ
only Y Y n = n
only Cb Cb n = n
only Cr Cr n = n
only c d n = 0

-- the sum of the squares of the differences in a plane
unfoldable pub squares : Component → ShownFrame → (byte : ℕ) → (made given : List ℕ) → ℕ
squares c f byte [] given = 0
squares c f byte (m ∷ made) [] = 0
squares c f byte (m ∷ made) (g ∷ given) = only c (plane_at f byte) (square m g) + squares c f (byte + 1) made given
