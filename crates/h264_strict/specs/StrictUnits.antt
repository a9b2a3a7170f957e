-- The units of the bytes that were read, and what is told of the rules on their bytes. To be read beside the standard.
use Rattle.std.specs.Prelude.{◌≡◌, ℕ, Bool, true, false, List, [], ◌∷◌, ◌++◌, Option, Some, None}
use Rattle.h264_base.specs.declared.stop.Stop.{Stop}
use Rattle.h264_units.specs.Stream.{NalUnit, Next, past, Splits, Tail, Zeros, tail_stop, IsUndecided}
use Rattle.h264_units.specs.Splitting.{Splitting, Refused}
use Rattle.h264_strict.specs.StrictStarts.{told_of_units, told_to_end, lack_so_far, lack_at_end, noted_in, no_units, after_units}
use Rattle.h264_strict.specs.declared.buffer.Lack.{Lack}
use Rattle.h264_strict.specs.declared.strict.Places.{Places}
use Rattle.h264_strict.specs.declared.strict_extent.Extent.{Extent}
use Rattle.h264_strict.specs.declared.strict_extent.Extent.TheVariants as extents
use Rattle.h264_strict.specs.declared.strict_rule.StrictRule.{StrictRule}
use Rattle.h264_strict.specs.declared.strict_starts.UnitsNoted.{UnitsNoted}

-- These are the first units of the bytes at this place, and what is left of the bytes after them.
abbrev pub BeginWith : (at : ℕ) → (bytes : List ℕ) → List NalUnit → (after : ℕ) → (left : List ℕ) → Type 0
BeginWith at bytes [] after left = (after ≡ at) × (left ≡ bytes)
BeginWith at bytes (unit ∷ units) after left = (rest : List ℕ) × Next at bytes unit rest × BeginWith (past unit) rest units after left

-- However these bytes go on, no unit follows, and they are no byte stream, or more than is judged.
abbrev pub AreRefused : (at : ℕ) → (bytes : List ℕ) → Type 0
AreRefused at bytes = (stop : Stop) × Refused at bytes stop

-- These are the units of the bytes, and then they are no byte stream, or more than is judged.
abbrev pub SplitsToStop : List ℕ → List NalUnit → Type 0
SplitsToStop bytes units = (tail : Tail) × (stop : Stop) × (tail_stop tail ≡ Some stop) × Splits 0 bytes units tail

-- A reader took these bytes: it looked at the first units of a front of them. While nothing keeps it from that, it looked at each unit whose end they show.
pub record TookBytes (splitter : Splitting) (extent : Extent) (noted : UnitsNoted) (bytes : List ℕ) : Type 0 where
  pub front : List ℕ
  pub rest : List ℕ
  pub units : List NalUnit
  pub at : ℕ
  pub left : List ℕ
  pub whole : bytes ≡ front ++ rest
  -- however the bytes go on
  pub begins : (more : List ℕ) → BeginWith 0 (front ++ more) units at (left ++ more)
  pub before : noted.before ≡ after_units no_units units
  pub tells : (rule : StrictRule) → noted_in noted.found rule ≡ told_of_units rule units
  pub all : extent ≡ extents.Whole → (rest ≡ []) × IsUndecided left
  pub stands : extent ≡ extents.Whole → (splitter.at ≡ at) × (splitter.rest ≡ left) × (splitter.stop ≡ None)
  pub refused : extent ≡ extents.NoByteStream → AreRefused at (left ++ rest)
  -- that the bytes may go on is no reason
  pub not_cut : extent ≡ extents.NotToTheEnd → ⊥

-- what is told of a rule after these units; the last access unit has ended where they are all
abbrev pub told_by : Extent → StrictRule → List NalUnit → Option Places
told_by extents.Whole rule units = told_to_end rule units
told_by extent rule units = told_of_units rule units

-- why the coded picture buffer is not followed to the end, if it is not
abbrev pub lack_by : Extent → List NalUnit → Option Lack
lack_by extents.Whole units = lack_at_end (after_units no_units units)
lack_by extent units = lack_so_far (after_units no_units units)

-- What is told of these bytes, after which the source has said its end or not: of their first units, which are all unless memory was wanting.
pub record TellsOfBytes (extent : Extent) (ended : Bool) (found : List (Option Places)) (lack : Option Lack) (bytes : List ℕ) : Type 0 where
  pub units : List NalUnit
  pub at : ℕ
  pub left : List ℕ
  -- however the bytes go on, where they have not ended
  pub begins : (more : List ℕ) → (ended ≡ true → more ≡ []) → BeginWith 0 (bytes ++ more) units at (left ++ more)
  pub tells : (rule : StrictRule) → noted_in found rule ≡ told_by extent rule units
  pub lacks : lack ≡ lack_by extent units
  -- the units of a byte stream that has ended
  pub all : extent ≡ extents.Whole → (ended ≡ true) × Splits 0 bytes units Zeros
  -- the units before what is no byte stream, however the bytes go on where they have not ended
  pub refused : extent ≡ extents.NoByteStream → SplitsToStop bytes units × (ended ≡ false → AreRefused at left)
  -- the units whose ends the bytes show, which may go on
  pub cut : extent ≡ extents.NotToTheEnd → (ended ≡ false) × IsUndecided left
