-- The RBSP of a NAL unit (7.3.1). To be read beside the standard.
use Rattle.std.specs.Prelude.{◌≡◌, ℕ, ◌+◌, ◌-◌, ◌*◌, ◌/◌, ◌<◌, ◌≤◌, Bool, List, [], ◌∷◌, length, drop, Option, slice_get, ◌==◌, ◌&&◌, if◌then◌else◌}
use Rattle.std.specs.List.Sorted.{IsNonDecreasingBy}
use Rattle.h264_base.specs.Body.{Body, place}
use Rattle.h264_units.specs.Stream.{NalUnit, past, unit_limit, input_limit}

-- the third of these bytes is an emulation_prevention_three_byte
abbrev pub is_prevention : ℕ → ℕ → ℕ → Bool
is_prevention x y z = (x == 0) && (y == 0) && (z == 3)

-- The bytes of the RBSP, from the bytes after the unit's header.
unfoldable pub rbsp_bytes : List ℕ → List ℕ
rbsp_bytes [] = []
rbsp_bytes (x ∷ []) = x ∷ []
rbsp_bytes (x ∷ y ∷ []) = x ∷ y ∷ []
rbsp_bytes (x ∷ y ∷ z ∷ bytes) =
    if is_prevention x y z then x ∷ y ∷ rbsp_bytes bytes else x ∷ rbsp_bytes (y ∷ z ∷ bytes)

-- Before which bytes of the RBSP such a byte was left out, where n bytes of the RBSP stand before these.
unfoldable pub dropped_from : ℕ → List ℕ → List ℕ
dropped_from n [] = []
dropped_from n (x ∷ []) = []
dropped_from n (x ∷ y ∷ []) = []
dropped_from n (x ∷ y ∷ z ∷ bytes) =
    if is_prevention x y z then (n + 2) ∷ dropped_from (n + 2) bytes else dropped_from (n + 1) (y ∷ z ∷ bytes)

-- The RBSP of a unit, and where its bits stand in the input.
unfoldable pub body_of : NalUnit → Body
body_of unit = record {
  bytes = rbsp_bytes (drop 1 unit.body);
  first = 8 * (unit.from + 1);
  dropped = dropped_from 0 (drop 1 unit.body);
}

-- what an `Rbsp` keeps
pub record IsSound (bytes : List ℕ) (first : ℕ) (dropped : List ℕ) : Type 0 where
  pub fits : length bytes < unit_limit
  pub judged : first + 8 * (length bytes + length dropped) ≤ 8 * input_limit
  -- no place is below one before it
  pub sorted : IsNonDecreasingBy (λ place. place) dropped

-- the byte at this place of the input, where it is one of the unit
abbrev pub unit_byte : NalUnit → ℕ → Option ℕ
unit_byte unit at = slice_get unit.body (at - unit.from)

-- Each byte of the RBSP is the unit's at its place, and after the last is the first byte after the unit.
pub record IsPlaced (unit : NalUnit) : Type 0 where
  pub bytes : (k : ℕ) → k < length (body_of unit).bytes → unit_byte unit (place (body_of unit) (8 * k) / 8) ≡ slice_get (body_of unit).bytes k
  pub end : place (body_of unit) (8 * length (body_of unit).bytes) ≡ 8 * past unit
