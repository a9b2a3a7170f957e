-- Emulation prevention in a NAL unit (7.4.1). Places count the bytes of the unit from 0, the header among them. To be read beside the standard.
use Rattle.std.specs.Prelude.{◌≡◌, ℕ, ◌+◌, ◌-◌, ◌*◌, ◌<◌, ◌≤◌, ◌⊎◌, List, [], ◌∷◌, length, slice_index, Option, Some, None, Result, Ok, Err, ◌==◌, ◌&&◌, ◌||◌}
use Rattle.std.specs.Prelude.{nat_lt, if◌then◌else◌}
use Rattle.h264_base.specs.declared.rule.Rule.TheVariants.{Emulation}
use Rattle.h264_base.specs.declared.stop.Stop.{Stop}
use Rattle.h264_base.specs.declared.stop.Stop.TheVariants.{No}

-- this byte stands after two 00 bytes
pub record AfterZeros (body : List ℕ) (place : ℕ) : Type 0 where
  pub following : 2 ≤ place
  pub within : place < length body
  pub first : slice_index body (place - 2) ≡ 0
  pub second : slice_index body (place - 1) ≡ 0

-- 00 00 02: the 02
pub record IsTwo (body : List ℕ) (third place : ℕ) : Type 0 where
  pub byte : slice_index body third ≡ 2
  pub place_is : place ≡ third

-- 00 00 03 at the end of the unit: the 03
pub record IsLastThree (body : List ℕ) (third place : ℕ) : Type 0 where
  pub byte : slice_index body third ≡ 3
  pub last : third + 1 ≡ length body
  pub place_is : place ≡ third

-- 00 00 03 and then a byte above 03: that byte
pub record IsFourth (body : List ℕ) (third place : ℕ) : Type 0 where
  pub byte : slice_index body third ≡ 3
  pub more : third + 1 < length body
  pub above : 3 < slice_index body (third + 1)
  pub place_is : place ≡ third + 1

abbrev pub IsBroken : List ℕ → ℕ → ℕ → Type 0
IsBroken body third place = IsTwo body third place ⊎ (IsLastThree body third place ⊎ IsFourth body third place)

-- At this place the bytes of a unit break the rule.
pub record IsFault (body : List ℕ) (place : ℕ) : Type 0 where
  pub third : ℕ
  pub zeros : AfterZeros body third
  pub broken : IsBroken body third place

-- The first such place.
pub record IsFirstFault (body : List ℕ) (place : ℕ) : Type 0 where
  pub fault : IsFault body place
  pub before : (other : ℕ) → other < place → IsFault body other → ⊥

-- This place as a function: n bytes of the unit stand before these.
unfoldable pub fault_from : ℕ → List ℕ → Option ℕ
fault_from n [] = None
fault_from n (x ∷ []) = None
fault_from n (x ∷ y ∷ []) = None
fault_from n (x ∷ y ∷ z ∷ []) = if (x == 0) && (y == 0) && ((z == 2) || (z == 3)) then Some (n + 2) else None
fault_from n (x ∷ y ∷ z ∷ w ∷ bytes) =
    if (x == 0) && (y == 0) && (z == 2) then Some (n + 2)
    else if (x == 0) && (y == 0) && (z == 3) && nat_lt 3 w then Some (n + 3)
    else fault_from (n + 1) (y ∷ z ∷ w ∷ bytes)

-- what a check of a unit that begins at this place of the input answers
abbrev pub told : ℕ → Option ℕ → Result (Unit {0}) Stop
told from None = Ok tt
told from (Some place) = Err (No (8 * (from + place)) Emulation)

unfoldable pub emulation_checked : ℕ → List ℕ → Result (Unit {0}) Stop
emulation_checked from body = told from (fault_from 0 body)
