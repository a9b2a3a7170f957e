-- Byte streams and their NAL units (7.3.1, B.1.1, B.1.2). Places count the bytes of the input from 0. To be read beside the standard.
use Rattle.std.specs.Prelude.{◌≡◌, ◌≢◌, ℕ, ◌+◌, ◌*◌, ◌^◌, ◌<◌, ◌≤◌, ◌⊎◌, min, List, [], ◌∷◌, ◌++◌, length, replicate, Option, Some, None}
use Rattle.h264_base.specs.declared.rule.Rule.TheVariants.{ByteStream, EmptyUnit}
use Rattle.h264_base.specs.declared.stop.Feature.TheVariants.{UnitTooLong, InputTooLong}
use Rattle.h264_base.specs.declared.stop.Stop.{Stop}
use Rattle.h264_base.specs.declared.stop.Stop.TheVariants.{No, Outside}

-- a NAL unit: the place of its first byte, and its bytes
pub record NalUnit : Type 0 where
  pub from : ℕ
  pub body : List ℕ

-- the place after it
abbrev pub past : NalUnit → ℕ
past unit = unit.from + length unit.body

-- A unit ends before these bytes, which reach to the end of the input: they begin with 00 00 00 or 00 00 01, or they are
-- fewer than three and all 00.
abbrev pub EndsUnit : List ℕ → Type 0
EndsUnit [] = Unit {0}
EndsUnit (x ∷ []) = x ≡ 0
EndsUnit (x ∷ y ∷ []) = (x ≡ 0) × (y ≡ 0)
EndsUnit (x ∷ y ∷ z ∷ bytes) = (x ≡ 0) × (y ≡ 0) × (z < 2)

-- nowhere in these bytes does a unit end: no 00 00 00 and no 00 00 01 stand in them, and they do not end in 00
abbrev pub IsInner : List ℕ → Type 0
IsInner [] = Unit {0}
IsInner (x ∷ bytes) = (EndsUnit (x ∷ bytes) → ⊥) × IsInner bytes

-- the bytes of a unit
abbrev pub IsBody : List ℕ → Type 0
IsBody body = (0 < length body) × IsInner body

-- 00 bytes, a start code, and these bytes
abbrev pub started : ℕ → List ℕ → List ℕ
started zeros bytes = replicate zeros 0 ++ 0 ∷ 0 ∷ 1 ∷ bytes

-- Of bytes that stand at this place and reach to the end of the input, the first unit, and what follows it.
pub record First (at : ℕ) (bytes : List ℕ) (unit : NalUnit) (rest : List ℕ) : Type 0 where
  pub zeros : ℕ
  pub whole : bytes ≡ started zeros (unit.body ++ rest)
  pub body : IsBody unit.body
  pub ends : EndsUnit rest
  pub from : unit.from ≡ at + zeros + 3

-- The bytes from this place on are 00 bytes, and for each unit a start code, its bytes, and 00 bytes.
abbrev pub IsByteStream : ℕ → List ℕ → List NalUnit → Type 0
IsByteStream at bytes [] = (zeros : ℕ) × (bytes ≡ replicate zeros 0)
IsByteStream at bytes (unit ∷ units) = (rest : List ℕ) × First at bytes unit rest × IsByteStream (past unit) rest units

-- How much is judged: this many bytes of a unit, and this many of the input.
abbrev pub unit_limit : ℕ
unit_limit = 2 ^ 28

abbrev pub input_limit : ℕ
input_limit = 2 ^ 40

-- the place after the bytes that show that a unit ended at this place, before the rest: three, or all where the input has no more
abbrev pub shown_by : ℕ → List ℕ → ℕ
shown_by place rest = place + min 3 (length rest)

-- The first unit, where it is judged.
pub record Next (at : ℕ) (bytes : List ℕ) (unit : NalUnit) (rest : List ℕ) : Type 0 where
  pub first : First at bytes unit rest
  pub fits : length unit.body ≤ unit_limit
  pub shown : shown_by (past unit) rest ≤ input_limit

-- How any input goes on after its last whole unit.
pub data Tail : Type 0 where
  -- 00 bytes to its end
  Zeros : Tail
  -- at this place a byte that is no 00 and belongs to no start code
  Stray : ℕ → Tail
  -- a start code, which ends at this place, and no byte of a unit after it
  Bare : ℕ → Tail
  -- at this place a unit begins that has too many bytes
  Long : ℕ → Tail
  -- the bytes up to the input's limit show nothing of these, and there are more
  Cut : Tail

-- After 00 bytes comes a byte that is no 00, and not the 01 of a start code.
pub record IsStray (at : ℕ) (bytes : List ℕ) (place : ℕ) : Type 0 where
  pub zeros : ℕ
  pub byte : ℕ
  pub rest : List ℕ
  pub whole : bytes ≡ replicate zeros 0 ++ byte ∷ rest
  pub other : byte ≢ 0
  pub no_code : byte ≡ 1 → zeros < 2
  pub place_is : place ≡ at + zeros
  pub shown : place < input_limit

pub record IsBare (at : ℕ) (bytes : List ℕ) (place : ℕ) : Type 0 where
  pub zeros : ℕ
  pub rest : List ℕ
  pub whole : bytes ≡ started zeros rest
  pub ends : EndsUnit rest
  pub place_is : place ≡ at + zeros + 3
  pub shown : shown_by place rest ≤ input_limit

-- The first bytes of a unit are more than a unit may have.
pub record IsLong (at : ℕ) (bytes : List ℕ) (place : ℕ) : Type 0 where
  pub zeros : ℕ
  pub body : List ℕ
  pub rest : List ℕ
  pub whole : bytes ≡ started zeros (body ++ rest)
  pub inner : IsInner body
  pub too_many : unit_limit < length body
  pub place_is : place ≡ at + zeros + 3
  pub shown : place + length body ≤ input_limit

-- A start code and the first bytes of a unit, with some 00 bytes that may be the unit's or follow it.
pub record IsOpenUnit (bytes : List ℕ) : Type 0 where
  pub zeros : ℕ
  pub body : List ℕ
  pub held : ℕ
  pub whole : bytes ≡ started zeros (body ++ replicate held 0)
  pub inner : IsInner body
  pub fits : length body ≤ unit_limit
  pub few : held < 3

-- These bytes show no unit, and nothing that may not stand there.
abbrev pub IsUndecided : List ℕ → Type 0
IsUndecided bytes = ((zeros : ℕ) × (bytes ≡ replicate zeros 0)) ⊎ IsOpenUnit bytes

pub record IsCut (at : ℕ) (bytes : List ℕ) : Type 0 where
  pub front : List ℕ
  pub rest : List ℕ
  pub whole : bytes ≡ front ++ rest
  pub front_ends : at + length front ≡ input_limit
  pub goes_on : 0 < length rest
  pub undecided : IsUndecided front

abbrev pub HasTail : ℕ → List ℕ → Tail → Type 0
HasTail at bytes Zeros = (zeros : ℕ) × (bytes ≡ replicate zeros 0) × (at + zeros ≤ input_limit)
HasTail at bytes (Stray place) = IsStray at bytes place
HasTail at bytes (Bare place) = IsBare at bytes place
HasTail at bytes (Long place) = IsLong at bytes place
HasTail at bytes Cut = IsCut at bytes

-- Any bytes from this place to the end of the input: the units that are judged, and how the bytes go on after the last.
abbrev pub Splits : ℕ → List ℕ → List NalUnit → Tail → Type 0
Splits at bytes [] tail = HasTail at bytes tail
Splits at bytes (unit ∷ units) tail = (rest : List ℕ) × Next at bytes unit rest × Splits (past unit) rest units tail

-- what such a tail breaks, or the feature that stands there
abbrev pub tail_stop : Tail → Option Stop
tail_stop Zeros = None
tail_stop (Stray place) = Some (No (8 * place) ByteStream)
tail_stop (Bare place) = Some (No (8 * place) EmptyUnit)
tail_stop (Long place) = Some (Outside (8 * place) UnitTooLong)
tail_stop Cut = Some (Outside (8 * input_limit) InputTooLong)

-- the same units of the same bytes
pub record SameUnits (units others : List NalUnit) (tail other : Tail) : Type 0 where
  pub units_are : units ≡ others
  pub tail_is : tail ≡ other

-- The bytes are a byte stream up to some place, with these units, and no more of them are one.
pub record IsLongest (at : ℕ) (bytes : List ℕ) (units : List NalUnit) : Type 0 where
  pub front : List ℕ
  pub rest : List ℕ
  pub whole : bytes ≡ front ++ rest
  pub stream : IsByteStream at front units
  pub longest : (longer left : List ℕ) (others : List NalUnit) → bytes ≡ longer ++ left → length front < length longer → IsByteStream at longer others → ⊥

-- a byte that may not stand there, or a start code without a unit
abbrev pub IsFault : Tail → Type 0
IsFault Zeros = ⊥
IsFault (Stray place) = Unit {0}
IsFault (Bare place) = Unit {0}
IsFault (Long place) = ⊥
IsFault Cut = ⊥
