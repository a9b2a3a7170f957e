-- What a splitter is to its callers, and what its calls do. A working form.
use Rattle.std.specs.Prelude.{◌≡◌, ℕ, ◌+◌, ◌-◌, ◌<◌, ◌≤◌, ◌⊎◌, Bool, false, IsTrue, IsFalse, List, [], ◌++◌, length, take, replicate, Option, Some, None}
use Rattle.h264_base.specs.declared.stop.Stop.{Stop}
use Rattle.h264_base.specs.declared.stop.Stop.TheVariants.{No, Outside, Memory, Read, Write}
use Rattle.h264_units.specs.Stream.{NalUnit, past, input_limit, Next, Tail, Zeros, HasTail, IsUndecided, tail_stop}

-- The bytes pushed since the last unit that was taken, and the place of the first of them; whether a whole unit waits
-- among them, whether the input has ended, and the stop.
pub record Splitting : Type 0 where
  pub at : ℕ
  pub rest : List ℕ
  pub waiting : Bool
  pub ended : Bool
  pub stop : Option Stop

-- before the first byte
abbrev pub at_start : Splitting
at_start = record { at = 0; rest = []; waiting = false; ended = false; stop = None }

-- the same, but stopped
abbrev pub stopped_by : Stop → Splitting → Splitting
stopped_by stop s = record s { stop = Some stop }

-- no byte after the input's limit was taken
abbrev pub IsWithin : Splitting → Type 0
IsWithin s = s.at + length s.rest ≤ input_limit

-- However these bytes go on, no unit follows, and their tail leads to this stop.
pub record Refused (at : ℕ) (bytes : List ℕ) (stop : Stop) : Type 0 where
  pub tail : Tail
  pub stop_is : tail_stop tail ≡ Some stop
  pub stands : (more : List ℕ) → HasTail at (bytes ++ more) tail

-- The first n bytes of a piece were taken: all of them, unless a unit waits or the input has ended, and none after those that show that the unit is whole.
pub record Pushed (old new : Splitting) (piece : List ℕ) (n : ℕ) : Type 0 where
  pub within : n ≤ length piece
  pub at_is : new.at ≡ old.at
  pub rest_is : new.rest ≡ old.rest ++ take n piece
  pub all : IsFalse new.waiting → IsFalse new.ended → n ≡ length piece
  -- no whole unit is left
  pub undecided : IsFalse new.waiting → IsUndecided new.rest
  -- no unit was whole before the last of these bytes
  pub least : IsTrue new.waiting → 0 < n → IsUndecided (old.rest ++ take (n - 1) piece)
  pub ended_is : new.ended ≡ old.ended
  pub stop_is : new.stop ≡ None

-- Nothing of the piece is to be taken: a unit waits, the input has ended, or the piece is empty.
abbrev pub TakesNone : Splitting → List ℕ → Type 0
TakesNone old piece = IsTrue old.waiting ⊎ (IsTrue old.ended ⊎ (length piece ≡ 0))

-- some byte is no 00
abbrev pub HasNonZero : List ℕ → Type 0
HasNonZero bytes = (zeros : ℕ) → bytes ≡ replicate zeros 0 → ⊥

-- No byte was taken. After a lack of memory, which comes only where there are bytes other than 00, nothing has changed.
abbrev pub PushStops : Splitting → Splitting → List ℕ → Stop → Type 0
PushStops old new piece Memory = (new ≡ old) × HasNonZero (old.rest ++ piece)
PushStops old new piece (No bit rule) = Refused old.at (old.rest ++ piece) (No bit rule) × (new ≡ stopped_by (No bit rule) old)
PushStops old new piece (Outside bit feature) = Refused old.at (old.rest ++ piece) (Outside bit feature) × (new ≡ stopped_by (Outside bit feature) old)
PushStops old new piece Read = ⊥
PushStops old new piece Write = ⊥

-- The unit was taken: it is the first of the bytes that were left, however the input goes on.
pub record Taken (old new : Splitting) (unit : NalUnit) : Type 0 where
  pub next : Next old.at old.rest unit new.rest
  pub decided : IsFalse old.ended → (more : List ℕ) → Next old.at (old.rest ++ more) unit (new.rest ++ more)
  pub last : IsTrue old.ended → HasTail new.at new.rest Zeros
  pub at_is : new.at ≡ past unit
  pub waits_no_more : IsFalse new.waiting
  -- no whole unit is left
  pub undecided : IsUndecided new.rest
  pub ended_is : new.ended ≡ old.ended
  pub stop_is : new.stop ≡ None

-- No more input comes: a unit that is still open waits now.
pub record Finished (old new : Splitting) : Type 0 where
  pub zeros : IsFalse new.waiting → HasTail old.at old.rest Zeros
  pub at_is : new.at ≡ old.at
  pub rest_is : new.rest ≡ old.rest
  pub ended_is : IsTrue new.ended
  pub stop_is : new.stop ≡ None

-- No more input comes, and the tail of the bytes that are left leads to this stop.
pub record FinishStops (old new : Splitting) (stop : Stop) : Type 0 where
  pub tail : Tail
  pub stop_is : tail_stop tail ≡ Some stop
  pub stands : HasTail old.at old.rest tail
  pub new_is : new ≡ stopped_by stop old
