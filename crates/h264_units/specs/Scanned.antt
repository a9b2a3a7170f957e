-- What a splitter keeps, and what the scan of a piece finds. A working form.
use Rattle.std.specs.Prelude.{◌≡◌, ℕ, zero, suc, ◌+◌, ◌-◌, ◌<◌, ◌≤◌, Bool, true, false, List, [], ◌∷◌, ◌++◌, length, take, drop, replicate, Option, Some, None}
use Rattle.h264_base.specs.declared.stop.Stop.{Stop}
use Rattle.h264_units.specs.Stream.{IsInner, IsBody, started, unit_limit, input_limit}
use Rattle.h264_units.specs.declared.scan.Phase.{Phase}
use Rattle.h264_units.specs.declared.scan.Phase.TheVariants.{Between, Inside, Waiting, Last, Over}
use Rattle.h264_units.specs.declared.plan.Plan.{Plan}

-- the third byte that ended a unit
abbrev pub third : Bool → ℕ
third true = 1
third false = 0

-- the bytes after those that are surely the unit's
abbrev pub ending : Phase → List ℕ
ending Between = []
ending (Inside zeros) = replicate zeros 0
ending (Waiting code) = 0 ∷ 0 ∷ third code ∷ []
ending (Last zeros) = replicate zeros 0
ending Over = []

-- the bytes since the last unit taken
abbrev pub rest_of : Phase → ℕ → List ℕ → List ℕ
rest_of Between lead body = replicate lead 0
rest_of (Inside zeros) lead body = started lead (body ++ replicate zeros 0)
rest_of (Waiting code) lead body = started lead (body ++ 0 ∷ 0 ∷ third code ∷ [])
rest_of (Last zeros) lead body = started lead (body ++ replicate zeros 0)
rest_of Over lead body = replicate lead 0

abbrev pub IsSound : Phase → List ℕ → Type 0
IsSound Between body = body ≡ []
IsSound (Inside zeros) body = (zeros < 3) × IsInner body × (length body ≤ unit_limit)
IsSound (Waiting code) body = IsBody body × (length body ≤ unit_limit)
IsSound (Last zeros) body = (zeros < 3) × IsBody body × (length body ≤ unit_limit)
IsSound Over body = body ≡ []

abbrev pub IsKept : Phase → ℕ → ℕ → List ℕ → Type 0
IsKept phase at lead body = IsSound phase body × (at + length (rest_of phase lead body) ≤ input_limit)

abbrev pub waits : Phase → Bool
waits Between = false
waits (Inside zeros) = false
waits (Waiting code) = true
waits (Last zeros) = true
waits Over = false

abbrev pub has_ended : Phase → Bool
has_ended Between = false
has_ended (Inside zeros) = false
has_ended (Waiting code) = false
has_ended (Last zeros) = true
has_ended Over = true

-- bytes are taken
abbrev pub is_open : Phase → Bool
is_open Between = true
is_open (Inside zeros) = true
is_open (Waiting code) = false
is_open (Last zeros) = false
is_open Over = false

abbrev pub IsOpen : Phase → Type 0
IsOpen Between = Unit {0}
IsOpen (Inside zeros) = Unit {0}
IsOpen (Waiting code) = ⊥
IsOpen (Last zeros) = ⊥
IsOpen Over = ⊥

-- a stop leaves the bytes before it as they are
abbrev pub IsLive : Option Stop → Phase → Type 0
IsLive None phase = Unit {0}
IsLive (Some stop) phase = IsOpen phase

-- the input has not ended
abbrev pub IsRunning : Phase → Type 0
IsRunning Between = Unit {0}
IsRunning (Inside zeros) = Unit {0}
IsRunning (Waiting code) = Unit {0}
IsRunning (Last zeros) = ⊥
IsRunning Over = ⊥

-- how a scan of a unit's bytes ends: after the unit, or with some zeros held back
abbrev pub IsInUnit : Phase → Type 0
IsInUnit Between = ⊥
IsInUnit (Inside zeros) = zeros < 3
IsInUnit (Waiting code) = Unit {0}
IsInUnit (Last zeros) = ⊥
IsInUnit Over = ⊥

-- of n bytes scanned, how many are the unit's
abbrev pub kept_of : ℕ → Phase → ℕ
kept_of n Between = 0
kept_of n (Inside zeros) = n - zeros
kept_of n (Waiting code) = n - 3
kept_of n (Last zeros) = 0
kept_of n Over = 0

-- what a body gains: the zeros held back before a piece belong to it once a byte of the piece does
abbrev pub gained : ℕ → List ℕ → ℕ → List ℕ
gained held piece zero = []
gained held piece (suc kept) = replicate held 0 ++ take (suc kept) piece

-- so many of the zeros held back
abbrev pub zeros_gained : ℕ → ℕ → ℕ
zeros_gained held zero = 0
zeros_gained held (suc kept) = held

-- n bytes of a piece were scanned, with some zeros held back before it
pub record Scans (held : ℕ) (piece : List ℕ) (n : ℕ) (phase : Phase) : Type 0 where
  pub within : n ≤ length piece
  pub in_unit : IsInUnit phase
  pub whole : gained held piece (kept_of n phase) ++ ending phase ≡ replicate held 0 ++ take n piece
  pub inner : IsInner (gained held piece (kept_of n phase))

-- what a plan adds to the body
abbrev pub added : Plan → List ℕ → List ℕ
added plan piece = replicate plan.zeros 0 ++ take plan.kept (drop plan.start piece)

-- what becomes of a piece
pub record Plans (phase : Phase) (lead : ℕ) (body piece : List ℕ) (plan : Plan) : Type 0 where
  pub within : plan.taken ≤ length piece
  pub adds_within : plan.start + plan.kept ≤ length piece
  pub rest_is : rest_of plan.phase plan.lead (body ++ added plan piece) ≡ rest_of phase lead body ++ take plan.taken piece
  pub sound : IsSound plan.phase (body ++ added plan piece)
  pub runs : IsRunning plan.phase
  pub all : IsOpen plan.phase → plan.taken ≡ length piece
  pub some : ¬ IsOpen plan.phase → 0 < plan.taken
  pub few : plan.zeros < 3
