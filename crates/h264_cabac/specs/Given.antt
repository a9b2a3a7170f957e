-- What the functions of this crate give: a bin, a number or a value, with what stands after it, or that there is none. To be read beside the standard.
use Rattle.std.specs.Prelude.{◌≡◌, ℕ, Bool, Option, Some, None, Result, Ok, Err}
use Rattle.h264_bits.specs.declared.bits.NoWord.{NoWord}
use Rattle.h264_cabac.specs.declared.context.Context.{Context}
use Rattle.h264_cabac.specs.Bins.{Bins, DecoderState, Step, decoded}
use Rattle.h264_cabac.specs.Engine.{EngineState, ContextState, Decoded, Decision}

-- the state of a context
abbrev pub state_of : Context → ContextState
state_of c = record { p_state_idx = c.p_state_idx; val_mps = c.val_mps }

-- a bin with the engine after it, or that the bits end before
abbrev pub GivesBin : Option Decoded → EngineState → Result Bool NoWord → Type 0
GivesBin step new (Ok b) = step ≡ Some (record { bin = b; engine = new })
GivesBin step new (Err e) = step ≡ None

-- a number with the engine after it, or that the bits end before
abbrev pub GivesNumber : Option (ℕ × EngineState) → EngineState → Result ℕ NoWord → Type 0
GivesNumber step new (Ok n) = step ≡ Some (n, new)
GivesNumber step new (Err e) = step ≡ None

-- the same as of a bin, with the context after it
abbrev pub GivesDecision : Option Decision → ContextState → EngineState → Result Bool NoWord → Type 0
GivesDecision step context new (Ok b) = step ≡ Some (record { bin = b; context = context; engine = new })
GivesDecision step context new (Err e) = step ≡ None

-- a bin with the decoder after it
abbrev pub GivesStep : Option Step → DecoderState → Result Bool NoWord → Type 0
GivesStep step new (Ok b) = step ≡ Some (record { bin = b; decoder = new })
GivesStep step new (Err e) = step ≡ None

-- an element's value with the decoder after it, or that there is none
abbrev pub Gives : {A : Type 0} → Bins A → DecoderState → DecoderState → Result A NoWord → Type 0
Gives tree old new (Ok v) = decoded tree old ≡ Some (v, new)
Gives tree old new (Err e) = decoded tree old ≡ None
