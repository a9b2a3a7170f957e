-- Syntax elements as trees of bins, and what they mean (9.3.2, 9.3.3.1). To be read beside the standard.
use Rattle.std.specs.Prelude.{◌≡◌, ℕ, Bool, List, [], ◌∷◌, Option, Some, None, slice_get, slice_set}
use Rattle.std.specs.Option.{option_map, option_and_then}
use Rattle.h264_cabac.specs.Engine.{EngineState, ContextState, Decoded, Decision, decision, bypass, terminate}

-- How an element is binarized, and which context each of its bins has.
pub data Bins (A : Type 0) : Type 0 where
  -- the bins so far are a bin string of this value
  Value : A → Bins A
  -- no bin string begins with the bins so far
  NoValue : Bins A
  -- a bin that is decoded with the context of this ctxIdx
  Regular : ℕ → (Bool → Bins A) → Bins A
  -- a bin that is decoded by bypass
  Bypass : (Bool → Bins A) → Bins A
  -- a bin before a termination
  Terminate : (Bool → Bins A) → Bins A

infixl 10 ◌>>=◌
abbrev pub ◌>>=◌ : {A B : Type 0} → Bins A → (A → Bins B) → Bins B
(Value x) >>= f = f x
NoValue >>= f = NoValue
(Regular index k) >>= f = Regular index (λ b. k b >>= f)
(Bypass k) >>= f = Bypass (λ b. k b >>= f)
(Terminate k) >>= f = Terminate (λ b. k b >>= f)

-- one bin
abbrev pub regular : ℕ → Bins Bool
regular index = Regular index Value

abbrev pub bypassed : Bins Bool
bypassed = Bypass Value

abbrev pub terminating : Bins Bool
terminating = Terminate Value

-- The bins are a bin string of this value.
abbrev pub Spells : {A : Type 0} → Bins A → List Bool → A → Type 0
Spells (Value x) bins v = (bins ≡ []) × (v ≡ x)
Spells NoValue bins v = ⊥
Spells (Regular index k) [] v = ⊥
Spells (Regular index k) (b ∷ bins) v = Spells (k b) bins v
Spells (Bypass k) [] v = ⊥
Spells (Bypass k) (b ∷ bins) v = Spells (k b) bins v
Spells (Terminate k) [] v = ⊥
Spells (Terminate k) (b ∷ bins) v = Spells (k b) bins v

-- the engine, and the contexts by ctxIdx
pub record DecoderState : Type 0 where
  pub engine : EngineState
  pub contexts : List ContextState

-- a bin, and the decoder after it
pub record Step : Type 0 where
  pub bin : Bool
  pub decoder : DecoderState

-- a bin with the context of this ctxIdx, which is changed
abbrev pub with_context : DecoderState → ℕ → Decision → Step
with_context d index s = record { bin = s.bin; decoder = record { engine = s.engine; contexts = slice_set d.contexts index s.context } }

unfoldable pub regular_step : ℕ → DecoderState → Option Step
regular_step index d = option_and_then (λ c. option_map (with_context d index) (decision c d.engine)) (slice_get d.contexts index)

-- a bin without a context
abbrev pub without_context : DecoderState → Decoded → Step
without_context d s = record { bin = s.bin; decoder = record { engine = s.engine; contexts = d.contexts } }

unfoldable pub bypass_step : DecoderState → Option Step
bypass_step d = option_map (without_context d) (bypass d.engine)

unfoldable pub terminate_step : DecoderState → Option Step
terminate_step d = option_map (without_context d) (terminate d.engine)

-- The value whose bins were decoded one after another, and the decoder after them. There is none where the bits end, or no bin string begins so.
abbrev pub decoded : {A : Type 0} → Bins A → DecoderState → Option (A × DecoderState)
decoded (Value x) d = Some (x, d)
decoded NoValue d = None
decoded (Regular index k) d = option_and_then (λ s. decoded (k s.bin) s.decoder) (regular_step index d)
decoded (Bypass k) d = option_and_then (λ s. decoded (k s.bin) s.decoder) (bypass_step d)
decoded (Terminate k) d = option_and_then (λ s. decoded (k s.bin) s.decoder) (terminate_step d)

-- These bins were decoded one after another, each with the context that the tree names, and led to this decoder.
abbrev pub Takes : {A : Type 0} → Bins A → DecoderState → List Bool → DecoderState → Type 0
Takes (Value x) d bins e = (bins ≡ []) × (e ≡ d)
Takes NoValue d bins e = ⊥
Takes (Regular index k) d [] e = ⊥
Takes (Regular index k) d (b ∷ bins) e = (s : DecoderState) × (regular_step index d ≡ Some (record { bin = b; decoder = s })) × Takes (k b) s bins e
Takes (Bypass k) d [] e = ⊥
Takes (Bypass k) d (b ∷ bins) e = (s : DecoderState) × (bypass_step d ≡ Some (record { bin = b; decoder = s })) × Takes (k b) s bins e
Takes (Terminate k) d [] e = ⊥
Takes (Terminate k) d (b ∷ bins) e = (s : DecoderState) × (terminate_step d ≡ Some (record { bin = b; decoder = s })) × Takes (k b) s bins e
