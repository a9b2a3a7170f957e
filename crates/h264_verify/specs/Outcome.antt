-- What a sink is told, and what is answered. A working form.
use Rattle.std.specs.Prelude.{◌≡◌, ◌+◌, List, [], ◌∷◌, ◌++◌, Result, Ok, Err}
use Rattle.h264_base.specs.declared.stop.Stop.{Stop}
use Rattle.h264_base.specs.declared.stop.Stop.TheVariants.{No, Outside, Memory, Read, Write}
use Rattle.h264_base.specs.Call.{SinkSpan}
use Rattle.h264_verify.specs.Telling.{Told, Tells, TellsFront}

pub record Outcome (A : Type 0) : Type 0 where
  pub calls : List Told
  pub answer : Result A Stop

-- what is told first, and then an outcome
abbrev pub with_calls : {A : Type 0} → List Told → Outcome A → Outcome A
with_calls calls o = record { calls = calls ++ o.calls; answer = o.answer }

abbrev pub continued : {A B : Type 0} → List Told → (A → Outcome B) → Result A Stop → Outcome B
continued calls next (Ok x) = with_calls calls (next x)
continued calls next (Err stop) = record { calls = calls; answer = Err stop }

infixl 10 ◌>>=◌
unfoldable pub ◌>>=◌ : {A B : Type 0} → Outcome A → (A → Outcome B) → Outcome B
o >>= next = continued o.calls next o.answer

abbrev pub answers : {A : Type 0} → Result A Stop → Outcome A
answers answer = record { calls = []; answer = answer }

abbrev pub gives : {A : Type 0} → A → Outcome A
gives x = answers (Ok x)

abbrev pub tells : Told → Outcome (Unit {0})
tells call = record { calls = call ∷ []; answer = Ok tt }

-- the stop names a rule or a feature
abbrev pub IsNamed : Stop → Type 0
IsNamed (No bit rule) = Unit {0}
IsNamed (Outside bit feature) = Unit {0}
IsNamed Memory = ⊥
IsNamed Read = ⊥
IsNamed Write = ⊥

-- The sink was told this, and this was answered; or the sink failed, or memory was refused, with only the first calls made.
abbrev pub PlaysBy : {X A S : Type 0} → SinkSpan S Told → (X → A) → Outcome A → Result X Stop → Type 0
PlaysBy w view o (Ok x) = (o.answer ≡ Ok (view x)) × Tells w.took w.old w.new o.calls × (w.failures w.new ≡ w.failures w.old)
PlaysBy w view o (Err Write) = TellsFront w.took w.old w.new o.calls × (w.failures w.new ≡ w.failures w.old + 1)
PlaysBy w view o (Err Memory) = TellsFront w.took w.old w.new o.calls × (w.failures w.new ≡ w.failures w.old)
PlaysBy w view o (Err Read) = ⊥
PlaysBy w view o (Err (No bit rule)) = (o.answer ≡ Err (No bit rule)) × Tells w.took w.old w.new o.calls × (w.failures w.new ≡ w.failures w.old)
PlaysBy w view o (Err (Outside bit feature)) =
    (o.answer ≡ Err (Outside bit feature)) × Tells w.took w.old w.new o.calls × (w.failures w.new ≡ w.failures w.old)

pub record Plays {X A S : Type 0} (w : SinkSpan S Told) (view : X → A) (o : Outcome A) (result : Result X Stop) : Type 0 where
  pub plays : PlaysBy w view o result
