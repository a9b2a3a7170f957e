-- What was read, seen in another way.
use Rattle.std.proofs.Common.{◌≡◌, ℕ, List, Ok, Err, ◌∙◌}
use Rattle.h264_base.specs.declared.stop.Stop.{Stop}
use Rattle.h264_base.specs.declared.stop.Stop.TheVariants.{No, Outside, Memory, Read, Write}
use Rattle.h264_base.specs.Body.{Body}
use Rattle.h264_base.specs.Call.{Call, span}
use Rattle.h264_base.specs.Grammar.{Grammar}
use Rattle.h264_base.specs.Meets.{Reader, Meets, MeetsBy, Is}

refused-by : {X Y A S : Type 0} (took : S → List Call → Type 0) (failures : S → ℕ) (R : X → A → Type 0) (R' : Y → A → Type 0) (g : Grammar A) (body : Body)
    (i j : ℕ) (s s' : S) (e : Stop) →
    MeetsBy {X = X} (span took failures s s') R g (record { body = body; at = i }) j (Err e) →
    MeetsBy {X = Y} (span took failures s s') R' g (record { body = body; at = i }) j (Err e)
refused-by took failures R R' g body i j s s' (No bit rule) m = m
refused-by took failures R R' g body i j s s' (Outside bit feature) m = m
refused-by took failures R R' g body i j s s' Memory m = m
refused-by took failures R R' g body i j s s' Read m = m
refused-by took failures R R' g body i j s s' Write m = m

-- a stop says nothing of a value
pub refused-as : {X Y A S : Type 0} {took : S → List Call → Type 0} {failures : S → ℕ} {R : X → A → Type 0} {R' : Y → A → Type 0} {g : Grammar A}
    {old new : Reader} {s s' : S} {e : Stop} →
    Meets {X = X} (span took failures s s') R g old new (Err e) → Meets {X = Y} (span took failures s s') R' g old new (Err e)
refused-as {X} {Y} {A} {S} {took} {failures} {R} {R'} {g} {old} {new} {s} {s'} {e} m = record {
  meets = refused-by took failures R R' g old.body old.at new.at s s' e m.meets;
  same = m.same;
}

-- the same value, seen by another function
pub given-as : {X Y A S : Type 0} {took : S → List Call → Type 0} {failures : S → ℕ} {view : X → A} {view' : Y → A} {g : Grammar A} {old new : Reader}
    {s s' : S} {x : X} {y : Y} →
    Meets (span took failures s s') (Is view) g old new (Ok x) → view x ≡ view' y → Meets (span took failures s s') (Is view') g old new (Ok y)
given-as m e = record { meets = (m.meets.0, m.meets.1 ∙ e, m.meets.2, m.meets.3, m.meets.4); same = m.same }
