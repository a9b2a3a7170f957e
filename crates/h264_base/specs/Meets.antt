-- What a function that reads a syntax structure does. A working form.
use Rattle.std.specs.Prelude.{◌≡◌, ℕ, ◌+◌, List, map, Result, Ok, Err, Bool, IsTrue, IsFalse}
use Rattle.h264_base.specs.declared.rule.Rule.{Rule}
use Rattle.h264_base.specs.declared.stop.Stop.{Stop}
use Rattle.h264_base.specs.declared.stop.Stop.TheVariants.{No, Outside, Memory, Read, Write}
use Rattle.h264_base.specs.Call.{Call, SinkSpan, IsQuiet, Tells, TellsFront}
use Rattle.h264_base.specs.Body.{Body}
use Rattle.h264_base.specs.Grammar.{Grammar, Element, Says, Derives, Breaks, MayStop}
use Rattle.h264_base.specs.Run.{run, call_of}

-- a body, and the bit that is read next
pub record Reader : Type 0 where
  pub body : Body
  pub at : ℕ

-- what a sink is told of the elements that a structure reads from bit i on
abbrev pub calls_from : {A : Type 0} → Grammar A → Body → ℕ → List Call
calls_from g body i = map (call_of body) (run g body i).elements

-- what the code gives is, seen so, what the structure gives
abbrev pub Is : {X A : Type 0} → (X → A) → X → A → Type 0
Is view x v = v ≡ view x

abbrev pub MeetsBy : {X A S : Type 0} → SinkSpan S Call → (X → A → Type 0) → Grammar A → Reader → ℕ → Result X Stop → Type 0
MeetsBy {A = A} w R g old j (Ok x) =
    (v : A) × R x v × ((run g old.body old.at).answer ≡ Ok (v, j)) × Tells w.took w.old w.new (calls_from g old.body old.at) × IsQuiet w.failures w.old w.new
MeetsBy w R g old j (Err Write) = TellsFront w.took w.old w.new (calls_from g old.body old.at) × (w.failures w.new ≡ w.failures w.old + 1)
MeetsBy w R g old j (Err e) =
    ((run g old.body old.at).answer ≡ Err e) × Tells w.took w.old w.new (calls_from g old.body old.at) × IsQuiet w.failures w.old w.new

-- It read the structure and told the sink each element, or it stopped at the first broken rule or at the first feature, or the sink failed.
pub record Meets {X A S : Type 0} (w : SinkSpan S Call) (R : X → A → Type 0) (g : Grammar A) (old new : Reader) (result : Result X Stop) : Type 0 where
  pub meets : MeetsBy w R g old new.at result
  pub same : new.body ≡ old.body

-- a check was made: it holds, or this rule is named at this bit
abbrev pub ChecksBy : Rule → ℕ → Bool → Result (Unit {0}) Stop → Type 0
ChecksBy rule bit holds (Ok x) = IsTrue holds
ChecksBy rule bit holds (Err e) = IsFalse holds × (e ≡ No bit rule)

pub record Checks (rule : Rule) (bit : ℕ) (holds : Bool) (result : Result (Unit {0}) Stop) : Type 0 where
  pub checks : ChecksBy rule bit holds result

abbrev pub AnswersBy : {X A S : Type 0} → SinkSpan S Call → (X → A → Type 0) → Grammar A → Reader → ℕ → Result X Stop → Type 0
AnswersBy {A = A} w R g old j (Ok x) =
    (es : List Element) × (v : A) × R x v × Derives g old.body old.at es j v × Tells w.took w.old w.new (map (call_of old.body) es)
    × IsQuiet w.failures w.old w.new
AnswersBy w R g old j (Err (No bit rule)) =
    (es : List Element) × Breaks g old.body old.at es rule bit × Tells w.took w.old w.new (map (call_of old.body) es) × IsQuiet w.failures w.old w.new
AnswersBy w R g old j (Err (Outside bit feature)) =
    (es : List Element) × MayStop g old.body old.at es feature bit × Tells w.took w.old w.new (map (call_of old.body) es) × IsQuiet w.failures w.old w.new
AnswersBy {A = A} w R g old j (Err Write) =
    (es : List Element) × (a : Result (A × ℕ) Stop) × Says g old.body old.at es a × TellsFront w.took w.old w.new (map (call_of old.body) es)
    × (w.failures w.new ≡ w.failures w.old + 1)
AnswersBy w R g old j (Err Memory) = ⊥
AnswersBy w R g old j (Err Read) = ⊥

-- An Ok is a derivation and its value. A No is the first broken rule and an Outside the first feature, with the elements before it. The sink was told
-- each element. A Write comes only where the sink failed, and it was told the first elements.
abbrev pub Answers : {X A S : Type 0} → SinkSpan S Call → (X → A → Type 0) → Grammar A → Reader → Reader → Result X Stop → Type 0
Answers w R g old new result = AnswersBy w R g old new.at result
