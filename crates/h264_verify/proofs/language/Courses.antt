-- Courses, as a relation and as outcomes, and one after another.
use Rattle.std.proofs.Common.{◌≡◌, ℕ, inl, inr, Bool, true, false, IsTrue, IsFalse, List, [], ◌∷◌, ◌++◌, Result, Ok, Err, refl, ap, sym, ◌∙◌}
use Rattle.std.proofs.Common.{append_assoc, subst}
use Rattle.std.proofs.Common.{if◌then◌else◌}
use Rattle.std.proofs.lemmas.List.{append-nil}
use Rattle.h264_base.specs.declared.stop.Stop.{Stop}
use Rattle.h264_base.specs.declared.stop.Stop.TheVariants.{No}
use Rattle.h264_verify.specs.Telling.{Told}
use Rattle.h264_base.specs.Body.{Body}
use Rattle.h264_base.specs.Grammar.{Grammar, Element, Says}
use Rattle.h264_base.specs.Run.{Run, run}
use Rattle.h264_base.proofs.OneAnswer.{run-says, run-one}
use Rattle.h264_verify.specs.Content.{Content}
use Rattle.h264_verify.specs.Outcome.{Outcome, ◌>>=◌, with_calls, continued, answers, gives}
use Rattle.h264_verify.specs.Demands.{Demand, judged}
use Rattle.h264_verify.specs.Course.{Course, Ends, Needs, Tells, Reads, ◌>>=◌ as ◌then◌, needs, told, Runs}
use Rattle.h264_verify.specs.CourseOutcome.{structure_from, outcome_of}

choice-met : {A : Type 0} (b : Bool) (x y : A) → IsTrue b → (if b then x else y) ≡ x
choice-met true x y h = refl
choice-met false x y h = cc

choice-unmet : {A : Type 0} (b : Bool) (x y : A) → IsFalse b → (if b then x else y) ≡ y
choice-unmet true x y h = cc
choice-unmet false x y h = refl

-- an outcome by its parts
abbrev pub outcome : {A : Type 0} → List Told → Result A Stop → Outcome A
outcome calls answer = record { calls = calls; answer = answer }

-- a part that is answered, and then the rest; a part that stops
pub bound : {A B : Type 0} (o : Outcome A) (next : A → Outcome B) (calls : List Told) (x : A) (later : Outcome B) → o ≡ outcome calls (Ok x) →
    next x ≡ later → (o >>= next) ≡ with_calls calls later
unfolding ◌>>=◌
bound o next calls x later e h = ap (λ q. q >>= next) e ∙ ap (λ q. with_calls calls q) h

pub bind-stop : {A B : Type 0} (o : Outcome A) (next : A → Outcome B) (calls : List Told) (stop : Stop) → o ≡ outcome calls (Err stop) →
    (o >>= next) ≡ outcome calls (Err stop)
unfolding ◌>>=◌
bind-stop o next calls stop e = ap (λ q. q >>= next) e

structure-is : {A : Type 0} (g : Grammar A) (body : Body) (bit : ℕ) (es : List Element) (a : Result (A × ℕ) Stop) → Says g body bit es a →
    structure_from g body bit ≡ outcome (told body es) a
structure-is {A} g body bit es a says = ap (λ (r : Run A). outcome (told body r.elements) r.answer) (run-one g body bit es a says)

-- What the relation says of a course is what comes of it,
pub runs-outcome : {A : Type 0} (c : Course A) (calls : List Told) (answer : Result A Stop) → Runs c calls answer → outcome_of c ≡ outcome calls answer
runs-outcome (Ends x) calls answer h = rw (h.0, h.1) refl
runs-outcome (Needs d c) calls answer (inl h) = choice-met d.met _ _ h.0 ∙ runs-outcome c calls answer h.1
runs-outcome (Needs d c) calls answer (inr h) = choice-unmet d.met _ _ h.0 ∙ rw (h.1, h.2) refl
runs-outcome {A} (Tells t c) calls answer h =
    ap (λ (o : Outcome A). with_calls (t ∷ []) o) (runs-outcome c h.0 answer h.2) ∙ ap (λ l. outcome l answer) (sym h.1)
runs-outcome (Reads body bit g next) calls answer (inl h) =
    bound (structure_from g body bit) _ (told body h.0) (h.1, h.2) (outcome h.3 answer) (structure-is g body bit h.0 (Ok (h.1, h.2)) h.4)
    (runs-outcome (next h.1 h.2) h.3 answer h.5) ∙ ap (λ l. outcome l answer) (sym h.6)
runs-outcome (Reads body bit g next) calls answer (inr h) =
    bind-stop (structure_from g body bit) _ (told body h.0) h.1 (structure-is g body bit h.0 (Err h.1) h.2) ∙ rw (h.3, h.4) refl

-- and what comes of it the relation says.
abbrev RunsAs : {A : Type 0} → Course A → Outcome A → Type 0
RunsAs c o = Runs c o.calls o.answer

need-runs : {A : Type 0} (d : Demand) (c : Course A) (o : Outcome A) (b : Bool) → d.met ≡ b → RunsAs c o →
    RunsAs (Needs d c) (if b then o else answers (Err (No d.bit d.rule)))
need-runs d c o true e h = inl (e, h)
need-runs d c o false e h = inr (e, refl, refl)

read-runs : {A : Type 0} (body : Body) (bit : ℕ) (g : Grammar Content) (next : Content → ℕ → Course A) (es : List Element) (a : Result (Content × ℕ) Stop) →
    Says g body bit es a → ((x : Content) (end : ℕ) → RunsAs (next x end) (outcome_of (next x end))) →
    RunsAs (Reads body bit g next) (continued (told body es) (λ x. outcome_of (next x.0 x.1)) a)
read-runs body bit g next es (Ok x) s k = inl (es, x.0, x.1, (outcome_of (next x.0 x.1)).calls, s, k x.0 x.1, refl)
read-runs body bit g next es (Err stop) s k = inr (es, stop, s, refl, refl)

pub outcome-runs : {A : Type 0} (c : Course A) → RunsAs c (outcome_of c)
unfolding ◌>>=◌
outcome-runs (Ends x) = (refl, refl)
outcome-runs (Needs d c) = need-runs d c (outcome_of c) d.met refl (outcome-runs c)
outcome-runs (Tells t c) = ((outcome_of c).calls, refl, outcome-runs c)
outcome-runs (Reads body bit g next) =
    read-runs body bit g next (run g body bit).elements (run g body bit).answer (run-says g body bit) (λ x end. outcome-runs (next x end))

pub runs-as : {A : Type 0} (c : Course A) (calls : List Told) (answer : Result A Stop) → outcome_of c ≡ outcome calls answer → Runs c calls answer
runs-as c calls answer e = subst (λ o. RunsAs c o) e (outcome-runs c)

-- ---- one course after another

bind-calls : {A B : Type 0} (calls : List Told) (o : Outcome A) (g : A → Outcome B) → (with_calls calls o >>= g) ≡ with_calls calls (o >>= g)
unfolding ◌>>=◌
bind-calls {A} {B} calls o g = by o.calls o.answer
  where
    by : (later : List Told) (a : Result A Stop) → continued (calls ++ later) g a ≡ with_calls calls (continued later g a)
    by later (Ok y) = ap (λ (l : List Told). outcome l (g y).answer) (append_assoc calls later (g y).calls)
    by later (Err e) = refl

pub bind-assoc : {A B C : Type 0} (o : Outcome A) (f : A → Outcome B) (g : B → Outcome C) → ((o >>= f) >>= g) ≡ (o >>= λ x. f x >>= g)
unfolding ◌>>=◌
bind-assoc {A} {B} {C} o f g = by o.answer
  where
    by : (a : Result A Stop) → (continued o.calls f a >>= g) ≡ continued o.calls (λ x. f x >>= g) a
    by (Ok x) = bind-calls o.calls (f x) g
    by (Err e) = refl

pub gives-same : {A : Type 0} (o : Outcome A) → (o >>= gives) ≡ o
unfolding ◌>>=◌
gives-same {A} o = by o.answer
  where
    by : (a : Result A Stop) → continued o.calls gives a ≡ record { calls = o.calls; answer = a }
    by (Ok x) = ap (λ (l : List Told). outcome l (Ok x)) (append-nil o.calls)
    by (Err e) = refl

need-bind : {A B : Type 0} (d : Demand) (b : Bool) (o : Outcome B) (p : Outcome A) (f : A → Outcome B) → o ≡ (p >>= f) →
    (if b then o else answers (Err (No d.bit d.rule))) ≡ ((if b then p else answers (Err (No d.bit d.rule))) >>= f)
unfolding ◌>>=◌
need-bind d true o p f h = h
need-bind d false o p f h = refl

read-bind : {X A B : Type 0} (calls : List Told) (a : Result X Stop) (o : X → Outcome B) (p : X → Outcome A) (f : A → Outcome B) →
    ((x : X) → o x ≡ (p x >>= f)) → continued calls o a ≡ (continued calls p a >>= f)
unfolding ◌>>=◌
read-bind {B} calls (Ok x) o p f h = ap (λ (q : Outcome B). with_calls calls q) (h x) ∙ sym (bind-calls calls (p x) f)
read-bind calls (Err e) o p f h = refl

pub course-bind : {A B : Type 0} (c : Course A) (f : A → Course B) → outcome_of (◌then◌ c f) ≡ (outcome_of c >>= λ x. outcome_of (f x))
unfolding ◌>>=◌ ◌then◌
course-bind (Ends x) f = refl
course-bind (Needs d c) f = need-bind d d.met (outcome_of (◌then◌ c f)) (outcome_of c) (λ x. outcome_of (f x)) (course-bind c f)
course-bind {B} (Tells t c) f = ap (λ (o : Outcome B). with_calls (t ∷ []) o) (course-bind c f) ∙ sym (bind-calls (t ∷ []) (outcome_of c) _)
course-bind (Reads body bit g next) f =
    read-bind (told body (run g body bit).elements) (run g body bit).answer (λ x. outcome_of (◌then◌ (next x.0 x.1) f)) (λ x. outcome_of (next x.0 x.1))
    (λ x. outcome_of (f x)) (λ x. course-bind (next x.0 x.1) f)

pub course-parts : {P A B : Type 0} (part : Course P) (next : P → Course A) (join : A → Outcome B) →
    (outcome_of (◌then◌ part next) >>= join) ≡ (outcome_of part >>= λ y. outcome_of (next y) >>= join)
course-parts {A} part next join = ap (λ (o : Outcome A). o >>= join) (course-bind part next) ∙ bind-assoc (outcome_of part) (λ y. outcome_of (next y)) join

need-judged : (d : Demand) (b : Bool) (o : Outcome (Unit {0})) (r : Result (Unit {0}) Stop) → o ≡ answers r →
    (if b then o else answers (Err (No d.bit d.rule))) ≡ answers (if b then r else Err (No d.bit d.rule))
need-judged d true o r h = h
need-judged d false o r h = refl

pub needs-judged : (ds : List Demand) → outcome_of (needs ds) ≡ answers (judged ds)
unfolding needs
needs-judged [] = refl
needs-judged (d ∷ ds) = need-judged d d.met (outcome_of (needs ds)) (judged ds) (needs-judged ds)
