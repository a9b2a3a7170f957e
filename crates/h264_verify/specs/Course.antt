-- What is judged, one event after another: rules that must be met, what comes to pass, and syntax structures. To be read beside the standard.
use Rattle.std.specs.Prelude.{◌≡◌, ℕ, ◌⊎◌, IsTrue, IsFalse, List, [], ◌∷◌, ◌++◌, map, Result, Ok, Err}
use Rattle.h264_base.specs.declared.stop.Stop.{Stop}
use Rattle.h264_base.specs.declared.stop.Stop.TheVariants.{No}
use Rattle.h264_base.specs.Body.{Body}
use Rattle.h264_base.specs.Grammar.{Grammar, Element, Says}
use Rattle.h264_verify.specs.Telling.{Told, said_of}
use Rattle.h264_verify.specs.Content.{Content}
use Rattle.h264_verify.specs.Demands.{Demand}

pub data Course (A : Type 0) : Type 0 where
  -- its end: this comes of it
  Ends : A → Course A
  -- a rule that must be met, and then the rest
  Needs : Demand → Course A → Course A
  -- this comes to pass, and then the rest
  Tells : Told → Course A → Course A
  -- a syntax structure from this bit of an RBSP on, and then the rest, by what it gives and the bit after it
  Reads : Body → ℕ → Grammar Content → (Content → ℕ → Course A) → Course A

-- one course, and then another, by what comes of the first
infixl 10 ◌>>=◌
unfoldable pub ◌>>=◌ : {A B : Type 0} → Course A → (A → Course B) → Course B
(Ends x) >>= f = f x
(Needs d c) >>= f = Needs d (c >>= f)
(Tells t c) >>= f = Tells t (c >>= f)
(Reads body bit g next) >>= f = Reads body bit g (λ x end. next x end >>= f)

-- rules and what comes to pass, of which nothing more comes
abbrev pub Steps : Type 0
Steps = Course (Unit {0})

abbrev pub nothing : Steps
nothing = Ends tt

-- steps, and then a course
infixr 10 ◌>>◌
abbrev pub ◌>>◌ : {A : Type 0} → Steps → Course A → Course A
steps >> course = steps >>= λ _. course

-- rules alone, in turn
unfoldable pub needs : List Demand → Steps
needs [] = nothing
needs (d ∷ ds) = Needs d (needs ds)

-- all of this comes to pass, in turn
abbrev pub tells : List Told → Steps
tells [] = nothing
tells (t ∷ ts) = Tells t (tells ts)

-- what the sink is told of elements
abbrev pub told : Body → List Element → List Told
told body es = map (said_of body) es

-- This comes to pass in a course, and then it is at its end, or at its first stop.
abbrev pub Runs : {A : Type 0} → Course A → List Told → Result A Stop → Type 0
Runs (Ends x) calls answer = (calls ≡ []) × (answer ≡ Ok x)
Runs (Needs d c) calls answer = (IsTrue d.met × Runs c calls answer) ⊎ (IsFalse d.met × (calls ≡ []) × (answer ≡ Err (No d.bit d.rule)))
Runs (Tells t c) calls answer = (later : List Told) × (calls ≡ t ∷ later) × Runs c later answer
Runs (Reads body bit g next) calls answer =
    ((es : List Element) × (found : Content) × (end : ℕ) × (later : List Told) × Says g body bit es (Ok (found, end))
    × Runs (next found end) later answer × (calls ≡ told body es ++ later))
    ⊎ ((es : List Element) × (stop : Stop) × Says g body bit es (Err stop) × (calls ≡ told body es) × (answer ≡ Err stop))
