-- What comes of a course. A working form.
use Rattle.std.specs.Prelude.{ℕ, [], ◌∷◌, map, Err, if◌then◌else◌}
use Rattle.h264_base.specs.declared.stop.Stop.TheVariants.{No}
use Rattle.h264_base.specs.Body.{Body}
use Rattle.h264_base.specs.Grammar.{Grammar}
use Rattle.h264_base.specs.Run.{run}
use Rattle.h264_verify.specs.Telling.{said_of}
use Rattle.h264_verify.specs.Outcome.{Outcome, ◌>>=◌, with_calls, answers, gives}
use Rattle.h264_verify.specs.Course.{Course, Ends, Needs, Tells, Reads}

-- a syntax structure from a bit on, and the bit after it
abbrev pub structure_from : {A : Type 0} → Grammar A → Body → ℕ → Outcome (A × ℕ)
structure_from g body bit = record { calls = map (said_of body) (run g body bit).elements; answer = (run g body bit).answer }

abbrev pub outcome_of : {A : Type 0} → Course A → Outcome A
outcome_of (Ends x) = gives x
outcome_of (Needs d c) = if d.met then outcome_of c else answers (Err (No d.bit d.rule))
outcome_of (Tells t c) = with_calls (t ∷ []) (outcome_of c)
outcome_of (Reads body bit g next) = structure_from g body bit >>= λ x. outcome_of (next x.0 x.1)
