-- Structures whose value is seen otherwise, and what the end of a picture tells.
use Rattle.std.proofs.Common.{ℕ, ◌≤◌, ◌==◌, ◌≡◌, Bool, true, false, List, [], ◌∷◌, map, length, Result, Ok, Err, refl, ap, sym, ◌∙◌, subst, arith}
use Rattle.std.proofs.Common.{if◌then◌else◌}
use Rattle.std.proofs.lemmas.List.{append-nil}
use Rattle.h264_verify.specs.declared.state.Depth.{Depth}
use Rattle.h264_verify.specs.declared.state.Depth.TheVariants as depths
use Rattle.h264_base.specs.declared.rule.Rule.TheVariants.{Incomplete}
use Rattle.h264_base.specs.declared.stop.Stop.{Stop}
use Rattle.h264_base.specs.declared.stop.Stop.TheVariants.{No}
use Rattle.h264_verify.specs.Telling.{Told, said_of, AreOf}
use Rattle.h264_base.specs.Body.{Body}
use Rattle.h264_base.specs.Grammar.{Grammar, ◌>>=◌ as ◌bind◌, Done, Element}
use Rattle.h264_base.specs.Run.{Run, run}
use Rattle.h264_base.proofs.Steps.{then_run, run-bind}
use Rattle.h264_verify.specs.Outcome.{Outcome, ◌>>=◌, continued, answers, gives, Plays}
use Rattle.h264_verify.specs.Demands.{Demand}
use Rattle.h264_verify.specs.Course.{Course, Steps, nothing, ◌>>◌, needs}
use Rattle.h264_verify.specs.CourseOutcome.{structure_from, outcome_of}
use Rattle.h264_verify.specs.History.{History}
use Rattle.h264_verify.specs.Pictures.{CodedPicture, last_slice, picture_size, bit_after, goes_on as may_go_on, runs_of, ended_pictures}
use Rattle.h264_verify.specs.Order.{closing_demands, whole_picture, whole_steps, close_if, end_steps}
use Rattle.h264_verify.specs.Buffering.{closing_frames}
use Rattle.h264_verify.proofs.language.Courses.{outcome, course-bind, needs-judged}
use Rattle.h264_verify.proofs.samples.FamiliesAgree.{of-both}
use Rattle.h264_verify.proofs.laws.ToldInOrder.{closing-of}
use Rattle.h264_verify.proofs.language.OutcomesPlayed.{gives-plays}
use Rattle.h264_verify.proofs.language.Played.{ComesTo, starts, last-ends}
use Rattle.h264_base.specs.Call.{span}
use Rattle.h264_base.specs.declared.summary.Summary.{Summary}
use Rattle.h264_verify.specs.Units.{summary_of}
use Rattle.h264_verify.specs.UnitOutcome.{end_outcome}

-- a structure whose value is seen otherwise
abbrev pub seen : {A B : Type 0} → (A → B) → Result (A × ℕ) Stop → Result (B × ℕ) Stop
seen f (Ok x) = Ok (f x.0, x.1)
seen f (Err e) = Err e

module _ {A B : Type 0} (body : Body) (f : A → B) where
  as-seen : (es : List Element) (a : Result (A × ℕ) Stop) →
      (let r : Run B = then_run (record { elements = es; answer = a }) (λ x j. run (Done (f x)) body j) in
      outcome (map (said_of body) r.elements) r.answer ≡ outcome (map (said_of body) es) (seen f a))
  unfolding run
  as-seen es (Ok x) = ap (λ (l : List Element). outcome (map (said_of body) l) (let r : Result (B × ℕ) Stop = Ok (f x.0, x.1) in r)) (append-nil es)
  as-seen es (Err e) = refl

  pub structure-seen : (g : Grammar A) (i : ℕ) → structure_from (◌bind◌ g (λ x. Done (f x))) body i ≡
      outcome (structure_from g body i).calls (seen f (structure_from g body i).answer)
  structure-seen g i = ap (λ (r : Run B). outcome (map (said_of body) r.elements) r.answer) (run-bind g (λ x. Done (f x)) body i) ∙
      as-seen (run g body i).elements (run g body i).answer

-- no fewer pictures have ended once the newest has
pub ended-grows : (on ends : Bool) (pictures : List CodedPicture) → length (ended_pictures on false pictures) ≤ length (ended_pictures on ends pictures)
ended-grows on ends [] = omega arith
ended-grows true true (p ∷ ps) = omega arith
ended-grows true false (p ∷ ps) = omega arith
ended-grows false ends (p ∷ ps) = omega arith

-- what is told of one course and then another
of-continued : {A B : Type 0} (n : ℕ) (calls : List Told) (next : A → Outcome B) (a : Result A Stop) → AreOf n calls → ((x : A) → AreOf n (next x).calls) →
    AreOf n (continued calls next a).calls
of-continued n calls next (Ok x) h k = of-both n calls (next x).calls h (k x)
of-continued n calls next (Err e) h k = h

of-then : {B : Type 0} (n : ℕ) (c : Steps) (d : Course B) → AreOf n (outcome_of c).calls → AreOf n (outcome_of d).calls → AreOf n (outcome_of (c >> d)).calls
unfolding ◌>>=◌
of-then {B} n c d h k = subst (λ (o : Outcome B). AreOf n o.calls) (sym (course-bind c (λ _. d)))
    (of-continued n (outcome_of c).calls (λ _. outcome_of d) (outcome_of c).answer h (λ _. k))

-- rules alone tell nothing
of-needs : (n : ℕ) (ds : List Demand) → AreOf n (outcome_of (needs ds)).calls
of-needs n ds = subst (λ (o : Outcome (Unit {0})). AreOf n o.calls) (sym (needs-judged ds)) tt

of-rule : (n : ℕ) (b : Bool) (e : Stop) → AreOf n (if b then gives tt else answers {A = Unit {0}} (Err e)).calls
of-rule n true e = tt
of-rule n false e = tt

of-whole : (n : ℕ) (depth : Depth) (before : History) → AreOf n (outcome_of (whole_steps depth before)).calls
of-whole n depths.Units before = tt
of-whole n depths.Headers before = tt
of-whole n depths.Full before = by (may_go_on before) (runs_of before)
  where
    by : (on : Bool) (pictures : List CodedPicture) → AreOf n (outcome_of (if on then whole_picture pictures else nothing)).calls
    by true [] = tt
    by true (p ∷ ps) = of-rule n (length (last_slice p).macroblocks == picture_size p.first.sps) (No (bit_after (last_slice p).unit) Incomplete)
    by false pictures = tt

pub closing-all : (ends : Bool) (depth : Depth) (before : History) →
    AreOf (length (ended_pictures (may_go_on before) ends (runs_of before))) (outcome_of (close_if ends depth before)).calls
closing-all true depth before =
    let n = length (ended_pictures (may_go_on before) true (runs_of before)) in
    of-then n (whole_steps depth before) (needs (closing_demands before) >> closing_frames depth before) (of-whole n depth before)
    (of-then n (needs (closing_demands before)) (closing_frames depth before) (of-needs n (closing_demands before)) (closing-of depth before))
closing-all false depth before = tt

-- The end of the input, part by part.
module _ {S : Type 0} (took : S → List Told → Type 0) (failures : S → ℕ) (depth : Depth) (before : History) (bit : ℕ) where
  abbrev pub EndsTo : S → S → Steps → Type 0
  EndsTo s s' rest = ComesTo took failures (λ (u : Unit {0}). gives (summary_of depth before)) (end_outcome depth before bit) rest s s'

  pub end-begins : (s : S) → EndsTo s s (end_steps depth before bit)
  unfolding end_outcome
  end-begins s = starts took failures (λ (u : Unit {0}). gives (summary_of depth before)) (end_steps depth before bit) s

  -- all rules are met
  pub end-gives : {s0 s s' : S} {rest : Steps} {v : Unit {0}} (summary : Summary) → EndsTo s0 s rest →
      Plays (span took failures s s') (λ (u : Unit {0}). u) (outcome_of rest) (Ok v) → summary ≡ summary_of depth before →
      Plays (span took failures s0 s') (λ (u : Summary). u) (end_outcome depth before bit) (Ok summary)
  end-gives {s0} {s'} summary c p e =
      subst (λ (w : Summary). Plays (span took failures s0 s') (λ (u : Summary). u) (end_outcome depth before bit) (Ok w)) (sym e)
      (last-ends took failures c p (gives-plays took failures (λ (u : Summary). u) (summary_of depth before) s'))
