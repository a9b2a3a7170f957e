-- A unit up to its slice data, with which memory may be wanting.
use Rattle.std.proofs.Common.{◌≡◌, ℕ, ◌+◌, ◌*◌, List, [], ◌++◌, Result, Ok, Err, refl, ap, sym, ◌∙◌, subst, append_assoc, MatchResult}
use Rattle.std.proofs.lemmas.List.{append-nil}
use Rattle.h264_base.specs.declared.rule.Rule.TheVariants.{Emulation}
use Rattle.h264_base.specs.declared.stop.Stop.{Stop}
use Rattle.h264_base.specs.declared.stop.Stop.TheVariants.{No}
use Rattle.h264_base.specs.Grammar.{Grammar}
use Rattle.h264_units.specs.Stream.{NalUnit}
use Rattle.h264_rbsp.specs.Emulation.{emulation_checked, IsFault, IsFirstFault}
use Rattle.h264_rbsp.specs.Rbsp.{body_of}
use Rattle.h264_rbsp.proofs.Told.{is-checked}
use Rattle.h264_verify.specs.declared.state.Extent.{Extent}
use Rattle.h264_verify.specs.Telling.{Told}
use Rattle.h264_verify.specs.Content.{Content}
use Rattle.h264_verify.specs.History.{History}
use Rattle.h264_verify.specs.Memory.{ReachesData}
use Rattle.h264_verify.specs.Outcome.{Outcome, ◌>>=◌, continued, answers, gives}
use Rattle.h264_verify.specs.Course.{Course, Steps, Reads, Ends, ◌>>◌}
use Rattle.h264_verify.specs.Order.{course_to_data, content_steps, data_course}
use Rattle.h264_verify.specs.CourseOutcome.{structure_from, outcome_of}
use Rattle.h264_verify.specs.UnitOutcome.{joins, unit_to_data, unit_outcome}
use Rattle.h264_verify.proofs.language.Courses.{outcome, runs-as, bind-assoc, gives-same, course-parts}

-- ---- it comes first in the unit

-- the calls of an outcome are the first of another's
abbrev pub ComesFirst : {A B : Type 0} → Outcome A → Outcome B → Type 0
ComesFirst a b = (rest : List Told) × (b.calls ≡ a.calls ++ rest)

first-bound : {A B C : Type 0} (o : Outcome A) (f : A → Outcome B) (g : A → Outcome C) → ((x : A) → ComesFirst (f x) (g x)) → ComesFirst (o >>= f) (o >>= g)
unfolding ◌>>=◌
first-bound {A} {B} {C} o f g h = by o.answer
  where
    by : (a : Result A Stop) → ComesFirst (continued o.calls f a) (continued o.calls g a)
    by (Ok x) = let r = h x in (r.0, ap (λ (l : List Told). o.calls ++ l) r.1 ∙ sym (append_assoc o.calls (f x).calls r.0))
    by (Err e) = ([], sym (append-nil o.calls))

module _ (extent : Extent) (before : History) (unit : NalUnit) where
  abbrev join : Content → Outcome History
  join = joins before unit

  -- what a course comes to, for its content alone, and as a unit that joins the others
  abbrev alone : Course Content → Outcome Content
  alone course = outcome_of course >>= gives

  abbrev with_it : Course Content → Outcome History
  with_it course = outcome_of course >>= join

  steps-first : (steps : Steps) (a b : Course Content) → ComesFirst (alone a) (with_it b) → ComesFirst (alone (steps >> a)) (with_it (steps >> b))
  steps-first steps a b f =
      subst (λ (o : Outcome Content). ComesFirst o (with_it (steps >> b))) (sym (course-parts steps (λ _. a) gives))
      (subst (λ (o : Outcome History). ComesFirst (outcome_of steps >>= λ _. alone a) o)
      (sym (course-parts steps (λ _. b) join)) (first-bound (outcome_of steps) _ _ (λ _. f)))

  reads-first : (g : Grammar Content) (a b : Content → ℕ → Course Content) → ((x : Content) (bit : ℕ) → ComesFirst (alone (a x bit)) (with_it (b x bit))) →
      ComesFirst (alone (Reads (body_of unit) 0 g a)) (with_it (Reads (body_of unit) 0 g b))
  reads-first g a b f =
      let read = structure_from g (body_of unit) 0 in
      subst (λ (o : Outcome Content). ComesFirst o (with_it (Reads (body_of unit) 0 g b))) (sym (bind-assoc read (λ x. outcome_of (a x.0 x.1)) gives))
      (subst (λ (o : Outcome History). ComesFirst (read >>= λ x. alone (a x.0 x.1)) o)
      (sym (bind-assoc read (λ x. outcome_of (b x.0 x.1)) join)) (first-bound read _ _ (λ x. f x.0 x.1)))

  ends-first : (found : Content) (b : Course Content) → ComesFirst (alone (Ends found)) (with_it b)
  unfolding ◌>>=◌
  ends-first found b = ((with_it b).calls, refl)

  pub unit-first : ComesFirst (unit_to_data extent before unit) (unit_outcome extent before unit)
  unfolding unit_to_data unit_outcome
  unit-first = first-bound (answers (emulation_checked unit.from unit.body)) _ _
      (λ _. steps-first _ _ _ (steps-first _ _ _ (steps-first _ _ _ (reads-first _ (λ x bit. content_steps extent.depth before unit x >> Ends x)
      (λ x bit. content_steps extent.depth before unit x >> data_course extent.depth before unit x bit) (λ x bit.
      steps-first (content_steps extent.depth before unit x) (Ends x) (data_course extent.depth before unit x bit)
      (ends-first x (data_course extent.depth before unit x bit)))))))

  -- ---- it is the course up to there

  abbrev to_data : Course Content
  to_data = course_to_data extent before unit

  pub reaches : (calls : List Told) (found : Content) → unit_to_data extent before unit ≡ outcome calls (Ok found) → ReachesData extent before unit calls
  unfolding unit_to_data ◌>>=◌
  reaches calls found e = by (emulation_checked unit.from unit.body) (is-checked unit.from unit.body) e
    where
      by : (r : Result (Unit {0}) Stop) → MatchResult r (λ _. (place : ℕ) → IsFault unit.body place → ⊥)
          (λ stop. (place : ℕ) × (stop ≡ No (8 * (unit.from + place)) Emulation) × IsFirstFault unit.body place) →
          (answers r >>= λ (_ : Unit {0}). outcome_of to_data >>= gives) ≡ outcome calls (Ok found) → ReachesData extent before unit calls
      by (Ok x) f q = record { sound = f; found = found; runs = runs-as to_data calls (Ok found) (sym (gives-same (outcome_of to_data)) ∙ q) }
      by (Err stop) f q = let w : Err stop ≡ Ok found = ap (λ (o : Outcome Content). o.answer) q in cc
