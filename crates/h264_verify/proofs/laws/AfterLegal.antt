-- What follows legal units: what the next comes to, what the end of the input comes to, and some verdict.
use Rattle.std.proofs.Common.{◌≡◌, ℕ, ◌+◌, ◌*◌, List, [], ◌∷◌, ◌++◌, length, Result, Ok, Err, refl, ap, sym, ◌∙◌, subst, append_assoc, MatchResult}
use Rattle.std.proofs.lemmas.List.{append-nil}
use Rattle.h264_base.specs.declared.rule.Rule.TheVariants.{Emulation}
use Rattle.h264_base.specs.declared.stop.Stop.{Stop}
use Rattle.h264_base.specs.declared.stop.Stop.TheVariants.{No}
use Rattle.h264_base.specs.declared.summary.Summary.{Summary}
use Rattle.h264_rbsp.specs.Emulation.{IsFault, IsFirstFault, emulation_checked}
use Rattle.h264_rbsp.proofs.Told.{is-checked, none-checked, some-checked}
use Rattle.h264_units.specs.Stream.{NalUnit, Tail, Zeros, Stray, Bare, Long, Cut, Splits}
use Rattle.h264_verify.specs.declared.state.Extent.{Extent}
use Rattle.h264_verify.specs.Content.{Content}
use Rattle.h264_verify.specs.History.{History, ReadUnit}
use Rattle.h264_verify.specs.Order.{unit_course, end_steps}
use Rattle.h264_verify.specs.Outcome.{Outcome, answers}
use Rattle.h264_verify.specs.CourseOutcome.{outcome_of}
use Rattle.h264_verify.specs.Course.{Steps, Runs}
use Rattle.h264_verify.specs.Telling.{Told}
use Rattle.h264_verify.specs.UnitOutcome.{unit_outcome, end_outcome}
use Rattle.h264_verify.specs.Units.{summary_of}
use Rattle.h264_verify.specs.Verdict.{IsSound, IsLegal, IsStop, AtBytes, InCourse, in_order, AreLegal, Holds, IsStopAfter, AtNext, AtTail, AtEnd, StopsAt}
use Rattle.h264_verify.specs.Verdict.{Verdict, remainder}
use Rattle.h264_verify.proofs.language.Courses.{outcome, bound, bind-stop, runs-outcome, outcome-runs}
use Rattle.h264_verify.proofs.laws.DecodablePictures.{are-decodable}

stopped-not : {A : Type 0} (a b : List Told) (stop : Stop) (x : A) → outcome a (Err stop) ≡ outcome b (Ok x) → ⊥
stopped-not {A} a b stop x e = let f : Err stop ≡ Ok x = ap (λ (o : Outcome A). o.answer) e in cc

ok-same : {A : Type 0} (a b : A) → (let r : Result A Stop = Ok a in r ≡ Ok b) → a ≡ b
ok-same a b e = cc

pub err-same : {A : Type 0} (a b : Stop) → (let r : Result A Stop = Err a in r ≡ Err b) → a ≡ b
err-same a b e = cc

module _ (extent : Extent) (before : History) where
  -- ---- a unit

  -- A legal unit comes to its calls, and joins those before it.
  pub legal-unit : (r : ReadUnit) (calls : List Told) → IsLegal extent before r calls → unit_outcome extent before r.unit ≡ outcome calls (Ok (r ∷ before))
  unfolding unit_outcome
  legal-unit r calls l =
      bound (answers (emulation_checked r.unit.from r.unit.body)) _ [] tt _
      (ap (λ (x : Result (Unit {0}) Stop). answers x) (sym (none-checked r.unit.from r.unit.body l.sound)))
      (bound (outcome_of (unit_course extent before r.unit)) _ calls r.content _
      (runs-outcome (unit_course extent before r.unit) calls (Ok r.content) l.runs) refl)
      ∙ ap (λ c. outcome c (Ok (r ∷ before))) (append-nil calls)

  module _ (unit : NalUnit) where
    -- A unit at which the verdict falls comes to the calls up to there.
    pub stop-unit : (stop : Stop) (calls : List Told) → IsStop extent before unit stop calls → unit_outcome extent before unit ≡ outcome calls (Err stop)
    unfolding unit_outcome
    stop-unit stop calls (AtBytes place fault e n) =
        bind-stop (answers (emulation_checked unit.from unit.body)) _ [] (No (8 * (unit.from + place)) Emulation)
        (ap (λ (x : Result (Unit {0}) Stop). answers x) (sym (some-checked unit.from unit.body place fault)))
        ∙ rw (e, n) refl
    stop-unit stop calls (InCourse sound runs) =
        bound (answers (emulation_checked unit.from unit.body)) _ [] tt _
        (ap (λ (x : Result (Unit {0}) Stop). answers x) (sym (none-checked unit.from unit.body sound)))
        (bind-stop (outcome_of (unit_course extent before unit)) _ calls stop (runs-outcome (unit_course extent before unit) calls (Err stop) runs))

    -- It is legal, or the verdict falls at it.
    data Either : Type 0 where
      Legal : (c : Content) (calls : List Told) → IsLegal extent before (record { unit = unit; content = c }) calls → Either
      Fails : (stop : Stop) (calls : List Told) → IsStop extent before unit stop calls → Either

    either-unit : Either
    either-unit = by (emulation_checked unit.from unit.body) (is-checked unit.from unit.body)
      where
        course : IsSound unit → (calls : List Told) (a : Result Content Stop) → Runs (unit_course extent before unit) calls a → Either
        course sound calls (Ok found) runs = Legal found calls (record { sound = sound; runs = runs })
        course sound calls (Err stop) runs = Fails stop calls (InCourse sound runs)

        by : (r : Result (Unit {0}) Stop) → MatchResult r (λ _. (place : ℕ) → IsFault unit.body place → ⊥)
            (λ stop. (place : ℕ) × (stop ≡ No (8 * (unit.from + place)) Emulation) × IsFirstFault unit.body place) → Either
        by (Ok x) f = let c = unit_course extent before unit in course f (outcome_of c).calls (outcome_of c).answer (outcome-runs c)
        by (Err stop) f = Fails stop [] (AtBytes f.0 f.2 f.1 refl)

    -- So one that comes to these calls and joins is legal with them.
    pub record Joined (calls : List Told) (after : History) : Type 0 where
      pub content : Content
      pub after_is : after ≡ record { unit = unit; content = content } ∷ before
      pub legal : IsLegal extent before (record { unit = unit; content = content }) calls

    pub joined : (calls : List Told) (after : History) → unit_outcome extent before unit ≡ outcome calls (Ok after) → Joined calls after
    joined calls after e = by either-unit
      where
        by : Either → Joined calls after
        by (Fails stop cs h) = absurd (stopped-not cs calls stop after (sym (stop-unit stop cs h) ∙ e))
        by (Legal c cs h) =
            let r : ReadUnit = record { unit = unit; content = c } in
            let same : outcome cs (Ok (r ∷ before)) ≡ outcome calls (Ok after) = sym (legal-unit r cs h) ∙ e in
            record {
              content = c;
              after_is = sym (ok-same (r ∷ before) after (ap (λ (o : Outcome History). o.answer) same));
              legal = subst (IsLegal extent before r) (ap (λ (o : Outcome History). o.calls) same) h;
            }

    -- At one that comes to these calls and a stop the verdict falls.
    pub stopped : (calls : List Told) (stop : Stop) → unit_outcome extent before unit ≡ outcome calls (Err stop) → IsStop extent before unit stop calls
    stopped calls stop e = by either-unit
      where
        by : Either → IsStop extent before unit stop calls
        by (Legal c cs h) = let r : ReadUnit = record { unit = unit; content = c } in
            absurd (stopped-not calls cs stop (r ∷ before) (sym e ∙ legal-unit r cs h))
        by (Fails other cs h) =
            let same : outcome cs (Err other) ≡ outcome calls (Err stop) = sym (stop-unit other cs h) ∙ e in
            subst (λ (s : Stop). IsStop extent before unit s calls) (err-same other stop (ap (λ (o : Outcome History). o.answer) same))
            (subst (IsStop extent before unit other) (ap (λ (o : Outcome History). o.calls) same) h)

  -- ---- the end of the input
  module _ (bit : ℕ) where
    abbrev end : Steps
    end = end_steps extent.depth before bit

    pub met-end : (calls : List Told) → Runs end calls (Ok tt) → end_outcome extent.depth before bit ≡ outcome calls (Ok (summary_of extent.depth before))
    unfolding end_outcome
    met-end calls h = bound (outcome_of end) _ calls tt _ (runs-outcome end calls (Ok tt) h) refl ∙
        ap (λ l. outcome l (Ok (summary_of extent.depth before))) (append-nil calls)

    pub unmet-end : (calls : List Told) (stop : Stop) → Runs end calls (Err stop) → end_outcome extent.depth before bit ≡ outcome calls (Err stop)
    unfolding end_outcome
    unmet-end calls stop h = bind-stop (outcome_of end) _ calls stop (runs-outcome end calls (Err stop) h)

    -- So its rules are met where it comes to a summary,
    pub record Ended (calls : List Told) (summary : Summary) : Type 0 where
      pub met : Runs end calls (Ok tt)
      pub summary_is : summary ≡ summary_of extent.depth before

    pub ended : (calls : List Told) (summary : Summary) → end_outcome extent.depth before bit ≡ outcome calls (Ok summary) → Ended calls summary
    ended calls summary e = by (outcome_of end).calls (outcome_of end).answer (outcome-runs end)
      where
        by : (cs : List Told) (a : Result (Unit {0}) Stop) → Runs end cs a → Ended calls summary
        by cs (Err stop) h = absurd (stopped-not cs calls stop summary (sym (unmet-end cs stop h) ∙ e))
        by cs (Ok x) h =
            let whole : Summary = summary_of extent.depth before in
            let same : outcome cs (Ok whole) ≡ outcome calls (Ok summary) = sym (met-end cs h) ∙ e in
            record {
              met = subst (λ (l : List Told). Runs end l (Ok tt)) (ap (λ (o : Outcome Summary). o.calls) same) h;
              summary_is = sym (ok-same whole summary (ap (λ (o : Outcome Summary). o.answer) same));
            }

    -- and else there is a first that is not.
    pub unended : (calls : List Told) (stop : Stop) → end_outcome extent.depth before bit ≡ outcome calls (Err stop) → Runs end calls (Err stop)
    unended calls stop e = by (outcome_of end).calls (outcome_of end).answer (outcome-runs end)
      where
        by : (cs : List Told) (a : Result (Unit {0}) Stop) → Runs end cs a → Runs end calls (Err stop)
        by cs (Ok x) h = absurd (stopped-not calls cs stop (summary_of extent.depth before) (sym e ∙ met-end cs h))
        by cs (Err other) h =
            let same : outcome cs (Err other) ≡ outcome calls (Err stop) = sym (unmet-end cs other h) ∙ e in
            subst (λ (s : Stop). Runs end calls (Err s)) (err-same other stop (ap (λ (o : Outcome Summary). o.answer) same))
            (subst (λ (l : List Told). Runs end l (Err other)) (ap (λ (o : Outcome Summary). o.calls) same) h)

-- ---- the stream

-- Of this stream this was told, and some verdict comes with more.
pub record SomeAfter (extent : Extent) (bytes : List ℕ) (told : List Told) : Type 0 where
  pub calls : List Told
  pub answer : Result Summary Stop
  pub verdict : Verdict extent bytes (told ++ calls) answer

pub after-more : {extent : Extent} {bytes : List ℕ} (told more : List Told) → SomeAfter extent bytes (told ++ more) → SomeAfter extent bytes told
after-more {extent} {bytes} told more v = record {
  calls = more ++ v.calls;
  answer = v.answer;
  verdict = subst (λ l. Verdict extent bytes l v.answer) (append_assoc told more v.calls) v.verdict;
}

module _ (extent : Extent) (bytes : List ℕ) where
  pub holds-after : (before : History) (told last : List Told) → AreLegal extent before told → Splits 0 bytes (in_order before []) Zeros →
      Runs (end_steps extent.depth before (8 * length bytes)) last (Ok tt) → Holds extent bytes (told ++ last) (summary_of extent.depth before)
  holds-after before told last l s h = record {
    units = before;
    stream = s;
    first = told;
    last = last;
    legal = l;
    end = h;
    calls_are = refl;
    summary_is = refl;
    pictures = are-decodable extent.depth extent.target before told last (8 * length bytes) l h;
  }

  module _ (before : History) (told : List Told) (legal : AreLegal extent before told) where
    pub stops-after : (units : List NalUnit) (tail : Tail) (last : List Told) (stop : Stop) → Splits 0 bytes (in_order before units) tail →
        IsStopAfter extent before (remainder units tail (length bytes)) stop last → StopsAt extent bytes (told ++ last) stop
    stops-after units tail last stop s h = record {
      before = before;
      units = units;
      tail = tail;
      stream = s;
      first = told;
      last = last;
      legal = legal;
      stops = h;
      calls_are = refl;
    }

    -- the verdict at the end, with what the end tells
    pub after-end : Splits 0 bytes (in_order before []) Zeros → SomeAfter extent bytes (told ++ (end_outcome extent.depth before (8 * length bytes)).calls)
    after-end s = by (outcome_of steps).calls (outcome_of steps).answer (outcome-runs steps)
      where
        steps : Steps
        steps = end_steps extent.depth before (8 * length bytes)

        end : Outcome Summary
        end = end_outcome extent.depth before (8 * length bytes)

        with_end : (calls : List Told) (answer : Result Summary Stop) → end ≡ outcome calls answer → Verdict extent bytes (told ++ calls) answer →
            SomeAfter extent bytes (told ++ end.calls)
        with_end calls answer e v = record {
          calls = [];
          answer = answer;
          verdict = subst (λ l. Verdict extent bytes l answer)
              (ap (λ (o : Outcome Summary). told ++ o.calls) (sym e) ∙ sym (append-nil (told ++ end.calls))) v;
        }

        by : (cs : List Told) (a : Result (Unit {0}) Stop) → Runs steps cs a → SomeAfter extent bytes (told ++ end.calls)
        by cs (Ok x) h = with_end cs (Ok (summary_of extent.depth before)) (met-end extent before (8 * length bytes) cs h)
            (holds-after before told cs legal s h)
        by cs (Err stop) h = with_end cs (Err stop) (unmet-end extent before (8 * length bytes) cs stop h)
            (stops-after [] Zeros cs stop s (AtEnd refl refl h))

    at-stop : (tail : Tail) (stop : Stop) → Splits 0 bytes (in_order before []) tail → IsStopAfter extent before (remainder [] tail (length bytes)) stop [] →
        SomeAfter extent bytes told
    at-stop tail stop s h = record { calls = []; answer = Err stop; verdict = stops-after [] tail [] stop s h }

    at-tail : (tail : Tail) → Splits 0 bytes (in_order before []) tail → SomeAfter extent bytes told
    at-tail Zeros s = after-more told (end_outcome extent.depth before (8 * length bytes)).calls (after-end s)
    at-tail (Stray place) s = at-stop (Stray place) _ s (AtTail refl refl refl)
    at-tail (Bare place) s = at-stop (Bare place) _ s (AtTail refl refl refl)
    at-tail (Long place) s = at-stop (Long place) _ s (AtTail refl refl refl)
    at-tail Cut s = at-stop Cut _ s (AtTail refl refl refl)

  -- the verdict on all units
  pub some-after : (before : History) (told : List Told) → AreLegal extent before told → (units : List NalUnit) (tail : Tail) →
      Splits 0 bytes (in_order before units) tail → SomeAfter extent bytes told
  some-after before told l [] tail s = at-tail before told l tail s
  some-after before told l (unit ∷ units) tail s = by (either-unit extent before unit)
      (λ c calls h. some-after (record { unit = unit; content = c } ∷ before) (told ++ calls) (told, calls, l, h, refl) units tail s)
    where
      by : Either extent before unit → ((c : Content) (calls : List Told) → IsLegal extent before (record { unit = unit; content = c }) calls →
          SomeAfter extent bytes (told ++ calls)) → SomeAfter extent bytes told
      by (Fails stop calls h) next =
          record { calls = calls; answer = Err stop; verdict = stops-after before told l (unit ∷ units) tail calls stop s (AtNext unit units refl h) }
      by (Legal c calls h) next = after-more told calls (next c calls h)

  -- with what the next unit tells
  pub after-unit : (before : History) (told : List Told) → AreLegal extent before told → (unit : NalUnit) (units : List NalUnit) (tail : Tail) →
      Splits 0 bytes (in_order before (unit ∷ units)) tail → SomeAfter extent bytes (told ++ (unit_outcome extent before unit).calls)
  after-unit before told l unit units tail s = by (either-unit extent before unit)
    where
      told_of : (calls : List Told) (answer : Result History Stop) → unit_outcome extent before unit ≡ outcome calls answer →
          SomeAfter extent bytes (told ++ calls) → SomeAfter extent bytes (told ++ (unit_outcome extent before unit).calls)
      told_of calls answer e v = subst (λ (o : Outcome History). SomeAfter extent bytes (told ++ o.calls)) (sym e) v

      by : Either extent before unit → SomeAfter extent bytes (told ++ (unit_outcome extent before unit).calls)
      by (Fails stop calls h) = told_of calls (Err stop) (stop-unit extent before unit stop calls h) (record {
        calls = [];
        answer = Err stop;
        verdict = subst (λ l. Verdict extent bytes l (Err stop)) (sym (append-nil (told ++ calls)))
            (stops-after before told l (unit ∷ units) tail calls stop s (AtNext unit units refl h));
      })
      by (Legal c calls h) =
          let r : ReadUnit = record { unit = unit; content = c } in
          told_of calls (Ok (r ∷ before)) (legal-unit extent before r calls h) (some-after (r ∷ before) (told ++ calls) (told, calls, l, h, refl) units tail s)
