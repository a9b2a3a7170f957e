-- What is left of the input where a session stands, and the answers that it leads to.
use Rattle.std.proofs.Common.{◌≡◌, ℕ, ◌*◌, ◌<◌, List, [], ◌∷◌, ◌++◌, length, Some, Result, Err, refl, ap, sym, ◌∙◌, subst, arith, append_assoc}
use Rattle.std.proofs.lemmas.List.{append-nil}
use Rattle.h264_base.specs.declared.stop.Stop.{Stop}
use Rattle.h264_base.specs.declared.stop.Stop.TheVariants.{No, Outside, Memory, Read, Write}
use Rattle.h264_base.specs.Call.{Call, span}
use Rattle.h264_base.specs.declared.rule.Rule.TheVariants.{ByteStream, EmptyUnit}
use Rattle.h264_base.specs.declared.stop.Feature.TheVariants.{UnitTooLong, InputTooLong}
use Rattle.h264_units.specs.Stream.{NalUnit, Next, past, Tail, Zeros, Stray, Bare, Long, Cut, HasTail, Splits, input_limit, tail_stop}
use Rattle.h264_units.proofs.Streams.{same-units}
use Rattle.h264_units.proofs.Total.{some-split}
use Rattle.h264_verify.specs.declared.state.State.{State}
use Rattle.h264_verify.specs.declared.state.Terms.{Terms}
use Rattle.h264_verify.specs.Content.{Content}
use Rattle.h264_verify.specs.History.{History}
use Rattle.h264_verify.specs.Keeping.{ended_in}
use Rattle.h264_verify.specs.Memory.{BeginWith, ChangesFormat}
use Rattle.h264_verify.specs.Outcome.{Outcome, PlaysBy, IsNamed}
use Rattle.h264_verify.specs.Telling.{Told, Tells, TellsFront, Family, took_with, frame_span}
use Rattle.h264_verify.specs.Turning.{Turns, Pauses}
use Rattle.h264_verify.specs.UnitOutcome.{unit_outcome, unit_to_data}
use Rattle.h264_verify.specs.Units.{extent_by}
use Rattle.h264_verify.specs.Verdict.{in_order, AtNext, AtTail, Verdict, Whole, Front, BeforeNext, ForPicture, JudgedBy}
use Rattle.h264_verify.specs.Progress.{Progress}
use Rattle.h264_verify.specs.Feeding.{WasFed, ComesTo}
use Rattle.h264_verify.proofs.laws.AfterLegal.{SomeAfter, stops-after, after-unit, some-after, stopped}
use Rattle.h264_verify.proofs.language.Courses.{outcome}
use Rattle.h264_verify.proofs.samples.FamiliesAgree.{agree-none}
use Rattle.h264_verify.proofs.session.SessionUnits.{in-order, begin-shown, splits-first, splits-shown}
use Rattle.h264_verify.proofs.language.ToldTogether.{tells-none}
use Rattle.h264_verify.proofs.judged.UnitToData.{unit-first, reaches}

-- a stop of a tail is a rule or a feature
named : (tail : Tail) (stop : Stop) → tail_stop tail ≡ Some stop → IsNamed stop
named Zeros stop e = cc
named (Stray place) stop e = let s : No (8 * place) ByteStream ≡ stop = cc in subst IsNamed s tt
named (Bare place) stop e = let s : No (8 * place) EmptyUnit ≡ stop = cc in subst IsNamed s tt
named (Long place) stop e = let s : Outside (8 * place) UnitTooLong ≡ stop = cc in subst IsNamed s tt
named Cut stop e = let s : Outside (8 * input_limit) InputTooLong ≡ stop = cc in subst IsNamed s tt

pub named-not-memory : (tail : Tail) (stop : Stop) → tail_stop tail ≡ Some stop → stop ≡ Memory → ⊥
named-not-memory tail stop e m = let n : IsNamed Memory = subst IsNamed m (named tail stop e) in n

pub named-not-read : (tail : Tail) (stop : Stop) → tail_stop tail ≡ Some stop → stop ≡ Read → ⊥
named-not-read tail stop e m = let n : IsNamed Read = subst IsNamed m (named tail stop e) in n

-- ---- what is left

-- However the input goes on, these are the units that are left, and their tail.
pub record Rest {terms : Terms} {session : Progress} {bytes : List ℕ} {frames : Family} {told : List Told} (f : WasFed terms session bytes frames told)
    (more : List ℕ) : Type 0 where
  units : List NalUnit
  tail : Tail
  stream : Splits 0 (bytes ++ more) (in_order f.before units) tail
  left : Splits session.split.at (session.split.rest ++ more) units tail

module _ {terms : Terms} {session : Progress} {bytes : List ℕ} {frames : Family} {told : List Told} (f : WasFed terms session bytes frames told)
    (more : List ℕ) where
  rest : Rest f more
  rest =
      let all = some-split 0 (bytes ++ more) (omega arith) in
      let later = splits-shown 0 bytes (in_order f.before []) session.split.at session.split.rest more all.units all.tail f.shown all.splits in
      record {
        units = later.0;
        tail = all.tail;
        stream = subst (λ us. Splits 0 (bytes ++ more) us all.tail) (later.1 ∙ sym (in-order f.before later.0)) all.splits;
        left = later.2;
      }

  -- no unit but a tail
  pub rest-tail : (tail : Tail) → HasTail session.split.at (session.split.rest ++ more) tail → Splits 0 (bytes ++ more) (in_order f.before []) tail
  rest-tail tail h =
      let same = same-units session.split.at (session.split.rest ++ more) rest.units [] rest.tail tail rest.left h in
      subst (λ t. Splits 0 (bytes ++ more) (in_order f.before []) t) same.tail_is
      (subst (λ us. Splits 0 (bytes ++ more) (in_order f.before us) rest.tail) same.units_are rest.stream)

  -- this unit, and more
  pub record RestFrom (unit : NalUnit) (after : List ℕ) : Type 0 where
    pub units : List NalUnit
    pub tail : Tail
    pub stream : Splits 0 (bytes ++ more) (in_order f.before (unit ∷ units)) tail
    pub left : Splits (past unit) after units tail

  pub rest-from : (unit : NalUnit) (after : List ℕ) → Next session.split.at (session.split.rest ++ more) unit after → RestFrom unit after
  rest-from unit after n =
      let first = splits-first session.split.at (session.split.rest ++ more) unit after rest.units rest.tail n rest.left in
      record {
        units = first.0;
        tail = rest.tail;
        stream = subst (λ us. Splits 0 (bytes ++ more) (in_order f.before us) rest.tail) first.1 rest.stream;
        left = first.2;
      }

  some-rest : SomeAfter (extent_by terms) (bytes ++ more) told
  some-rest = some-after (extent_by terms) (bytes ++ more) f.before told f.legal rest.units rest.tail rest.stream

  -- the rest stands after the units so far
  begins : BeginWith 0 (bytes ++ more) (in_order f.before []) session.split.at (session.split.rest ++ more)
  begins = begin-shown 0 bytes (in_order f.before []) session.split.at session.split.rest more f.shown

  module _ {S : Type 0} (took : S → List Call → Type 0) (failures : S → ℕ) where
    -- ---- answers before the next unit

    nothing-told : {E : Stop} (s : S) → JudgedBy (extent_by terms) (span (took_with frames took) failures s s) (bytes ++ more) told (Err E) →
        ComesTo f (span took failures s s) (bytes ++ more) (Err E)
    nothing-told s j = record { made = frames; same = agree-none (ended_in f.before) frames; judged = j }

    front-none : (s : S) → Front (extent_by terms) (span (took_with frames took) failures s s) (bytes ++ more) told
    front-none s = record {
      more = [];
      tells = tells-none (took_with frames took) s;
      rest = some-rest.calls;
      answer = some-rest.answer;
      verdict = subst (λ l. Verdict (extent_by terms) (bytes ++ more) (l ++ some-rest.calls) some-rest.answer) (sym (append-nil told)) some-rest.verdict;
    }

    -- memory was refused for bytes that are left
    pub comes-memory : (s : S) → 0 < length (session.split.rest ++ more) → ComesTo f (span took failures s s) (bytes ++ more) (Err Memory)
    comes-memory s some = nothing-told s (
      front-none s,
      refl,
      record {
        more = [];
        tells = tells-none (took_with frames took) s;
        wants = record {
          before = f.before;
          units = rest.units;
          tail = rest.tail;
          stream = rest.stream;
          first = told;
          last = [];
          legal = f.legal;
          place = session.split.at;
          left = session.split.rest ++ more;
          stands = begins;
          wants = BeforeNext refl (λ h. some);
          calls_are = refl;
        };
      },
    )

    -- a read failed
    pub comes-read : (s : S) → ComesTo f (span took failures s s) (bytes ++ more) (Err Read)
    comes-read s = nothing-told s (front-none s, refl)

    -- the tail that is left leads to a stop
    tail-judged : (s : S) (tail : Tail) (stop : Stop) → HasTail session.split.at (session.split.rest ++ more) tail → tail_stop tail ≡ Some stop →
        Whole (extent_by terms) (span (took_with frames took) failures s s) (bytes ++ more) told (Err stop)
    tail-judged s tail stop h e = record {
      more = [];
      tells = tells-none (took_with frames took) s;
      verdict = stops-after (extent_by terms) (bytes ++ more) f.before told f.legal [] tail [] stop (rest-tail tail h) (AtTail refl e refl);
    }

    pub comes-tail : (s : S) (tail : Tail) (stop : Stop) → HasTail session.split.at (session.split.rest ++ more) tail → tail_stop tail ≡ Some stop →
        ComesTo f (span took failures s s) (bytes ++ more) (Err stop)
    comes-tail s tail stop h e = nothing-told s (by stop (tail-judged s tail stop h e) (named tail stop e))
      where
        by : (e : Stop) → Whole (extent_by terms) (span (took_with frames took) failures s s) (bytes ++ more) told (Err e) → IsNamed e →
            JudgedBy (extent_by terms) (span (took_with frames took) failures s s) (bytes ++ more) told (Err e)
        by (No bit rule) w n = (w, refl)
        by (Outside bit feature) w n = (w, refl)
        by Memory w n = absurd n
        by Read w n = absurd n
        by Write w n = absurd n

  -- ---- answers at the next unit

  module _ {S : Type 0} (took : S → List Call → Type 0) (failures : S → ℕ) (unit : NalUnit) (after : List ℕ)
      (next : Next session.split.at (session.split.rest ++ more) unit after) where
    abbrev comes_to : Outcome History
    comes_to = unit_outcome (extent_by terms) f.before unit

    from : RestFrom unit after
    from = rest-from unit after next

    unit-front : (made : Family) (s s' : S) → TellsFront (took_with made took) s s' comes_to.calls →
        Front (extent_by terms) (span (took_with made took) failures s s') (bytes ++ more) told
    unit-front made s s' k =
        let v = after-unit (extent_by terms) (bytes ++ more) f.before told f.legal unit from.units from.tail from.stream in
        record {
          more = k.front;
          tells = k.tells;
          rest = k.rest ++ v.calls;
          answer = v.answer;
          verdict = subst (λ l. Verdict (extent_by terms) (bytes ++ more) l v.answer)
              (ap (λ l. (told ++ l) ++ v.calls) k.whole ∙ ap (λ l. l ++ v.calls) (sym (append_assoc told k.front k.rest)) ∙
              append_assoc (told ++ k.front) k.rest v.calls) v.verdict;
        }

    unit-whole : (made : Family) (s s' : S) (stop : Stop) → comes_to.answer ≡ Err stop → Tells (took_with made took) s s' comes_to.calls →
        Whole (extent_by terms) (span (took_with made took) failures s s') (bytes ++ more) told (Err stop)
    unit-whole made s s' stop e k = record {
      more = comes_to.calls;
      tells = k;
      verdict = stops-after (extent_by terms) (bytes ++ more) f.before told f.legal (unit ∷ from.units) from.tail comes_to.calls stop from.stream
          (AtNext unit from.units refl
          (stopped (extent_by terms) f.before unit comes_to.calls stop (ap (λ (a : Result History Stop). outcome comes_to.calls a) e)));
    }

    -- memory is wanting for it, after what is told of it up to its slice data
    abbrev pub MayPause : S → S → Type 0
    MayPause s s' = ChangesFormat terms.depth f.before unit
        × Pauses (frame_span took failures frames s s') (ended_in f.before) (unit_to_data (extent_by terms) f.before unit)

    unit-pauses : (s s' : S) → MayPause s s' → ComesTo f (span took failures s s') (bytes ++ more) (Err Memory)
    unfolding unit_to_data
    unit-pauses s s' m =
        let p = m.1 in
        let o = unit_to_data (extent_by terms) f.before unit in
        let first = unit-first (extent_by terms) f.before unit in
        record {
          made = p.made;
          same = p.same;
          judged = (
            unit-front p.made s s' (record { front = o.calls; rest = first.0; whole = first.1; tells = p.plays.plays.1 }),
            p.plays.plays.2,
            record {
              more = o.calls;
              tells = p.plays.plays.1;
              wants = record {
                before = f.before;
                units = unit ∷ from.units;
                tail = from.tail;
                stream = from.stream;
                first = told;
                last = o.calls;
                legal = f.legal;
                place = session.split.at;
                left = session.split.rest ++ more;
                stands = begins;
                wants = ForPicture unit from.units refl m.0
                    (reaches (extent_by terms) f.before unit o.calls p.found (ap (λ (a : Result Content Stop). outcome o.calls a) p.plays.plays.0));
                calls_are = refl;
              };
            },
          );
        }

    -- it stops the session
    pub comes-unit : (state : State) (stop : Stop) (s s' : S) →
        Turns {X = Unit {0}} (extent_by terms) (frame_span took failures frames s s') f.before unit state (Err stop) → (stop ≡ Memory → MayPause s s') →
        ComesTo f (span took failures s s') (bytes ++ more) (Err stop)
    comes-unit state stop s s' t m = by stop t.plays.plays m
      where
        by : (e : Stop) → PlaysBy {X = Unit {0}} (span (took_with t.made took) failures s s') (λ (x : Unit {0}). t.after) comes_to (Err e) →
            (e ≡ Memory → MayPause s s') → ComesTo f (span took failures s s') (bytes ++ more) (Err e)
        by (No bit rule) p m = record { made = t.made; same = t.same; judged = (unit-whole t.made s s' (No bit rule) p.0 p.1, p.2) }
        by (Outside bit feature) p m = record { made = t.made; same = t.same; judged = (unit-whole t.made s s' (Outside bit feature) p.0 p.1, p.2) }
        by Memory p m = unit-pauses s s' (m refl)
        by Read p m = absurd p
        by Write p m = record { made = t.made; same = t.same; judged = (unit-front t.made s s' p.0, p.1) }
