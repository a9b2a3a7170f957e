-- A session to which bytes are pushed.
use Rattle.std.proofs.Common.{◌≡◌, ℕ, ◌<◌, IsFalse, List, [], ◌∷◌, ◌++◌, length, take, drop}
use Rattle.std.proofs.Common.{Result, Ok, Err, refl, ap, sym, ◌∙◌, subst, arith, append_assoc, length-append}
use Rattle.std.proofs.lemmas.List.{append-nil, take-append-drop}
use Rattle.h264_base.specs.declared.stop.Stop.{Stop}
use Rattle.h264_base.specs.declared.stop.Stop.TheVariants.{No, Outside, Memory, Read, Write}
use Rattle.h264_base.specs.Call.{Call, span}
use Rattle.h264_units.specs.Stream.{NalUnit, Next, HasTail, IsUndecided}
use Rattle.h264_units.specs.Splitting.{Splitting, Refused, Pushed, PushStops, Taken}
use Rattle.h264_verify.specs.declared.state.State.{State}
use Rattle.h264_verify.specs.declared.state.Terms.{Terms}
use Rattle.h264_verify.specs.History.{History}
use Rattle.h264_verify.specs.Keeping.{ended_in}
use Rattle.h264_verify.specs.Memory.{ChangesFormat}
use Rattle.h264_verify.specs.Telling.{Told, Family, took_with, frame_span, AreOf}
use Rattle.h264_verify.specs.Turning.{Turns, Pauses}
use Rattle.h264_verify.specs.UnitOutcome.{unit_outcome, unit_to_data}
use Rattle.h264_verify.specs.Units.{extent_by}
use Rattle.h264_verify.specs.Verdict.{in_order, AreLegal}
use Rattle.h264_verify.specs.Progress.{going}
use Rattle.h264_verify.specs.Feeding.{ShowsUnits, WasFed, GoesOn, ComesTo}
use Rattle.h264_verify.proofs.laws.AfterLegal.{joined}
use Rattle.h264_verify.proofs.language.Courses.{outcome}
use Rattle.h264_verify.proofs.samples.FamiliesAgree.{agree-none, of-both, of-more}
use Rattle.h264_verify.proofs.samples.FamiliesByPurpose.{family-on}
use Rattle.h264_verify.proofs.session.SessionUnits.{in-order, shows-both, shows-more}
use Rattle.h264_verify.proofs.language.ToldTogether.{tells-none}
use Rattle.h264_verify.proofs.session.SessionSteps.{grows-after, comes-as, not-less}
use Rattle.h264_verify.proofs.session.SessionRest.{comes-memory, comes-tail, comes-unit}

pub push-not-read : (old new : Splitting) (piece : List ℕ) (stop : Stop) → PushStops old new piece stop → stop ≡ Read → ⊥
push-not-read old new piece stop p e = subst (PushStops old new piece) e p

module _ {terms : Terms} {split : Splitting} {state : State} {bytes : List ℕ} {frames : Family} {told : List Told}
    (f : WasFed terms (going terms split state) bytes frames told) (piece : List ℕ) where
  longer : (later : List ℕ) → 0 < length piece → 0 < length (split.rest ++ (piece ++ later))
  longer later h = let a = length-append split.rest (piece ++ later) in let b = length-append piece later in omega arith

  module _ {mid : Splitting} {n : ℕ} (pushed : Pushed split mid piece n) where
    -- after the bytes that were taken
    shown-taken : ShowsUnits 0 (bytes ++ take n piece) (in_order f.before []) mid.at mid.rest
    shown-taken = subst (λ a. ShowsUnits 0 (bytes ++ take n piece) (in_order f.before []) a mid.rest) (sym pushed.at_is)
        (subst (λ r. ShowsUnits 0 (bytes ++ take n piece) (in_order f.before []) split.at r) (sym pushed.rest_is)
        (shows-more 0 bytes (in_order f.before []) split.at split.rest (take n piece) f.shown))

    -- a unit's bytes and those that follow, however the input goes on
    unit-next : {new : Splitting} {unit : NalUnit} → Taken mid new unit → IsFalse mid.ended → (later : List ℕ) →
        Next split.at (split.rest ++ (piece ++ later)) unit (new.rest ++ (drop n piece ++ later))
    unit-next {new} {unit} taken live later =
        subst (λ a. Next a (split.rest ++ (piece ++ later)) unit (new.rest ++ (drop n piece ++ later))) pushed.at_is
        (subst (λ l. Next mid.at l unit (new.rest ++ (drop n piece ++ later))) whole (taken.decided live (drop n piece ++ later)))
      where
        whole : mid.rest ++ (drop n piece ++ later) ≡ split.rest ++ (piece ++ later)
        whole =
            ap (λ l. l ++ (drop n piece ++ later)) pushed.rest_is
            ∙ append_assoc split.rest (take n piece) (drop n piece ++ later)
            ∙ ap (λ l. split.rest ++ l) (sym (append_assoc (take n piece) (drop n piece) later))
            ∙ ap (λ l. split.rest ++ (l ++ later)) (take-append-drop n piece)

  module _ {S : Type 0} {took : S → List Call → Type 0} {failures : S → ℕ} where
    -- memory was refused for them
    pub push-memory : (s : S) (stop : Stop) → stop ≡ Memory → 0 < length piece → (later : List ℕ) →
        ComesTo f (span took failures s s) ((bytes ++ piece) ++ later) (Err stop)
    push-memory s stop e some later =
        subst (λ (x : Stop). ComesTo f (span took failures s s) ((bytes ++ piece) ++ later) (Err x)) (sym e)
        (comes-as f (sym (append_assoc bytes piece later)) (comes-memory f (piece ++ later) took failures s (longer later some)))

    push-refused : (s : S) (stop : Stop) → Refused split.at (split.rest ++ piece) stop → (later : List ℕ) →
        ComesTo f (span took failures s s) ((bytes ++ piece) ++ later) (Err stop)
    push-refused s stop r later = comes-as f (sym (append_assoc bytes piece later)) (comes-tail f (piece ++ later) took failures s r.tail stop
        (subst (λ l. HasTail split.at l r.tail) (append_assoc split.rest piece later) (r.stands later)) r.stop_is)

    pub push-stops : (new : Splitting) (s : S) (stop : Stop) → 0 < length piece → PushStops split new piece stop → (later : List ℕ) →
        ComesTo f (span took failures s s) ((bytes ++ piece) ++ later) (Err stop)
    push-stops new s (No bit rule) some p = push-refused s (No bit rule) p.0
    push-stops new s (Outside bit feature) some p = push-refused s (Outside bit feature) p.0
    push-stops new s Memory some p = push-memory s Memory refl some
    push-stops new s Read some p = absurd p
    push-stops new s Write some p = absurd p

    module _ {mid new : Splitting} {n : ℕ} (pushed : Pushed split mid piece n) where
      -- no unit is whole yet
      pub goes-push : (s : S) → new ≡ mid → IsFalse mid.waiting → GoesOn f (span took failures s s) (going terms new state) (take n piece)
      goes-push s e w = record {
        made = frames;
        same = agree-none (ended_in f.before) frames;
        more = [];
        tells = tells-none (took_with frames took) s;
        fed = record {
          terms_is = refl;
          family = f.family;
          runs = refl;
          before = f.before;
          keeps = f.keeps;
          shown = subst (λ (m : Splitting). ShowsUnits 0 (bytes ++ take n piece) (in_order f.before []) m.at m.rest) (sym e) (shown-taken pushed);
          undecided = subst (λ (m : Splitting). IsUndecided m.rest) (sym e) (pushed.undecided w);
          legal = subst (AreLegal (extent_by terms) f.before) (sym (append-nil told)) f.legal;
          of = subst (AreOf (ended_in f.before)) (sym (append-nil told)) f.of;
        };
        grows = not-less (ended_in f.before);
        kept = refl;
      }

      module _ {unit : NalUnit} (taken : Taken mid new unit) (live : IsFalse mid.ended) where
        -- a unit is legal
        pub goes-unit : {later : State} {s s' : S} {x : Unit {0}} →
            Turns {X = Unit {0}} (extent_by terms) (frame_span took failures frames s s') f.before unit later (Ok x) →
            GoesOn f (span took failures s s') (going terms new later) (take n piece)
        goes-unit t =
            let o = unit_outcome (extent_by terms) f.before unit in
            let j = joined (extent_by terms) f.before unit o.calls t.after (ap (λ (a : Result History Stop). outcome o.calls a) t.plays.plays.0) in
            let grows = grows-after (extent_by terms) f.before unit o.calls t.after j in
            record {
              made = t.made;
              same = t.same;
              more = o.calls;
              tells = t.plays.plays.1;
              fed = record {
                terms_is = refl;
                family = family-on terms.purpose (ended_in f.before) frames t.made t.same f.family;
                runs = refl;
                before = t.after;
                keeps = t.keeps;
                shown = subst (λ (h : History). ShowsUnits 0 (bytes ++ take n piece) (in_order h []) new.at new.rest) (sym j.after_is)
                    (subst (λ us. ShowsUnits 0 (bytes ++ take n piece) us new.at new.rest) (sym (in-order f.before (unit ∷ [])))
                    (shows-both 0 (bytes ++ take n piece) (in_order f.before []) (unit ∷ []) mid.at new.at mid.rest new.rest (shown-taken pushed)
                    (new.rest, taken.decided live, (taken.at_is, refl))));
                undecided = taken.undecided;
                legal = subst (λ (h : History). AreLegal (extent_by terms) h (told ++ o.calls)) (sym j.after_is) (told, o.calls, f.legal, j.legal, refl);
                of = of-both (ended_in t.after) told o.calls (of-more (ended_in f.before) (ended_in t.after) told grows.0 f.of) grows.1;
              };
              grows = grows.0;
              kept = t.plays.plays.2;
            }

        -- it stops the session
        pub unit-stops : (state' : State) (stop : Stop) (s s' : S) →
            Turns {X = Unit {0}} (extent_by terms) (frame_span took failures frames s s') f.before unit state' (Err stop) →
            (stop ≡ Memory → ChangesFormat terms.depth f.before unit
            × Pauses (frame_span took failures frames s s') (ended_in f.before) (unit_to_data (extent_by terms) f.before unit)) → (later : List ℕ) →
            ComesTo f (span took failures s s') ((bytes ++ piece) ++ later) (Err stop)
        unit-stops state' stop s s' t m later = comes-as f (sym (append_assoc bytes piece later))
            (comes-unit f (piece ++ later) took failures unit (new.rest ++ (drop n piece ++ later)) (unit-next pushed taken live later) state' stop s s' t m)
