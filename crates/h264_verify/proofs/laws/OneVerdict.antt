-- A stream has one verdict, with one list of calls and one derivation.
use Rattle.std.proofs.Common.{◌≡◌, ℕ, ◌*◌, List, [], ◌∷◌, ◌++◌, length, Option, Some, None, Result, Ok, Err, refl, ap, sym, ◌∙◌, arith, append_assoc}
use Rattle.h264_base.specs.declared.stop.Stop.{Stop}
use Rattle.h264_base.specs.declared.stop.Stop.TheVariants.{Memory}
use Rattle.h264_base.specs.declared.summary.Summary.{Summary}
use Rattle.h264_base.specs.Call.{Call, span}
use Rattle.h264_units.specs.Stream.{NalUnit, Tail, Zeros, Splits, tail_stop}
use Rattle.h264_units.proofs.Streams.{same-units}
use Rattle.h264_units.proofs.Total.{some-split}
use Rattle.h264_verify.specs.declared.state.Extent.{Extent}
use Rattle.h264_verify.specs.History.{History}
use Rattle.h264_verify.specs.Outcome.{Outcome, with_calls, answers}
use Rattle.h264_verify.specs.Telling.{Told, Family, IsFamilyFor, took_with}
use Rattle.h264_verify.specs.UnitOutcome.{unit_outcome, end_outcome}
use Rattle.h264_verify.specs.Units.{summary_of, extent_by}
use Rattle.h264_verify.specs.declared.state.Terms.{Terms}
use Rattle.h264_verify.specs.Verdict.{in_order, AreLegal, Holds, IsStopAfter, AtNext, AtTail, AtEnd, StopsAt, Verdict, remainder, BeforeNext, Judged}
use Rattle.h264_verify.proofs.language.Courses.{outcome}
use Rattle.h264_verify.proofs.language.ToldTogether.{tells-none}
use Rattle.h264_verify.proofs.laws.AfterLegal.{legal-unit, stop-unit, met-end, unmet-end, SomeAfter, some-after}

-- what all units of a stream come to, one after another: those that are legal, and the outcome
record Judgement : Type 0 where
  reached : History
  comes_to : Outcome Summary

-- after these calls
abbrev told_first : List Told → Judgement → Judgement
told_first calls j = record { reached = j.reached; comes_to = with_calls calls j.comes_to }

abbrev unless : Option Stop → Outcome Summary → Outcome Summary
unless None o = o
unless (Some stop) o = answers (Err stop)

abbrev after_unit : History → List Told → Result History Stop → (History → Judgement) → Judgement
after_unit before calls (Ok after) next = told_first calls (next after)
after_unit before calls (Err stop) next = record { reached = before; comes_to = outcome calls (Err stop) }

module _ (extent : Extent) (tail : Tail) (end : ℕ) where
  abbrev judgement : History → List NalUnit → Judgement
  judgement before [] = record { reached = before; comes_to = unless (tail_stop tail) (end_outcome extent.depth before (8 * end)) }
  judgement before (unit ∷ units) =
      after_unit before (unit_outcome extent before unit).calls (unit_outcome extent before unit).answer (λ after. judgement after units)

  first-unit : (before : History) (unit : NalUnit) (units : List NalUnit) (calls : List Told) (answer : Result History Stop) →
      unit_outcome extent before unit ≡ outcome calls answer →
      judgement before (unit ∷ units) ≡ after_unit before calls answer (λ after. judgement after units)
  first-unit before unit units calls answer e = ap (λ (o : Outcome History). after_unit before o.calls o.answer (λ after. judgement after units)) e

  first-both : (xs ys : List Told) (j : Judgement) → told_first xs (told_first ys j) ≡ told_first (xs ++ ys) j
  first-both xs ys j = ap (λ (l : List Told). let k : Judgement = record { reached = j.reached; comes_to = outcome l j.comes_to.answer } in k)
      (sym (append_assoc xs ys j.comes_to.calls))

  -- legal units come to their calls
  legal-first : (reads : History) (units : List NalUnit) (calls : List Told) → AreLegal extent reads calls →
      judgement [] (in_order reads units) ≡ told_first calls (judgement reads units)
  legal-first [] units calls l = rw l refl
  legal-first (r ∷ before) units calls l =
      legal-first before (r.unit ∷ units) l.0 l.2
      ∙ ap (told_first l.0) (first-unit before r.unit units l.1 (Ok (r ∷ before)) (legal-unit extent before r l.1 l.3))
      ∙ first-both l.0 l.1 (judgement (r ∷ before) units)
      ∙ ap (λ c. told_first c (judgement (r ∷ before) units)) (sym l.4)

  -- and then the verdict falls
  stop-last : (before : History) (units : List NalUnit) (stop : Stop) (calls : List Told) →
      IsStopAfter extent before (remainder units tail end) stop calls → judgement before units ≡
      record { reached = before; comes_to = outcome calls (Err stop) }
  stop-last before units stop calls (AtNext unit later e h) =
      ap (judgement before) e ∙ first-unit before unit later calls (Err stop) (stop-unit extent before unit stop calls h)
  stop-last before units stop calls (AtTail e h n) =
      ap (judgement before) e
      ∙ ap (λ (t : Option Stop). let k : Judgement = record { reached = before; comes_to = unless t (end_outcome extent.depth before (8 * end)) } in k) h
      ∙ ap (λ (c : List Told). let k : Judgement = record { reached = before; comes_to = outcome c (Err stop) } in k) (sym n)
  stop-last before units stop calls (AtEnd e t h) =
      ap (judgement before) e
      ∙ ap (λ (z : Tail). let k : Judgement = record { reached = before; comes_to = unless (tail_stop z) (end_outcome extent.depth before (8 * end)) } in k) t
      ∙ ap (λ (o : Outcome Summary). let k : Judgement = record { reached = before; comes_to = o } in k) (unmet-end extent before (8 * end) calls stop h)

-- the judgement on bytes
module _ (extent : Extent) (bytes : List ℕ) where
  abbrev of_bytes : Judgement
  of_bytes = let v = some-split 0 bytes (omega arith) in judgement extent v.tail (length bytes) [] v.units

  as-split : (units : List NalUnit) (tail : Tail) → Splits 0 bytes units tail → of_bytes ≡ judgement extent tail (length bytes) [] units
  as-split units tail s =
      let v = some-split 0 bytes (omega arith) in
      let same = same-units 0 bytes v.units units v.tail tail v.splits s in
      ap (λ (us : List NalUnit). judgement extent v.tail (length bytes) [] us) same.units_are ∙
      ap (λ (t : Tail). judgement extent t (length bytes) [] units) same.tail_is

  holds-is : (calls : List Told) (summary : Summary) (h : Holds extent bytes calls summary) →
      of_bytes ≡ record { reached = h.units; comes_to = outcome calls (Ok summary) }
  holds-is calls summary h =
      as-split (in_order h.units []) Zeros h.stream
      ∙ legal-first extent Zeros (length bytes) h.units [] h.first h.legal
      ∙ ap (λ (o : Outcome Summary). let k : Judgement = record { reached = h.units; comes_to = with_calls h.first o } in k)
      (met-end extent h.units (8 * length bytes) h.last h.end)
      ∙ ap (λ (c : List Told). let k : Judgement = record { reached = h.units; comes_to = outcome c (Ok (summary_of extent.depth h.units)) } in k)
      (sym h.calls_are)
      ∙ ap (λ (w : Summary). let k : Judgement = record { reached = h.units; comes_to = outcome calls (Ok w) } in k) (sym h.summary_is)

  stops-is : (calls : List Told) (stop : Stop) (h : StopsAt extent bytes calls stop) →
      of_bytes ≡ record { reached = h.before; comes_to = outcome calls (Err stop) }
  stops-is calls stop h =
      as-split (in_order h.before h.units) h.tail h.stream
      ∙ legal-first extent h.tail (length bytes) h.before h.units h.first h.legal
      ∙ ap (told_first h.first) (stop-last extent h.tail (length bytes) h.before h.units stop h.last h.stops)
      ∙ ap (λ (c : List Told). let k : Judgement = record { reached = h.before; comes_to = outcome c (Err stop) } in k) (sym h.calls_are)

  verdict-is : (calls : List Told) (answer : Result Summary Stop) → Verdict extent bytes calls answer → of_bytes.comes_to ≡ outcome calls answer
  verdict-is calls (Ok summary) h = ap (λ (j : Judgement). j.comes_to) (holds-is calls summary h)
  verdict-is calls (Err stop) h = ap (λ (j : Judgement). j.comes_to) (stops-is calls stop h)

  pub one-verdict : (calls others : List Told) (one other : Result Summary Stop) → Verdict extent bytes calls one → Verdict extent bytes others other →
      (calls ≡ others) × (one ≡ other)
  one-verdict calls others one other a b =
      let e = sym (verdict-is calls one a) ∙ verdict-is others other b in
      (ap (λ (o : Outcome Summary). o.calls) e, ap (λ (o : Outcome Summary). o.answer) e)

  pub some-verdict : SomeAfter extent bytes []
  some-verdict = let v = some-split 0 bytes (omega arith) in some-after extent bytes [] [] refl v.units v.tail v.splits

  -- the same units with the same contents
  pub one-whole : (told others : List Told) (summary other : Summary) (h : Holds extent bytes told summary) (k : Holds extent bytes others other) →
      h.units ≡ k.units
  one-whole told others summary other h k = ap (λ (j : Judgement). j.reached) (sym (holds-is told summary h) ∙ holds-is others other k)

  pub one-stop : (told others : List Told) (stop other : Stop) (h : StopsAt extent bytes told stop) (k : StopsAt extent bytes others other) →
      h.before ≡ k.before
  one-stop told others stop other h k = ap (λ (j : Judgement). j.reached) (sym (stops-is told stop h) ∙ stops-is others other k)

-- Memory was refused before the first byte.
pub none-judged : {S : Type 0} (terms : Terms) (took : S → List Call → Type 0) (failures : S → ℕ) (bytes : List ℕ) (frames : Family) (s : S) →
    IsFamilyFor terms.purpose frames → Judged terms (span took failures s s) bytes frames [] (Err Memory)
none-judged terms took failures bytes frames s h =
    let split = some-split 0 bytes (omega arith) in
    let v = some-verdict (extent_by terms) bytes in
    record {
      made = frames;
      family = h;
      same = record { calls = refl; decoded = λ x. x };
      judged = (
        record { more = []; tells = tells-none (took_with frames took) s; rest = v.calls; answer = v.answer; verdict = v.verdict },
        refl,
        record {
          more = [];
          tells = tells-none (took_with frames took) s;
          wants = record {
            before = [];
            units = split.units;
            tail = split.tail;
            stream = split.splits;
            first = [];
            last = [];
            legal = refl;
            place = 0;
            left = bytes;
            stands = (refl, refl);
            wants = BeforeNext refl (λ m. absurd (omega (arith, m)));
            calls_are = refl;
          };
        },
      );
    }
