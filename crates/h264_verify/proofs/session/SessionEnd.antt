-- The end of the input of a session.
use Rattle.std.proofs.Common.{◌≡◌, ℕ, ◌+◌, ◌*◌, ◌<◌, ◌==◌, ◌||◌, ◌&&◌, Bool, true, false, IsFalse, List, [], ◌∷◌, ◌++◌, length}
use Rattle.std.proofs.Common.{Result, Ok, Err, refl, ap, sym, ◌∙◌, subst, arith, append_assoc}
use Rattle.std.proofs.lemmas.List.{append-nil}
use Rattle.h264_base.specs.declared.stop.Stop.{Stop}
use Rattle.h264_base.specs.declared.stop.Stop.TheVariants.{No, Outside, Memory, Read, Write}
use Rattle.h264_base.specs.declared.summary.Summary.{Summary}
use Rattle.h264_base.specs.Call.{Call, span}
use Rattle.h264_units.specs.Stream.{NalUnit, Next, past, Zeros, HasTail, Splits}
use Rattle.h264_units.specs.Splitting.{Splitting, Taken, Finished, FinishStops}
use Rattle.h264_units.proofs.Streams.{same-units, first-length}
use Rattle.h264_verify.specs.declared.state.Extent.{Extent}
use Rattle.h264_verify.specs.declared.state.State.{State}
use Rattle.h264_verify.specs.declared.state.Terms.{Terms}
use Rattle.h264_verify.specs.History.{History}
use Rattle.h264_verify.specs.Keeping.{ended_in}
use Rattle.h264_verify.specs.Memory.{ChangesFormat, is_read}
use Rattle.h264_verify.specs.Outcome.{Outcome, PlaysBy}
use Rattle.h264_verify.specs.Telling.{Told, Tells, Family, took_with, frame_span}
use Rattle.h264_verify.specs.Turning.{Turns, Pauses, EndsAll}
use Rattle.h264_verify.specs.UnitOutcome.{unit_outcome, unit_to_data, end_outcome}
use Rattle.h264_verify.specs.Units.{extent_by}
use Rattle.h264_verify.specs.Verdict.{in_order, AreLegal, AtEnd, Verdict, Whole, JudgedBy}
use Rattle.h264_verify.specs.Progress.{Progress, going, LastIsRead}
use Rattle.h264_verify.specs.declared.state.Depth.{Depth}
use Rattle.h264_units.specs.UnitHeader.{header_of, nal_unit_type, is_slice}
use Rattle.h264_verify.specs.Feeding.{WasFed, ComesTo}
use Rattle.h264_verify.proofs.laws.AfterLegal.{holds-after, stops-after, after-end, joined, ended, unended}
use Rattle.h264_verify.proofs.language.Courses.{outcome}
use Rattle.h264_verify.proofs.samples.FamiliesAgree.{tells-agree}
use Rattle.h264_verify.proofs.session.SessionUnits.{next-some, shows-length}
use Rattle.h264_verify.proofs.session.SessionSteps.{grows-after, comes-as, agree-both, judged-after}
use Rattle.h264_verify.proofs.session.SessionRest.{comes-memory, comes-tail, comes-unit, rest-tail, rest-from}

-- what the end comes to after legal units
module _ {S : Type 0} (extent : Extent) (took : S → List Told → Type 0) (failures : S → ℕ) (bytes : List ℕ) (before : History) (told : List Told)
    (legal : AreLegal extent before told) (stream : Splits 0 bytes (in_order before []) Zeros) (s s' : S) where
  abbrev end_comes : Outcome Summary
  end_comes = end_outcome extent.depth before (8 * length bytes)

  abbrev EndPlays : Result Summary Stop → Type 0
  EndPlays r = PlaysBy (span took failures s s') (λ (x : Summary). x) end_comes r

  end-stop : (stop : Stop) → end_comes.answer ≡ Err stop → Tells took s s' end_comes.calls → Whole extent (span took failures s s') bytes told (Err stop)
  end-stop stop e t = record {
    more = end_comes.calls;
    tells = t;
    verdict = stops-after extent bytes before told legal [] Zeros end_comes.calls stop stream
        (AtEnd refl refl (unended extent before (8 * length bytes) end_comes.calls stop (ap (λ (a : Result Summary Stop). outcome end_comes.calls a) e)));
  }

  end-whole : (x : Summary) → end_comes.answer ≡ Ok x → Tells took s s' end_comes.calls → Whole extent (span took failures s s') bytes told (Ok x)
  end-whole x e t =
      let h = ended extent before (8 * length bytes) end_comes.calls x (ap (λ (a : Result Summary Stop). outcome end_comes.calls a) e) in
      record {
        more = end_comes.calls;
        tells = t;
        verdict = subst (λ (w : Summary). Verdict extent bytes (told ++ end_comes.calls) (Ok w)) (sym h.summary_is)
            (holds-after extent bytes before told end_comes.calls legal stream h.met);
      }

  end-judged : (r : Result Summary Stop) → EndPlays r → (r ≡ Err Memory → ⊥) → JudgedBy extent (span took failures s s') bytes told r
  end-judged (Ok x) p n = (end-whole x p.0 p.1, p.2)
  end-judged (Err (No bit rule)) p n = (end-stop (No bit rule) p.0 p.1, p.2)
  end-judged (Err (Outside bit feature)) p n = (end-stop (Outside bit feature) p.0 p.1, p.2)
  end-judged (Err Memory) p n = absurd (n refl)
  end-judged (Err Read) p n = absurd p
  end-judged (Err Write) p n =
      let v = after-end extent bytes before told legal stream in (
        record {
          more = p.0.front;
          tells = p.0.tells;
          rest = p.0.rest ++ v.calls;
          answer = v.answer;
          verdict = subst (λ l. Verdict extent bytes l v.answer)
              (ap (λ l. (told ++ l) ++ v.calls) p.0.whole ∙ ap (λ l. l ++ v.calls) (sym (append_assoc told p.0.front p.0.rest)) ∙
              append_assoc (told ++ p.0.front) p.0.rest v.calls) v.verdict;
        },
        p.1,
      )

-- the session's last place is the end of the input
last-place : {terms : Terms} {session : Progress} {bytes : List ℕ} {frames : Family} {told : List Told} (f : WasFed terms session bytes frames told) →
    session.split.at + length session.split.rest ≡ length bytes
last-place {session} {bytes} f = let e = shows-length 0 bytes (in_order f.before []) session.split.at session.split.rest f.shown in omega (arith, e)

module _ {split mid new : Splitting} {unit : NalUnit} (finished : Finished split mid) (taken : Taken mid new unit) where
  last-next : Next split.at (split.rest ++ []) unit new.rest
  last-next = subst (λ a. Next a (split.rest ++ []) unit new.rest) finished.at_is
      (subst (λ l. Next mid.at l unit new.rest) (finished.rest_is ∙ sym (append-nil split.rest)) taken.next)

  last-length : new.at + length new.rest ≡ split.at + length split.rest
  last-length = ap (λ a. a + length new.rest) taken.at_is ∙ first-length split.at (split.rest ++ []) unit new.rest last-next.first ∙
      ap (λ (l : List ℕ). split.at + length l) (append-nil split.rest)

module _ {terms : Terms} {split : Splitting} {state : State} {bytes : List ℕ} {frames : Family} {told : List Told}
    (f : WasFed terms (going terms split state) bytes frames told) {S : Type 0} {took : S → List Call → Type 0} {failures : S → ℕ} where
  -- what is left leads to a stop
  pub finish-stops : (new : Splitting) (s : S) (stop : Stop) → FinishStops split new stop → ComesTo f (span took failures s s) bytes (Err stop)
  finish-stops new s stop h = comes-as f (append-nil bytes) (comes-tail f [] took failures s h.tail stop
      (subst (λ l. HasTail split.at l h.tail) (sym (append-nil split.rest)) h.stands) h.stop_is)

  -- memory was refused for the bytes of the last unit
  pub finish-memory : (s : S) (stop : Stop) → stop ≡ Memory → 0 < length split.rest → ComesTo f (span took failures s s) bytes (Err stop)
  finish-memory s stop e some =
      subst (λ (x : Stop). ComesTo f (span took failures s s) bytes (Err x)) (sym e)
      (comes-as f (append-nil bytes) (comes-memory f [] took failures s (subst (λ (l : List ℕ). 0 < length l) (sym (append-nil split.rest)) some)))

  module _ {mid : Splitting} (finished : Finished split mid) where
    -- no unit is left
    pub finish-end : (new : Splitting) (s s' : S) (end : ℕ) (r : Result Summary Stop) → IsFalse mid.waiting → new ≡ mid → end ≡ new.at + length new.rest →
        (r ≡ Err Memory → ⊥) → EndsAll terms.depth (frame_span took failures frames s s') f.before (8 * end) (λ (x : Summary). x) r →
        ComesTo f (span took failures s s') bytes r
    finish-end new s s' end r w e n quiet last =
        let l : end ≡ length bytes =
        n ∙ ap (λ (z : Splitting). z.at + length z.rest) e ∙ ap (λ a. a + length mid.rest) finished.at_is ∙
        ap (λ (l : List ℕ). split.at + length l) finished.rest_is ∙ last-place f in
        let stream : Splits 0 bytes (in_order f.before []) Zeros = subst (λ l. Splits 0 l (in_order f.before []) Zeros) (append-nil bytes)
        (rest-tail f [] Zeros (subst (λ l. HasTail split.at l Zeros) (sym (append-nil split.rest)) (finished.zeros w))) in
        record {
          made = last.made;
          same = last.same;
          judged = end-judged (extent_by terms) (took_with last.made took) failures bytes f.before told f.legal stream s s' r
              (subst (λ z. PlaysBy (span (took_with last.made took) failures s s') (λ (x : Summary). x) (end_outcome terms.depth f.before (8 * z)) r) l
              last.plays.plays) quiet;
        }

    module _ {new : Splitting} {unit : NalUnit} (taken : Taken mid new unit) where
      -- the last unit stops the session
      pub finish-unit : (state' : State) (stop : Stop) (s s' : S) →
          Turns {X = Unit {0}} (extent_by terms) (frame_span took failures frames s s') f.before unit state' (Err stop) →
          (stop ≡ Memory → ChangesFormat terms.depth f.before unit
          × Pauses (frame_span took failures frames s s') (ended_in f.before) (unit_to_data (extent_by terms) f.before unit)) →
          ComesTo f (span took failures s s') bytes (Err stop)
      finish-unit state' stop s s' t m =
          comes-as f (append-nil bytes) (comes-unit f [] took failures unit new.rest (last-next finished taken) state' stop s s' t m)

      -- it is legal, and then comes the end
      pub finish-both : {later : State} (s s' s'' : S) (x : Unit {0}) (end : ℕ) (r : Result Summary Stop) → end ≡ new.at + length new.rest →
          (r ≡ Err Memory → ⊥) → (t : Turns {X = Unit {0}} (extent_by terms) (frame_span took failures frames s s') f.before unit later (Ok x)) →
          EndsAll terms.depth (frame_span took failures t.made s' s'') t.after (8 * end) (λ (y : Summary). y) r →
          ComesTo f (span took failures s s'') bytes r
      finish-both s s' s'' x end r n quiet t last =
          let ext = extent_by terms in
          let o = unit_outcome ext f.before unit in
          let j = joined ext f.before unit o.calls t.after (ap (λ (a : Result History Stop). outcome o.calls a) t.plays.plays.0) in
          let grows = grows-after ext f.before unit o.calls t.after j in
          let legal : AreLegal ext t.after (told ++ o.calls) =
          subst (λ (h : History). AreLegal ext h (told ++ o.calls)) (sym j.after_is) (told, o.calls, f.legal, j.legal, refl) in
          let from = rest-from f [] unit new.rest (last-next finished taken) in
          let none = same-units (past unit) new.rest from.units [] from.tail Zeros from.left
          (subst (λ a. HasTail a new.rest Zeros) taken.at_is (taken.last finished.ended_is)) in
          let stream : Splits 0 bytes (in_order t.after []) Zeros =
          subst (λ (h : History). Splits 0 bytes (in_order h []) Zeros) (sym j.after_is)
          (subst (λ l. Splits 0 l (in_order f.before (unit ∷ [])) Zeros) (append-nil bytes)
          (subst (λ z. Splits 0 (bytes ++ []) (in_order f.before (unit ∷ [])) z) none.tail_is
          (subst (λ us. Splits 0 (bytes ++ []) (in_order f.before (unit ∷ us)) from.tail) none.units_are from.stream))) in
          let l : end ≡ length bytes = n ∙ last-length finished taken ∙ last-place f in
          record {
            made = last.made;
            same = agree-both (ended_in f.before) (ended_in t.after) frames t.made last.made t.same grows.0 last.same;
            judged = judged-after ext (took_with last.made took) failures bytes told o.calls s s' s''
                (tells-agree took (ended_in t.after) t.made last.made s s' o.calls last.same grows.1 t.plays.plays.1) r t.plays.plays.2
                (end-judged ext (took_with last.made took) failures bytes t.after (told ++ o.calls) legal stream s' s'' r
                (subst (λ z. PlaysBy (span (took_with last.made took) failures s' s'') (λ (y : Summary). y) (end_outcome terms.depth t.after (8 * z)) r) l
                last.plays.plays) quiet);
          }

-- ---- what memory may be wanting for at the end of the input

-- a unit was left open, and is read
pub last-read : (depth : Depth) (old mid new : Splitting) (unit : NalUnit) → Finished old mid → Taken mid new unit → is_read depth unit ≡ true →
    LastIsRead depth old
last-read depth old mid new unit f t r = record {
  unit = unit;
  rest = new.rest;
  next = subst (λ (a : ℕ). Next a old.rest unit new.rest) f.at_is (subst (λ (l : List ℕ). Next mid.at l unit new.rest) f.rest_is t.next);
  read = r;
}

-- so bytes were left
pub last-some : (old mid new : Splitting) (unit : NalUnit) → Finished old mid → Taken mid new unit → 0 < length old.rest
last-some old mid new unit f t = subst (λ (l : List ℕ). 0 < length l) f.rest_is (next-some mid.at mid.rest unit new.rest t.next)

or-slice : (x y z : Bool) → z ≡ true → (x || y || z && true) ≡ true
or-slice true y z e = refl
or-slice false true z e = refl
or-slice false false true e = refl
or-slice false false false e = cc

-- a unit whose slice begins a picture of another format is
pub changes-read : (depth : Depth) (before : History) (unit : NalUnit) → ChangesFormat depth before unit → is_read depth unit ≡ true
changes-read depth before unit c =
    let kind = nal_unit_type (header_of unit) in
    subst (λ (m : Depth). is_read m unit ≡ true) (sym c.full) (or-slice (kind == 7) (kind == 8) (is_slice kind) c.slice)
