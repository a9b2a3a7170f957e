-- A unit that waits is the first of the bytes that are left.
use Rattle.std.proofs.Common.{◌≡◌, ℕ, zero, suc, ◌+◌, ◌*◌, ◌<◌, ◌≤◌, min, inl, inr, Bool, true, false, List, [], ◌∷◌, ◌++◌, length, replicate, Option, Some}
use Rattle.std.proofs.Common.{None, refl, ap, sym, ◌∙◌, subst, arith, append_assoc, length-append}
use Rattle.std.proofs.lemmas.List.{length-replicate}
use Rattle.h264_base.specs.declared.rule.Rule.TheVariants.{EmptyUnit}
use Rattle.h264_base.specs.declared.stop.Stop.{Stop}
use Rattle.h264_base.specs.declared.stop.Stop.TheVariants.{No}
use Rattle.h264_units.specs.declared.scan.Phase.{Phase}
use Rattle.h264_units.specs.declared.scan.Phase.TheVariants.{Inside, Waiting, Last}
use Rattle.h264_units.specs.Stream.{NalUnit, EndsUnit, IsBody, started, past, unit_limit, input_limit, Next, Bare, IsUndecided}
use Rattle.h264_units.specs.Splitting.{Splitting, Taken, FinishStops, stopped_by}
use Rattle.h264_units.specs.Scanned.{third, rest_of, waits, has_ended, IsKept, IsLive}
use Rattle.h264_units.proofs.Streams.{started-append, length-started}

third-low : (code : Bool) → third code < 2
third-low true = omega arith
third-low false = omega arith

abbrev pub splitting : Phase → ℕ → ℕ → List ℕ → Option Stop → Splitting
splitting phase at lead body stop = record { at = at; rest = rest_of phase lead body; waiting = waits phase; ended = has_ended phase; stop = stop }

-- a unit and what follows it
next-unit : (at lead : ℕ) (body rest bytes : List ℕ) → bytes ≡ started lead (body ++ rest) → IsBody body → length body ≤ unit_limit → EndsUnit rest →
    at + lead + 3 + length body + min 3 (length rest) ≤ input_limit → Next at bytes (record { from = at + lead + 3; body = body }) rest
next-unit at lead body rest bytes e b fits ends shown =
    record { first = record { zeros = lead; whole = e; body = b; ends = ends; from = refl }; fits = fits; shown = shown }

live-none : (stop : Option Stop) (code : Bool) → IsLive stop (Waiting code) → stop ≡ None
live-none None code h = refl
live-none (Some stop) code h = absurd h

live-last : (stop : Option Stop) (held : ℕ) → IsLive stop (Last held) → stop ≡ None
live-last None held h = refl
live-last (Some stop) held h = absurd h

-- what is left after a unit shows no other
code-undecided : (code : Bool) → IsUndecided (0 ∷ 0 ∷ third code ∷ [])
code-undecided true = inr (record { zeros = 0; body = []; held = 0; whole = refl; inner = tt; fits = omega arith; few = omega arith })
code-undecided false = inl (3, refl)

pub taken-waiting : (at lead : ℕ) (body : List ℕ) (stop : Option Stop) (code : Bool) (new : Splitting) (unit : NalUnit) → IsKept (Waiting code) at lead body →
    IsLive stop (Waiting code) →
    unit ≡ record { from = at + lead + 3; body = body } → new.at ≡ at + lead + 3 + length body → new.rest ≡ 0 ∷ 0 ∷ third code ∷ [] → new.waiting ≡ false →
    new.ended ≡ false → new.stop ≡ stop →
    Taken (splitting (Waiting code) at lead body stop) new unit
taken-waiting at lead body stop code new unit k live u a r w e s =
    let n : length (started lead (body ++ 0 ∷ 0 ∷ third code ∷ [])) ≡ lead + 3 + (length body + 3) = length-started lead _ ∙
    ap (λ n. lead + 3 + n) (length-append body _) in
    let fits : at + length (started lead (body ++ 0 ∷ 0 ∷ third code ∷ [])) ≤ input_limit = k.1 in
    let first : (more : List ℕ) → Next at (started lead (body ++ 0 ∷ 0 ∷ third code ∷ []) ++ more) unit (new.rest ++ more) = λ more.
    subst (λ v. Next at (started lead (body ++ 0 ∷ 0 ∷ third code ∷ []) ++ more) v (new.rest ++ more)) (sym u)
    (subst (λ l. Next at (started lead (body ++ 0 ∷ 0 ∷ third code ∷ []) ++ more) (record { from = at + lead + 3; body = body }) (l ++ more)) (sym r)
    (next-unit at lead body (0 ∷ 0 ∷ third code ∷ more) _
    (started-append lead (body ++ 0 ∷ 0 ∷ third code ∷ []) more ∙ ap (started lead) (append_assoc body (0 ∷ 0 ∷ third code ∷ []) more)) k.0.0 k.0.1
    (refl, refl, third-low code) (omega arith))) in
    record {
      next = subst (λ v. Next at (started lead (body ++ 0 ∷ 0 ∷ third code ∷ [])) v new.rest) (sym u)
          (subst (λ l. Next at (started lead (body ++ 0 ∷ 0 ∷ third code ∷ [])) (record { from = at + lead + 3; body = body }) l) (sym r)
          (next-unit at lead body (0 ∷ 0 ∷ third code ∷ []) _ refl k.0.0 k.0.1 (refl, refl, third-low code) (omega arith)));
      decided = λ live more. first more;
      last = λ ended. cc;
      at_is = a ∙ ap past (sym u);
      waits_no_more = w;
      undecided = subst IsUndecided (sym r) (code-undecided code);
      ended_is = e;
      stop_is = s ∙ live-none stop code live;
    }

ends-zeros : (zeros : ℕ) → zeros < 3 → EndsUnit (replicate zeros 0)
ends-zeros zero p = tt
ends-zeros (suc zero) p = refl
ends-zeros (suc (suc zero)) p = (refl, refl)
ends-zeros (suc (suc (suc n))) p = absurd (omega arith)

pub taken-last : (at lead : ℕ) (body : List ℕ) (stop : Option Stop) (zeros : ℕ) (new : Splitting) (unit : NalUnit) → IsKept (Last zeros) at lead body →
    IsLive stop (Last zeros) →
    unit ≡ record { from = at + lead + 3; body = body } → new.at ≡ at + lead + 3 + length body → new.rest ≡ replicate zeros 0 → new.waiting ≡ false →
    new.ended ≡ true → new.stop ≡ stop →
    Taken (splitting (Last zeros) at lead body stop) new unit
taken-last at lead body stop zeros new unit k live u a r w e s =
    let z : length {A = ℕ} (replicate zeros 0) ≡ zeros = length-replicate zeros 0 in
    let n : length (started lead (body ++ replicate zeros 0)) ≡ lead + 3 + (length body + zeros) = length-started lead _ ∙
    ap (λ n. lead + 3 + n) (length-append body _ ∙ ap (λ n. length body + n) z) in
    let fits : at + length (started lead (body ++ replicate zeros 0)) ≤ input_limit = k.1 in
    record {
      next = subst (λ v. Next at (started lead (body ++ replicate zeros 0)) v new.rest) (sym u)
          (subst (λ l. Next at (started lead (body ++ replicate zeros 0)) (record { from = at + lead + 3; body = body }) l) (sym r)
          (next-unit at lead body (replicate zeros 0) _ refl k.0.1 k.0.2 (ends-zeros zeros k.0.0) (omega arith)));
      decided = λ live more. cc;
      last = λ ended. (zeros, r, omega arith);
      at_is = a ∙ ap past (sym u);
      waits_no_more = w;
      undecided = inl (zeros, r);
      ended_is = e;
      stop_is = s ∙ live-last stop zeros live;
    }

pub bare-finish : (at lead : ℕ) (body : List ℕ) (held : ℕ) (new : Splitting) → IsKept (Inside held) at lead body → length body ≡ 0 →
    new ≡ stopped_by (No (8 * (at + lead + 3)) EmptyUnit) (splitting (Inside held) at lead body None) →
    FinishStops (splitting (Inside held) at lead body None) new (No (8 * (at + lead + 3)) EmptyUnit)
bare-finish at lead [] held new k none e =
    let z : length {A = ℕ} (replicate held 0) ≡ held = length-replicate held 0 in
    let n : length (started lead (replicate held 0)) ≡ lead + 3 + held = length-started lead _ ∙ ap (λ n. lead + 3 + n) z in
    let fits : at + length (started lead (replicate held 0)) ≤ input_limit = k.1 in
    record {
      tail = Bare (at + lead + 3);
      stop_is = refl;
      stands = record { zeros = lead; rest = replicate held 0; whole = refl; ends = ends-zeros held k.0.0; place_is = refl; shown = omega arith };
      new_is = e;
    }
bare-finish at lead (x ∷ body) held new k none e = absurd (omega arith)

pub taken-along : (old old' new new' : Splitting) (unit : NalUnit) → old ≡ old' → new ≡ new' → Taken old new unit → Taken old' new' unit
taken-along old old' new new' unit e f t = subst (λ o. Taken o new' unit) e (subst (λ n. Taken old n unit) f t)

pub finish-along : (old old' new : Splitting) (stop : Stop) → old ≡ old' → FinishStops old new stop → FinishStops old' new stop
finish-along old old' new stop e t = subst (λ o. FinishStops o new stop) e t
