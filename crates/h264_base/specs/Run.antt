-- A grammar run on the bits of a body: the elements, and the answer. A working form.
use Rattle.std.specs.Prelude.{ℕ, ◌+◌, ◌*◌, not, List, [], ◌∷◌, length, ℤ, Option, Some, None, nat_le, if◌then◌else◌, Result, Ok, Err}
use Rattle.h264_base.specs.declared.element_name.ElementName.{ElementName}
use Rattle.h264_base.specs.declared.rule.Rule.{Rule}
use Rattle.h264_base.specs.declared.rule.Rule.TheVariants.{CodeWord, Trailing}
use Rattle.h264_base.specs.declared.stop.Stop.{Stop}
use Rattle.h264_base.specs.declared.stop.Stop.TheVariants.{No, Outside}
use Rattle.h264_base.specs.Word.{value_at, closes_at, ends_at, no_zero_at, padding}
use Rattle.h264_base.specs.Call.{Call, OfElement}
use Rattle.h264_base.specs.Body.{Body, place}
use Rattle.h264_base.specs.Grammar.{Grammar, Element, Found, found, ahead, bytes_at, Done, Read, Check, Support, More, Align, Bytes, Close}

-- the elements, and then the value with the place after it, or the stop
pub record Run (A : Type 0) : Type 0 where
  pub elements : List Element
  pub answer : Result (A × ℕ) Stop

abbrev pub with_element : {A : Type 0} → Element → Run A → Run A
with_element e r = record { elements = e ∷ r.elements; answer = r.answer }

abbrev pub stopped : {A : Type 0} → Stop → Run A
stopped s = record { elements = []; answer = Err s }

abbrev pub element_run : {A : Type 0} → Body → ElementName → Rule → ℕ → (ℕ → Found → Run A) → Option (ℤ × ℕ) → Run A
element_run body name rule i next None = stopped (No (place body i) rule)
element_run body name rule i next (Some x) =
    let e : Element = record { name = name; from = i; to = x.1; value = x.0 } in with_element e (next e.to (found body e))

-- a run that goes on unless there is a bit that breaks the alignment
abbrev pub align_run : {A : Type 0} → Body → Run A → Option ℕ → Run A
align_run body next None = next
align_run body next (Some j) = stopped (No (place body j) CodeWord)

unfoldable pub run : {A : Type 0} → Grammar A → Body → ℕ → Run A
run (Done x) body i = record { elements = []; answer = Ok (x, i) }
run (Read name rule code k) body i = element_run body name rule i (λ j e. run (k e) body j) (value_at code body.bytes i)
run (Check rule at holds g) body i = if holds then run g body i else stopped (No at rule)
run (Support feature at holds g) body i = if holds then run g body i else stopped (Outside at feature)
run (More k) body i = run (k (ahead body i (not (ends_at body.bytes i)))) body i
run (Align g) body i = align_run body (run g body (i + padding i)) (no_zero_at (padding i) body.bytes i)
run (Bytes n k) body i =
    if nat_le (i + 8 * n) (8 * length body.bytes) then run (k (bytes_at n body.bytes i)) body (i + 8 * n)
    else stopped (No (place body (8 * length body.bytes)) CodeWord)
run (Close g) body i = if closes_at body.bytes i then run g body (8 * length body.bytes) else stopped (No (place body i) Trailing)

-- what the sink is told of an element
abbrev pub call_of : Body → Element → Call
call_of body e = OfElement e.name (place body e.from) e.value
