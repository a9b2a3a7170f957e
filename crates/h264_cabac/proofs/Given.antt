-- Bins of a decoder, by those of its engine.
use Rattle.std.proofs.Common.{◌≡◌, ◌∙◌, ℕ, zero, suc, ◌+◌, ◌*◌, Bool, List, map, Option, Some, None, Ok, Err, Result, refl, sym, ap}
use Rattle.std.specs.Option.{option_map, option_and_then}
use Rattle.h264_base.specs.Word.{digit}
use Rattle.std.specs.Prelude.{slice_get, slice_set}
use Rattle.std.proofs.lemmas.Option.{slice_get-map}
use Rattle.std.proofs.lemmas.List.{map-set}
use Rattle.h264_bits.specs.declared.bits.NoWord.{NoWord}
use Rattle.h264_cabac.specs.declared.context.Context.{Context}
use Rattle.h264_cabac.specs.Engine.{EngineState, ContextState, Decoded, decision, bypass, bypass_number, terminate}
use Rattle.h264_cabac.specs.Bins.{DecoderState, regular_step, bypass_step, terminate_step, decoded, without_context}
use Rattle.h264_cabac.specs.Given.{state_of, Gives, GivesBin, GivesNumber, GivesStep}
use Rattle.h264_cabac.specs.Elements.{number_from}

pub bypass-given : (d : DecoderState) (new : EngineState) (r : Result Bool NoWord) → GivesBin (bypass d.engine) new r →
    GivesStep (bypass_step d) (record { engine = new; contexts = d.contexts }) r
unfolding bypass_step
bypass-given d new (Ok b) e = rw e refl
bypass-given d new (Err x) e = rw e refl

pub terminate-given : (d : DecoderState) (new : EngineState) (r : Result Bool NoWord) → GivesBin (terminate d.engine) new r →
    GivesStep (terminate_step d) (record { engine = new; contexts = d.contexts }) r
unfolding terminate_step
terminate-given d new (Ok b) e = rw e refl
terminate-given d new (Err x) e = rw e refl

-- a number of bins, with the decoder after it
abbrev with_number : List ContextState → ℕ × EngineState → ℕ × DecoderState
with_number contexts r = (r.0, record { engine = r.1; contexts = contexts })

one-bin : (n acc : ℕ) (d : DecoderState) (o : Option Decoded) →
    ((b : Bool) (e : EngineState) → decoded (number_from n (2 * acc + digit b)) (record { engine = e; contexts = d.contexts }) ≡
    option_map (with_number d.contexts) (bypass_number n (2 * acc + digit b) e)) →
    option_and_then (λ s. decoded (number_from n (2 * acc + digit s.bin)) s.decoder) (option_map (without_context d) o) ≡
    option_map (with_number d.contexts) (option_and_then (λ s. bypass_number n (2 * acc + digit s.bin) s.engine) o)
one-bin n acc d None h = refl
one-bin n acc d (Some s) h = h s.bin s.engine

numbers : (n acc : ℕ) (d : DecoderState) → decoded (number_from n acc) d ≡ option_map (with_number d.contexts) (bypass_number n acc d.engine)
unfolding number_from bypass_number bypass_step
numbers zero acc d = refl
numbers (suc n) acc d =
    one-bin n acc d (bypass d.engine) (λ b e. numbers n (2 * acc + digit b) (record { engine = e; contexts = d.contexts }))

pub number-given : (n : ℕ) (d : DecoderState) (new : EngineState) (r : Result ℕ NoWord) → GivesNumber (bypass_number n 0 d.engine) new r →
    Gives (number_from n 0) d (record { engine = new; contexts = d.contexts }) r
number-given n d new (Ok v) e = numbers n 0 d ∙ ap (option_map (with_number d.contexts)) e
number-given n d new (Err x) e = numbers n 0 d ∙ ap (option_map (with_number d.contexts)) e

pub regular-given : (engine new : EngineState) (xs : List Context) (index : ℕ) (x y : Context) (b : Bool) → slice_get xs index ≡ Some x →
    decision (state_of x) engine ≡ Some (record { bin = b; context = state_of y; engine = new }) →
    regular_step index (record { engine = engine; contexts = map state_of xs }) ≡
    Some (record { bin = b; decoder = record { engine = new; contexts = map state_of (slice_set xs index y) } })
unfolding regular_step
regular-given engine new xs index x y b is e =
    rw (slice_get-map state_of xs index, is, e) (ap (λ (cs : List ContextState). Some (record { bin = b; decoder = record { engine = new; contexts = cs } }))
    (sym (map-set state_of xs index y)))

pub regular-lost : (engine : EngineState) (xs : List Context) (index : ℕ) (x : Context) → slice_get xs index ≡ Some x → decision (state_of x) engine ≡ None →
    regular_step index (record { engine = engine; contexts = map state_of xs }) ≡ None
unfolding regular_step
regular-lost engine xs index x is e = rw (slice_get-map state_of xs index, is, e) refl
