-- The steps of the engine, as its register takes them.
use Rattle.std.proofs.Common.{◌≡◌, ℕ, ◌+◌, ◌*◌, ◌-◌, ◌/◌, ◌%◌, ◌^◌, ◌<◌, ◌≤◌, Bool, true, false, not, List, length, Option, Some, None, refl, sym, ap}
use Rattle.std.proofs.Common.{◌∙◌, arith, inl, inr}
use Rattle.std.specs.Option.{option_map}
use Rattle.std.proofs.lemmas.Nat.{mod-mul-add}
use Rattle.std.proofs.lemmas.Bool.{lt-ltb, le-ltb, cases_lt}
use Rattle.h264_base.specs.Word.{digit}
use Rattle.h264_bits.specs.Peek.{peek_at, bit_or_zero}
use Rattle.h264_bits.proofs.Peeks.{bit-inside, bit-outside, peek-split, peek-below, peek-top, number-inside, number-outside}
use Rattle.h264_cabac.specs.declared.register.Register.{Register}
use Rattle.h264_cabac.specs.Engine.{EngineState, ContextState, initialised, renormalized, without_range, range_lps}
use Rattle.h264_cabac.specs.Engine.{after_most_probable, after_least_probable, decision, bypass, terminate}
use Rattle.h264_cabac.specs.Register.{IsRegister, IsReady, engine_of}
use Rattle.h264_cabac.proofs.Registers.{passed-offset, passed-stands}
use Rattle.h264_cabac.proofs.Parts.{offset-below}

map-map : {A B C : Type 0} (g : B → C) (f : A → B) (o : Option A) → option_map g (option_map f o) ≡ option_map (λ x. g (f x)) o
map-map g f None = refl
map-map g f (Some x) = refl

-- a step that renormalizes a register
pub record Renormalizes (bytes : List ℕ) (e : EngineState) (o : Option Register) : Type 0 where
  pub front : Register
  pub same : engine_of bytes front ≡ e
  pub gives : option_map (engine_of bytes) o ≡ renormalized (engine_of bytes front)

renormalizes : {X : Type 0} (bytes : List ℕ) (e : EngineState) (o : Option Register) (g : EngineState → X) → Renormalizes bytes e o →
    option_map g (renormalized e) ≡ option_map (λ s. g (engine_of bytes s)) o
renormalizes bytes e o g h = ap (λ e. option_map g (renormalized e)) (sym h.same) ∙ (ap (option_map g) (sym h.gives) ∙ map-map g (engine_of bytes) o)

pub most-probable : (c : ContextState) (bytes : List ℕ) (r : Register) (lps : ℕ) (o : Option Register) → lps ≡ range_lps c r.range →
    r.number / 2 ^ r.ahead < r.range - lps → Renormalizes bytes (record (engine_of bytes r) { range = r.range - lps }) o →
    decision c (engine_of bytes r) ≡ option_map (λ s. record { bin = c.val_mps; context = after_most_probable c; engine = engine_of bytes s }) o
unfolding decision
most-probable c bytes r lps o e below h =
    rw (← e, lt-ltb _ _ below) (renormalizes bytes (record (engine_of bytes r) { range = r.range - lps }) o
    (λ s. record { bin = c.val_mps; context = after_most_probable c; engine = s }) h)

pub least-probable : (c : ContextState) (bytes : List ℕ) (r : Register) (lps : ℕ) (o : Option Register) → lps ≡ range_lps c r.range →
    r.range - lps ≤ r.number / 2 ^ r.ahead →
    Renormalizes bytes (record (engine_of bytes r) { range = lps; offset = r.number / 2 ^ r.ahead - (r.range - lps) }) o →
    decision c (engine_of bytes r) ≡ option_map (λ s. record { bin = not c.val_mps; context = after_least_probable c; engine = engine_of bytes s }) o
unfolding decision
least-probable c bytes r lps o e above h =
    rw (← e, le-ltb _ _ above) (renormalizes bytes (record (engine_of bytes r) { range = lps; offset = r.number / 2 ^ r.ahead - (r.range - lps) }) o
    (λ s. record { bin = not c.val_mps; context = after_least_probable c; engine = s }) h)

pub going-on : (bytes : List ℕ) (r : Register) (o : Option Register) → r.number / 2 ^ r.ahead < r.range - 2 →
    Renormalizes bytes (record (engine_of bytes r) { range = r.range - 2 }) o →
    terminate (engine_of bytes r) ≡ option_map (λ s. record { bin = false; engine = engine_of bytes s }) o
unfolding terminate
going-on bytes r o below h =
    rw (lt-ltb _ _ below) (renormalizes bytes (record (engine_of bytes r) { range = r.range - 2 }) o (λ s. record { bin = false; engine = s }) h)

pub ending : (bytes : List ℕ) (r : Register) → r.range - 2 ≤ r.number / 2 ^ r.ahead →
    terminate (engine_of bytes r) ≡ Some (record { bin = true; engine = engine_of bytes r })
unfolding terminate
ending bytes r above = rw (le-ltb _ _ above) refl

one-bit : (o b : ℕ) → 2 * o + b ≡ o * 2 ^ 1 + (b * 2 ^ 0 + 0)
one-bit o b = omega arith

pub bypassed : (bytes : List ℕ) (r : Register) → IsRegister bytes r → r.at < 8 * length bytes → 1 ≤ r.ahead →
    bypass (engine_of bytes r) ≡ Some (without_range (record { bytes = bytes; at = r.at + 1; range = r.range; offset = r.number / 2 ^ (r.ahead - 1) }))
unfolding bypass peek_at
bypassed bytes r is inside enough =
    let b = bit-inside bytes r.at inside in
    let p = passed-offset bytes r 1 enough is in
    let d : 2 * (r.number / 2 ^ r.ahead) + digit b.0 ≡ r.number / 2 ^ (r.ahead - 1) =
    rw b.2 (one-bit (r.number / 2 ^ r.ahead) (bit_or_zero bytes r.at) ∙ sym p) in
    rw (b.1, d) refl

pub no-bypass : (bytes : List ℕ) (r : Register) → 8 * length bytes ≤ r.at → bypass (engine_of bytes r) ≡ None
unfolding bypass
no-bypass bytes r past = rw (bit-outside bytes r.at past) refl

-- ---- the beginning
abbrev pub first_register : ℕ → ℕ → Register
first_register first number = record { at = 8 * first + 9; range = 510; number = number; ahead = 23 }

pub begins : (bytes : List ℕ) (first number : ℕ) → number ≡ peek_at 32 bytes (8 * first) → first + 2 ≤ length bytes → number / 2 ^ 23 < 510 →
    initialised bytes (8 * first) ≡ Some (engine_of bytes (first_register first number))
unfolding initialised
begins bytes first number e inside small =
    let offset : number / 2 ^ 23 ≡ peek_at 9 bytes (8 * first) = ap (λ k. k / 2 ^ 23) e ∙ peek-top 9 32 bytes (8 * first) (omega arith) in
    rw (number-inside 9 bytes (8 * first) (omega arith), ← offset, lt-ltb _ _ small) refl

pub begins-short : (bytes : List ℕ) (first : ℕ) → length bytes < first + 2 → initialised bytes (8 * first) ≡ None
unfolding initialised
begins-short bytes first short = rw (number-outside 9 bytes (8 * first) (omega arith)) refl

pub begins-great : (bytes : List ℕ) (first number : ℕ) → number ≡ peek_at 32 bytes (8 * first) → first + 2 ≤ length bytes → 510 ≤ number / 2 ^ 23 →
    initialised bytes (8 * first) ≡ None
unfolding initialised
begins-great bytes first number e inside great =
    let offset : number / 2 ^ 23 ≡ peek_at 9 bytes (8 * first) = ap (λ k. k / 2 ^ 23) e ∙ peek-top 9 32 bytes (8 * first) (omega arith) in
    rw (number-inside 9 bytes (8 * first) (omega arith), ← offset, le-ltb _ _ great) refl

pub begins-ready : (bytes : List ℕ) (first number : ℕ) → number ≡ peek_at 32 bytes (8 * first) → first + 2 ≤ length bytes → length bytes ≤ 2 ^ 28 →
    number / 2 ^ 23 < 510 → IsReady bytes (first_register first number)
begins-ready bytes first number e inside short small =
    let split = peek-split 9 23 32 bytes (8 * first) refl in
    let low = peek-below 23 bytes (8 * first + 9) in
    record {
      stands = record {
        short = short;
        inside = omega arith;
        few = omega arith;
        aligned = omega arith;
        next = ap (λ k. k % 2 ^ 23) (e ∙ split) ∙ mod-mul-add (peek_at 9 bytes (8 * first)) (2 ^ 23) (peek_at 23 bytes (8 * first + 9)) low;
        high = omega arith;
        below = omega arith;
      };
      loaded = omega arith;
      low = omega arith;
      high = omega arith;
    }

-- what a step gives where its renormalization has no bits, and where it has
pub gives-none : {X : Type 0} (g : Register → X) (d : Option X) (o : Option Register) → d ≡ option_map g o → o ≡ None → d ≡ None
gives-none g d o e is = e ∙ ap (option_map g) is

pub gives-some : {X : Type 0} (g : Register → X) (d : Option X) (o : Option Register) (s : Register) → d ≡ option_map g o → o ≡ Some s → d ≡ Some (g s)
gives-some g d o s e is = e ∙ ap (option_map g) is

pub not-below : (b : Bool) (x y : ℕ) → (x < y → b ≡ true) → b ≡ false → y ≤ x
not-below b x y h e = elim (cases_lt x y) [
  | inl below ↦ absurd (let t = h below in cc)
  | inr above ↦ above
]

pub reduced-not : (bytes : List ℕ) (r s : Register) (range : ℕ) → r.number / 2 ^ r.ahead < range →
    engine_of bytes s ≡ record (engine_of bytes r) { range = range } →
    without_range (record (engine_of bytes r) { range = range }) ≡ record { bin = false; engine = engine_of bytes s }
reduced-not bytes r s range below e = rw (lt-ltb _ _ below) (ap (λ (x : EngineState). record { bin = false; engine = x }) (sym e))

pub reduced-by : (bytes : List ℕ) (r s : Register) (range : ℕ) → range ≤ r.number / 2 ^ r.ahead →
    engine_of bytes s ≡ record (engine_of bytes r) { range = range; offset = r.number / 2 ^ r.ahead - range } →
    without_range (record (engine_of bytes r) { range = range }) ≡ record { bin = true; engine = engine_of bytes s }
reduced-by bytes r s range above e = rw (le-ltb _ _ above) (ap (λ (x : EngineState). record { bin = true; engine = x }) (sym e))

-- a bypass bin of a register after one more bit
pub bypass-of : (bytes : List ℕ) (e : EngineState) (r twice next s : Register) (b : Bool) → engine_of bytes r ≡ e → IsRegister bytes r →
    r.at < 8 * length bytes →
    1 ≤ r.ahead → twice ≡ record { at = r.at + 1; range = r.range * 2 ^ 1; number = r.number; ahead = r.ahead - 1 } →
    without_range (record (engine_of bytes twice) { range = r.range }) ≡ record { bin = b; engine = engine_of bytes next } →
    engine_of bytes s ≡ engine_of bytes next → bypass e ≡ Some (record { bin = b; engine = engine_of bytes s })
bypass-of bytes e r twice next s b is stands inside enough double step same =
    ap bypass (sym is) ∙ (bypassed bytes r stands inside enough ∙
    (ap (λ (t : Register). Some (without_range (record (engine_of bytes t) { range = r.range }))) (sym double) ∙
    (ap Some step ∙ ap (λ (x : EngineState). Some (record { bin = b; engine = x })) (sym same))))

-- twice the range is above the offset after one more bit
pub twice-below : (bytes : List ℕ) (r twice : Register) → IsRegister bytes r → r.at < 8 * length bytes → 1 ≤ r.ahead → r.range < 512 →
    twice ≡ record { at = r.at + 1; range = r.range * 2 ^ 1; number = r.number; ahead = r.ahead - 1 } →
    IsRegister bytes twice × (twice.number / 2 ^ twice.ahead < r.range + r.range)
twice-below bytes r twice is inside enough high double =
    let stands : IsRegister bytes twice = (rw double (passed-stands bytes r 1 enough (omega arith) (omega arith) is)) in
    let below = offset-below bytes twice stands in
    let range : twice.range ≡ r.range * 2 ^ 1 = ap (λ (t : Register). t.range) double in
    (stands, omega arith)
