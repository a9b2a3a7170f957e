-- An element by what stands at its bit.
use Rattle.std.proofs.Common.{◌≡◌, ℕ, zero, suc, ◌+◌, ◌*◌, ◌<◌, ◌≤◌, ℤ, Bool, true, false, List, [], ◌∷◌, length, Option, Some, None, Ok, Err, refl, ap, sym}
use Rattle.std.proofs.Common.{◌∙◌, subst, arith, ◌==◌}
use Rattle.std.specs.Option.{option_map}
use Rattle.h264_base.specs.declared.element_name.ElementName.{ElementName}
use Rattle.h264_base.specs.declared.rule.Rule.{Rule}
use Rattle.h264_base.specs.declared.rule.Rule.TheVariants.{CodeWord, Trailing}
use Rattle.h264_base.specs.declared.stop.Stop.TheVariants.{No}
use Rattle.h264_base.specs.Call.{Call, OfElement, Tells, span}
use Rattle.h264_base.specs.Body.{place}
use Rattle.h264_base.specs.Word.{Code, Reads, digit, closes_at, no_zero_at, padding}
use Rattle.h264_base.specs.Grammar.{Found, IsClosed, bytes_at, read_word, align, raw_bytes, trailing}
use Rattle.h264_base.specs.Meets.{Reader, Meets, Is}
use Rattle.h264_base.proofs.Chains.{map-some}
use Rattle.h264_base.proofs.Words.{reads-value, closed-from, closes-from}
use Rattle.h264_base.proofs.Reading.{element-read, element-missing, align-read, align-broken, bytes-read, bytes-missing, trailing-read, trailing-missing}
use Rattle.h264_bits.specs.Taken.{HasNoWord}
use Rattle.h264_bits.proofs.Readings.{reads-none}

-- a word that was read and told
pub word-read : {X S : Type 0} (took : S → List Call → Type 0) (failures : S → ℕ) (view : X → Found) (rule : Rule) (name : ElementName) (code : Code)
    (old new : Reader) (s s' : S) (x : X) (bit : ℕ) (v : ℤ) → bit ≡ place old.body old.at → view x ≡ record { bit = bit; value = v } →
    Reads code old.body.bytes old.at v new.at → new.body ≡ old.body → Tells took s s' (OfElement name bit v ∷ []) → failures s' ≡ failures s →
    Meets (span took failures s s') (Is view) (read_word rule name code) old new (Ok x)
word-read took failures view rule name code old new s s' x bit v at seen word same tells kept =
    element-read took failures view rule name code old new s s' x v
    (seen ∙ ap (λ (b : ℕ). let f : Found = record { bit = b; value = v } in f) at)
    (reads-value code old.body.bytes old.at v new.at word)
    same
    (subst (λ (b : ℕ). Tells took s s' (OfElement name b v ∷ [])) at tells)
    kept

-- a word that is missing
pub word-missing : {X S : Type 0} (took : S → List Call → Type 0) (failures : S → ℕ) (view : X → Found) (rule : Rule) (name : ElementName) (code : Code)
    (old new : Reader) (s : S) (bit : ℕ) → bit ≡ place old.body old.at → HasNoWord code old.body.bytes old.at → new ≡ old →
    Meets (span took failures s s) (Is view) (read_word rule name code) old new (Err (No bit rule))
word-missing took failures view rule name code old new s bit at none kept =
    subst (λ (r : Reader). Meets (span took failures s s) (Is view) (read_word rule name code) old r (Err (No bit rule))) (sym kept)
    (element-missing took failures view rule name code old s (No bit rule) (ap (λ b. No b rule) at) (reads-none code old.body.bytes old.at none))

-- u(1) as a flag
pub flag-is : (v : ℕ) → v < 2 → digit (v == 1) ≡ v
flag-is zero h = refl
flag-is (suc zero) h = refl
flag-is (suc (suc v)) h = absurd (omega arith)

-- alignment bits
pub align-done : {S : Type 0} (took : S → List Call → Type 0) (failures : S → ℕ) (old new : Reader) (s : S) → None ≡
    option_map (λ j. place old.body j) (no_zero_at (padding old.at) old.body.bytes old.at) → new ≡ record { body = old.body; at = old.at + padding old.at } →
    Meets (span took failures s s) (Is (λ (x : Unit {0}). x)) align old new (Ok tt)
align-done took failures old new s zeros end =
    align-read took failures old new s (none (no_zero_at (padding old.at) old.body.bytes old.at) zeros) (ap (λ (r : Reader). r.at) end)
    (ap (λ (r : Reader). r.body) end)
  where
    none : (o : Option ℕ) → None ≡ option_map (λ j. place old.body j) o → o ≡ None
    none None e = refl
    none (Some j) e = absurd (cc)

pub align-lost : {S : Type 0} (took : S → List Call → Type 0) (failures : S → ℕ) (old : Reader) (s : S) (bit : ℕ) → Some bit ≡
    option_map (λ j. place old.body j) (no_zero_at (padding old.at) old.body.bytes old.at) →
    Meets (span took failures s s) (Is (λ (x : Unit {0}). x)) align old old (Err (No bit CodeWord))
align-lost took failures old s bit broken =
    let j = map-some (λ j. place old.body j) (no_zero_at (padding old.at) old.body.bytes old.at) bit (sym broken) in
    align-broken took failures old s j.0 (No bit CodeWord) (ap (λ b. No b CodeWord) (sym j.2)) j.1

-- bytes
pub bytes-done : {X S : Type 0} (took : S → List Call → Type 0) (failures : S → ℕ) (view : X → List ℕ) (n : ℕ) (old new : Reader) (s : S) (x : X) → view x ≡
    bytes_at n old.body.bytes old.at → old.at + 8 * n ≤ 8 * length old.body.bytes → new ≡ record { body = old.body; at = old.at + 8 * n } →
    Meets (span took failures s s) (Is view) (raw_bytes n) old new (Ok x)
bytes-done took failures view n old new s x taken fits end =
    bytes-read took failures view n old new s x taken fits (ap (λ (r : Reader). r.at) end) (ap (λ (r : Reader). r.body) end)

pub bytes-lost : {X S : Type 0} (took : S → List Call → Type 0) (failures : S → ℕ) (view : X → List ℕ) (n : ℕ) (old new : Reader) (s : S) (bit : ℕ) → bit ≡
    place new.body (8 * length new.body.bytes) → 8 * length old.body.bytes < old.at + 8 * n → new ≡ old →
    Meets (span took failures s s) (Is view) (raw_bytes n) old new (Err (No bit CodeWord))
bytes-lost took failures view n old new s bit at short kept =
    subst (λ (r : Reader). Meets (span took failures s s) (Is view) (raw_bytes n) old r (Err (No bit CodeWord))) (sym kept)
    (bytes-missing took failures view n old s (No bit CodeWord)
    (ap (λ b. No b CodeWord) (at ∙ ap (λ (r : Reader). place r.body (8 * length r.body.bytes)) kept)) short)

-- trailing bits
pub trailing-done : {S : Type 0} (took : S → List Call → Type 0) (failures : S → ℕ) (old new : Reader) (s : S) → IsClosed old.body.bytes old.at →
    new ≡ record { body = old.body; at = 8 * length old.body.bytes } → Meets (span took failures s s) (Is (λ (x : Unit {0}). x)) trailing old new (Ok tt)
trailing-done took failures old new s stand end =
    trailing-read took failures old new s (closes-from old.body.bytes old.at stand) (ap (λ (r : Reader). r.at) end) (ap (λ (r : Reader). r.body) end)

pub trailing-lost : {S : Type 0} (took : S → List Call → Type 0) (failures : S → ℕ) (old new : Reader) (s : S) (bit : ℕ) → bit ≡ place old.body old.at →
    (IsClosed old.body.bytes old.at → ⊥) → new ≡ old → Meets (span took failures s s) (Is (λ (x : Unit {0}). x)) trailing old new (Err (No bit Trailing))
trailing-lost took failures old new s bit at none kept =
    subst (λ (r : Reader). Meets (span took failures s s) (Is (λ (x : Unit {0}). x)) trailing old r (Err (No bit Trailing))) (sym kept)
    (trailing-missing took failures old s (No bit Trailing) (ap (λ b. No b Trailing) at) (open_end (closes_at old.body.bytes old.at) refl))
  where
    open_end : (b : Bool) → closes_at old.body.bytes old.at ≡ b → b ≡ false
    open_end true e = absurd (none (closed-from old.body.bytes old.at e))
    open_end false e = refl
