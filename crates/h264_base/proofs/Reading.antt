-- What a reader of one element, of alignment bits, of bytes and of trailing bits has to show.
use Rattle.std.proofs.Common.{ℤ, ◌≡◌, ℕ, ◌+◌, ◌*◌, ◌≤◌, ◌<◌, Bool, true, false, List, [], ◌∷◌, map, length, nat_le, Ok, Err, Option, Some, None, refl, ap}
use Rattle.std.proofs.Common.{sym, subst, cond}
use Rattle.std.proofs.lemmas.Bool.{le-leb, lt-leb}
use Rattle.h264_base.specs.declared.element_name.ElementName.{ElementName}
use Rattle.h264_base.specs.declared.rule.Rule.{Rule}
use Rattle.h264_base.specs.declared.rule.Rule.TheVariants.{CodeWord, Trailing}
use Rattle.h264_base.specs.declared.stop.Stop.{Stop}
use Rattle.h264_base.specs.declared.stop.Stop.TheVariants.{No, Write}
use Rattle.h264_base.specs.Call.{Call, OfElement, Tells, span}
use Rattle.h264_base.specs.Body.{place}
use Rattle.h264_base.specs.Word.{Code, value_at, closes_at, no_zero_at, padding}
use Rattle.h264_base.specs.Grammar.{Found, bytes_at, read_word, align, raw_bytes, trailing}
use Rattle.h264_base.specs.Run.{Run, run, stopped, element_run, align_run, call_of}
use Rattle.h264_base.specs.Meets.{Reader, Meets, Is}
use Rattle.h264_base.proofs.Steps.{tells-none, front-none}

-- one element that was read and told
pub element-read : {X S : Type 0} (took : S → List Call → Type 0) (failures : S → ℕ) (view : X → Found) (rule : Rule) (name : ElementName) (code : Code)
    (old new : Reader) (s s' : S) (x : X) (v : ℤ) → view x ≡ record { bit = place old.body old.at; value = v } →
    value_at code old.body.bytes old.at ≡ Some (v, new.at) → new.body ≡ old.body → Tells took s s' (OfElement name (place old.body old.at) v ∷ []) →
    failures s' ≡ failures s → Meets (span took failures s s') (Is view) (read_word rule name code) old new (Ok x)
unfolding read_word run
element-read took failures view rule name code old new s s' x v seen value same tells kept = record {
  meets = (
    view x,
    refl,
    let P : Option (ℤ × ℕ) → Type 0 = λ o. (element_run old.body name rule old.at (λ j e. record { elements = []; answer = Ok (e, j) }) o).answer ≡
        Ok (view x, new.at) in subst P (sym value) (ap (λ (f : Found). Ok (f, new.at)) (sym seen)),
    let P : Option (ℤ × ℕ) → Type 0 = λ o. Tells took s s'
        (map (call_of old.body) (element_run old.body name rule old.at (λ j e. record { elements = []; answer = Ok (e, j) }) o).elements) in
        subst P (sym value) tells,
    kept,
  );
  same = same;
}

-- one element whose word is not there
pub element-missing : {X S : Type 0} (took : S → List Call → Type 0) (failures : S → ℕ) (view : X → Found) (rule : Rule) (name : ElementName) (code : Code)
    (old : Reader) (s : S) (e : Stop) → e ≡ No (place old.body old.at) rule → value_at code old.body.bytes old.at ≡ None →
    Meets (span took failures s s) (Is view) (read_word rule name code) old old (Err e)
unfolding read_word run
element-missing {X} took failures view rule name code old s e is value =
    let P : Option (ℤ × ℕ) → Type 0 = λ o. ((element_run old.body name rule old.at (λ j e. record { elements = []; answer = Ok (e, j) }) o).answer ≡
    Err (No (place old.body old.at) rule)) ×
    Tells took s s (map (call_of old.body) (element_run old.body name rule old.at (λ j e. record { elements = []; answer = Ok (e, j) }) o).elements) ×
    (failures s ≡ failures s) in
    let M : Stop → Type 0 = λ e. Meets (span took failures s s) (Is view) (read_word rule name code) old old (Err e) in
    subst M (sym is) (record { meets = subst P (sym value) (refl, tells-none took s, refl); same = refl })

-- one element that the sink did not take
pub element-refused : {X S : Type 0} (took : S → List Call → Type 0) (failures : S → ℕ) (view : X → Found) (rule : Rule) (name : ElementName) (code : Code)
    (old new : Reader) (s s' : S) → new.body ≡ old.body → Tells took s s' [] → failures s' ≡ failures s + 1 →
    Meets (span took failures s s') (Is view) (read_word rule name code) old new (Err Write)
unfolding read_word run
element-refused took failures view rule name code old new s s' same tells failed = record { meets = (front-none _ tells, failed); same = same }

-- a run that gives a value or stops
abbrev chosen : {A : Type 0} → A → ℕ → Stop → Bool → Run A
chosen x j e b = cond b (record { elements = []; answer = Ok (x, j) }) (stopped e)

-- alignment bits that are zeros
pub align-read : {S : Type 0} (took : S → List Call → Type 0) (failures : S → ℕ) (old new : Reader) (s : S) →
    no_zero_at (padding old.at) old.body.bytes old.at ≡ None → new.at ≡ old.at + padding old.at → new.body ≡ old.body →
    Meets (span took failures s s) (Is (λ (x : Unit {0}). x)) align old new (Ok tt)
unfolding align run
align-read took failures old new s zeros end same =
    let R : Option ℕ → Run (Unit {0}) = align_run old.body (record { elements = []; answer = Ok (tt, old.at + padding old.at) }) in
    let P : Option ℕ → Type 0 = λ o. ((R o).answer ≡ Ok (tt, new.at)) × Tells took s s (map (call_of old.body) (R o).elements) × (failures s ≡ failures s) in
    let p : P (no_zero_at (padding old.at) old.body.bytes old.at) = subst P (sym zeros) (ap (λ k. Ok (tt, k)) (sym end), tells-none took s, refl) in
    record { meets = (tt, refl, p.0, p.1, p.2); same = same }

-- an alignment bit that is not
pub align-broken : {S : Type 0} (took : S → List Call → Type 0) (failures : S → ℕ) (old : Reader) (s : S) (j : ℕ) (e : Stop) → e ≡
    No (place old.body j) CodeWord → no_zero_at (padding old.at) old.body.bytes old.at ≡ Some j →
    Meets (span took failures s s) (Is (λ (x : Unit {0}). x)) align old old (Err e)
unfolding align run
align-broken took failures old s j e is broken =
    let R : Option ℕ → Run (Unit {0}) = align_run old.body (record { elements = []; answer = Ok (tt, old.at + padding old.at) }) in
    let P : Option ℕ → Type 0 = λ o. ((R o).answer ≡ Err (No (place old.body j) CodeWord)) × Tells took s s (map (call_of old.body) (R o).elements) ×
    (failures s ≡ failures s) in
    let M : Stop → Type 0 = λ e. Meets (span took failures s s) (Is (λ (x : Unit {0}). x)) align old old (Err e) in
    subst M (sym is) (record { meets = subst P (sym broken) (refl, tells-none took s, refl); same = refl })

-- bytes that are there
pub bytes-read : {X S : Type 0} (took : S → List Call → Type 0) (failures : S → ℕ) (view : X → List ℕ) (n : ℕ) (old new : Reader) (s : S) (x : X) → view x ≡
    bytes_at n old.body.bytes old.at → old.at + 8 * n ≤ 8 * length old.body.bytes → new.at ≡ old.at + 8 * n → new.body ≡ old.body →
    Meets (span took failures s s) (Is view) (raw_bytes n) old new (Ok x)
unfolding raw_bytes run
bytes-read took failures view n old new s x seen fits end same =
    let R : Bool → Run (List ℕ) = chosen (bytes_at n old.body.bytes old.at) (old.at + 8 * n) (No (place old.body (8 * length old.body.bytes)) CodeWord) in
    let P : Bool → Type 0 = λ b. ((R b).answer ≡ Ok (bytes_at n old.body.bytes old.at, new.at)) × Tells took s s (map (call_of old.body) (R b).elements) ×
    (failures s ≡ failures s) in
    let p : P (nat_le (old.at + 8 * n) (8 * length old.body.bytes)) =
    subst P (sym (le-leb _ _ fits)) (ap (λ k. Ok (bytes_at n old.body.bytes old.at, k)) (sym end), tells-none took s, refl) in
    record { meets = (bytes_at n old.body.bytes old.at, sym seen, p.0, p.1, p.2); same = same }

-- bytes that are not
pub bytes-missing : {X S : Type 0} (took : S → List Call → Type 0) (failures : S → ℕ) (view : X → List ℕ) (n : ℕ) (old : Reader) (s : S) (e : Stop) → e ≡
    No (place old.body (8 * length old.body.bytes)) CodeWord → 8 * length old.body.bytes < old.at + 8 * n →
    Meets (span took failures s s) (Is view) (raw_bytes n) old old (Err e)
unfolding raw_bytes run
bytes-missing took failures view n old s e is short =
    let R : Bool → Run (List ℕ) = chosen (bytes_at n old.body.bytes old.at) (old.at + 8 * n) (No (place old.body (8 * length old.body.bytes)) CodeWord) in
    let P : Bool → Type 0 = λ b. ((R b).answer ≡ Err (No (place old.body (8 * length old.body.bytes)) CodeWord)) ×
    Tells took s s (map (call_of old.body) (R b).elements) × (failures s ≡ failures s) in
    let M : Stop → Type 0 = λ e. Meets (span took failures s s) (Is view) (raw_bytes n) old old (Err e) in
    subst M (sym is) (record { meets = subst P (sym (lt-leb _ _ short)) (refl, tells-none took s, refl); same = refl })

-- trailing bits that stand there
pub trailing-read : {S : Type 0} (took : S → List Call → Type 0) (failures : S → ℕ) (old new : Reader) (s : S) → closes_at old.body.bytes old.at ≡ true →
    new.at ≡ 8 * length old.body.bytes → new.body ≡ old.body → Meets (span took failures s s) (Is (λ (x : Unit {0}). x)) trailing old new (Ok tt)
unfolding trailing run
trailing-read took failures old new s closes end same =
    let R : Bool → Run (Unit {0}) = chosen tt (8 * length old.body.bytes) (No (place old.body old.at) Trailing) in
    let P : Bool → Type 0 = λ b. ((R b).answer ≡ Ok (tt, new.at)) × Tells took s s (map (call_of old.body) (R b).elements) × (failures s ≡ failures s) in
    let p : P (closes_at old.body.bytes old.at) = subst P (sym closes) (ap (λ k. Ok (tt, k)) (sym end), tells-none took s, refl) in
    record { meets = (tt, refl, p.0, p.1, p.2); same = same }

-- trailing bits that do not
pub trailing-missing : {S : Type 0} (took : S → List Call → Type 0) (failures : S → ℕ) (old : Reader) (s : S) (e : Stop) → e ≡
    No (place old.body old.at) Trailing → closes_at old.body.bytes old.at ≡ false →
    Meets (span took failures s s) (Is (λ (x : Unit {0}). x)) trailing old old (Err e)
unfolding trailing run
trailing-missing took failures old s e is closes =
    let R : Bool → Run (Unit {0}) = chosen tt (8 * length old.body.bytes) (No (place old.body old.at) Trailing) in
    let P : Bool → Type 0 = λ b. ((R b).answer ≡ Err (No (place old.body old.at) Trailing)) × Tells took s s (map (call_of old.body) (R b).elements) ×
    (failures s ≡ failures s) in
    let M : Stop → Type 0 = λ e. Meets (span took failures s s) (Is (λ (x : Unit {0}). x)) trailing old old (Err e) in
    subst M (sym is) (record { meets = subst P (sym closes) (refl, tells-none took s, refl); same = refl })
