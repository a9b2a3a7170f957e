-- What was read lies within the bytes.
use Rattle.std.proofs.Common.{◌≡◌, ℕ, ◌+◌, ◌*◌, ◌<◌, ◌≤◌, ℤ, Bool, true, false, not, List, [], ◌∷◌, length, Option, Some, None, Result, Ok, Err, nat_le, cond}
use Rattle.std.proofs.Common.{refl, ap, sym, ◌∙◌, subst, arith, inl, inr}
use Rattle.std.proofs.lemmas.Bool.{cases_lt, leb-true}
use Rattle.h264_base.specs.declared.element_name.ElementName.{ElementName}
use Rattle.h264_base.specs.declared.rule.Rule.{Rule}
use Rattle.h264_base.specs.declared.stop.Stop.{Stop}
use Rattle.h264_base.specs.Body.{Body}
use Rattle.h264_base.specs.Call.{Call, span}
use Rattle.h264_base.specs.Word.{Code, Word, Words, StandsAt, bit_of, value_at, closes_at, ends_at, no_zero_at, padding}
use Rattle.h264_base.specs.Grammar.{Grammar, Found, ahead, bytes_at, Done, Read, Check, Support, More, Align, Bytes, Close, read_word}
use Rattle.h264_base.specs.Run.{Run, run, stopped, element_run, align_run}
use Rattle.h264_base.specs.Meets.{Reader, Meets}
use Rattle.h264_base.proofs.Words.{value-reads}
use Rattle.h264_tables.specs.declared.table.Table.{Table}
use Rattle.h264_tables.specs.Table.{rows_of, code_table}
use Rattle.h264_tables.proofs.Rows.{rows_of-words, row-short}
use Rattle.h264_bits.proofs.Peeks.{bit-outside}

-- the end of these bytes, in bits
abbrev end_of : Body → ℕ
end_of body = 8 * length body.bytes

bit-within : (bytes : List ℕ) (i : ℕ) (b : Bool) → bit_of bytes i ≡ Some b → i < 8 * length bytes
bit-within bytes i b e = elim (cases_lt i (8 * length bytes)) [
  | inl inner ↦ inner
  | inr outer ↦ absurd (let n : ◌≡◌ {A = Option Bool} (Some b) None = sym e ∙ bit-outside bytes i outer in cc)
]

word-within : (bytes : List ℕ) (i : ℕ) (w : Word) → 0 < length w → StandsAt bytes i w → i + length w ≤ 8 * length bytes
word-within bytes i [] some s = absurd (omega arith)
word-within bytes i (b ∷ []) some s = let h = bit-within bytes i b s.0 in omega arith
word-within bytes i (b ∷ c ∷ w) some s = let h = word-within bytes (i + 1) (c ∷ w) (omega arith) s.1 in omega arith

value-within : (code : Code) (bytes : List ℕ) (i : ℕ) (v : ℤ) (j : ℕ) → i ≤ 8 * length bytes → value_at code bytes i ≡ Some (v, j) → j ≤ 8 * length bytes
value-within code bytes i v j h e = let r = value-reads code bytes i v j e in go r.0 r.2 r.3
  where
    go : (w : Word) → StandsAt bytes i w → j ≡ i + length w → j ≤ 8 * length bytes
    go [] s is = omega arith
    go (b ∷ w) s is = let k = word-within bytes i (b ∷ w) (omega arith) s in omega arith

answer_end : {A : Type 0} → ℕ → Result (A × ℕ) Stop → ℕ
answer_end d (Ok x) = x.1
answer_end d (Err s) = d

-- a run of the next elements, for any of them
abbrev EndsBy : {A : Type 0} → ℕ → Run A → Type 0
EndsBy {A} end r = (v : A) (j : ℕ) → r.answer ≡ Ok (v, j) → j ≤ end

ends-element : {A : Type 0} (body : Body) (name : ElementName) (rule : Rule) (i : ℕ) (next : ℕ → Found → Run A) →
    ((j : ℕ) (e : Found) → j ≤ end_of body → EndsBy (end_of body) (next j e)) → (o : Option (ℤ × ℕ)) → ((x : ℤ × ℕ) → o ≡ Some x → x.1 ≤ end_of body) →
    EndsBy (end_of body) (element_run body name rule i next o)
ends-element body name rule i next h None inside v j e = absurd (cc)
ends-element body name rule i next h (Some x) inside v j e = h x.1 _ (inside x refl) v j e

ends-test : {A : Type 0} (end : ℕ) (b : Bool) (s : Stop) (r : Run A) → (b ≡ true → EndsBy end r) → EndsBy end (cond b r (stopped s))
ends-test end true s r h = h refl
ends-test end false s r h = λ v j e. absurd (cc)

ends-align : {A : Type 0} (body : Body) (r : Run A) → EndsBy (end_of body) r → (o : Option ℕ) → EndsBy (end_of body) (align_run body r o)
ends-align body r h None = h
ends-align body r h (Some k) = λ v j e. absurd (cc)

run-within : {A : Type 0} (g : Grammar A) (body : Body) (i : ℕ) → i ≤ end_of body → EndsBy (end_of body) (run g body i)
unfolding run answer_end
run-within (Done x) body i h = λ v j e. let s : i ≡ j = ap (answer_end 0) e in omega arith
run-within (Read name rule code k) body i h =
    ends-element body name rule i (λ j e. run (k e) body j) (λ j e inner. run-within (k e) body j inner) (value_at code body.bytes i)
    (λ x e. value-within code body.bytes i x.0 x.1 h e)
run-within (Check rule at holds g) body i h = ends-test (end_of body) holds _ _ (λ t. run-within g body i h)
run-within (Support feature at holds g) body i h = ends-test (end_of body) holds _ _ (λ t. run-within g body i h)
run-within (More k) body i h = run-within (k (ahead body i (not (ends_at body.bytes i)))) body i h
run-within (Align g) body i h = ends-align body _ (run-within g body (i + padding i) (omega arith)) (no_zero_at (padding i) body.bytes i)
run-within (Bytes n k) body i h = ends-test (end_of body) (nat_le (i + 8 * n) (8 * length body.bytes)) _ _
    (λ t. run-within (k (bytes_at n body.bytes i)) body (i + 8 * n) (leb-true _ _ t))
run-within (Close g) body i h = ends-test (end_of body) (closes_at body.bytes i) _ _ (λ t. run-within g body (8 * length body.bytes) (omega arith))

-- a reader that stood within its bytes still does
pub met-within : {X A S : Type 0} {took : S → List Call → Type 0} {failures : S → ℕ} {R : X → A → Type 0} {g : Grammar A} {old new : Reader} {s s' : S}
    {x : X} → old.at ≤ end_of old.body → Meets (span took failures s s') R g old new (Ok x) → new.at ≤ end_of new.body
met-within {g = g} {old} {new} h m = subst (λ b. new.at ≤ end_of b) (sym m.same) (run-within g old.body old.at h m.meets.0 new.at m.meets.2)

row-value-within : (table : Table) (bytes : List ℕ) (i : ℕ) (v : ℤ) (j : ℕ) → value_at (Words (code_table table)) bytes i ≡ Some (v, j) → j ≤ 8 * length bytes
row-value-within table bytes i v j e =
    let r = value-reads (Words (code_table table)) bytes i v j e in
    let short = row-short (rows_of table) r.1.0 (rows_of-words table) r.1.1 in
    let some = short.some in
    let l = r.1.2.0 in
    let k = word-within bytes i r.0 (omega arith) r.2 in
    let is = r.3 in
    omega arith

word-answer : (rule : Rule) (name : ElementName) (table : Table) (body : Body) (i : ℕ) (o : Option (ℤ × ℕ)) →
    value_at (Words (code_table table)) body.bytes i ≡ o → EndsBy (end_of body) (element_run body name rule i (λ k e. run (Done e) body k) o)
unfolding run answer_end
word-answer rule name table body i None f v j e = absurd (cc)
word-answer rule name table body i (Some x) f v j e = let s : x.1 ≡ j = ap (answer_end 0) e in let h = row-value-within table body.bytes i x.0 x.1 f in
    omega arith

-- and so does one that has read a word of a table, wherever it stood
pub word-met-within : {X S : Type 0} {took : S → List Call → Type 0} {failures : S → ℕ} {R : X → Found → Type 0} (rule : Rule) (name : ElementName)
    (table : Table) {old new : Reader} {s s' : S} {x : X} →
    Meets (span took failures s s') R (read_word rule name (Words (code_table table))) old new (Ok x) → new.at ≤ end_of new.body
unfolding run read_word
word-met-within rule name table {old} {new} m =
    subst (λ b. new.at ≤ end_of b) (sym m.same)
    (word-answer rule name table old.body old.at (value_at (Words (code_table table)) old.body.bytes old.at) refl m.meets.0 new.at m.meets.2)
