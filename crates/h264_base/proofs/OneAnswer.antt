-- A run says what the relation says, and nothing else does.
use Rattle.std.proofs.Common.{◌≡◌, ℕ, ◌+◌, ◌*◌, ℤ, Bool, true, false, not, IsTrue, IsFalse, List, [], ◌∷◌, length, Option, Some, None, nat_le, ◌≤◌, ◌<◌}
use Rattle.std.proofs.Common.{Result, Ok, Err, refl, ap, sym, ◌∙◌, subst, cond, inl, inr, ◌⊎◌}
use Rattle.h264_base.specs.declared.rule.Rule.{Rule}
use Rattle.h264_base.specs.declared.element_name.ElementName.{ElementName}
use Rattle.h264_base.specs.declared.stop.Stop.{Stop}
use Rattle.h264_base.specs.declared.rule.Rule.TheVariants.{CodeWord, Trailing}
use Rattle.h264_base.specs.declared.stop.Stop.TheVariants.{No, Outside, Memory, Read as ReadFailed, Write}
use Rattle.h264_base.specs.Call.{Call, span}
use Rattle.h264_base.specs.Meets.{Reader, MeetsBy, Meets, AnswersBy, Answers}
use Rattle.h264_base.specs.Body.{Body, place}
use Rattle.std.proofs.lemmas.Bool.{leb-true, leb-false, le-leb, lt-leb}
use Rattle.h264_base.specs.Word.{Code, Reads, bit_of, value_at, closes_at, ends_at, no_zero_at, padding}
use Rattle.h264_base.specs.Grammar.{Grammar, Element, Found, found, ahead, bytes_at, Done, Read, Check, Support, More, Align, Bytes, Close, Says, IsClosed}
use Rattle.h264_base.specs.Run.{Run, run, with_element, stopped, element_run, align_run}
use Rattle.h264_base.proofs.Words.{value-reads, reads-value, has_more, more-one, closed-from, closes-from, padded-from, from-padded, unpadded-from}
use Rattle.h264_base.proofs.Words.{from-unpadded}

-- what a run gives
abbrev pub SaysRun : {A : Type 0} → Grammar A → Body → ℕ → Run A → Type 0
SaysRun g body i r = Says g body i r.elements r.answer

says-element : {A : Type 0} (name : ElementName) (rule : Rule) (code : Code) (k : Found → Grammar A) (body : Body) (i : ℕ) →
    ((v : ℤ) (j : ℕ) → SaysRun (k (record { bit = place body i; value = v })) body j (run (k (record { bit = place body i; value = v })) body j)) →
    (o : Option (ℤ × ℕ)) → value_at code body.bytes i ≡ o → SaysRun (Read name rule code k) body i (element_run body name rule i (λ j e. run (k e) body j) o)
says-element name rule code k body i h None e = (refl, λ v j r. let f : None ≡ Some (v, j) = sym e ∙ reads-value code body.bytes i v j r in cc)
says-element name rule code k body i h (Some x) e = (refl, refl, value-reads code body.bytes i x.0 x.1 e, h x.0 x.1)

says-test : {A : Type 0} (g : Grammar A) (body : Body) (i : ℕ) (s : Stop) (b : Bool) → SaysRun g body i (run g body i) →
    let r = cond b (run g body i) (stopped s) in (IsTrue b × Says g body i r.elements r.answer) ⊎ (IsFalse b × (r.elements ≡ []) × (r.answer ≡ Err s))
says-test g body i s true h = inl (refl, h)
says-test g body i s false h = inr (refl, refl, refl)

says-close : {A : Type 0} (g : Grammar A) (body : Body) (i : ℕ) (s : Stop) (b : Bool) → closes_at body.bytes i ≡ b →
    SaysRun g body (8 * length body.bytes) (run g body (8 * length body.bytes)) → let r = cond b (run g body (8 * length body.bytes)) (stopped s) in
    (IsClosed body.bytes i × Says g body (8 * length body.bytes) r.elements r.answer) ⊎ ((IsClosed body.bytes i → ⊥) × (r.elements ≡ []) × (r.answer ≡ Err s))
says-close g body i s true e h = inl (closed-from body.bytes i e, h)
says-close g body i s false e h = inr (λ closed. let f : true ≡ false = sym (closes-from body.bytes i closed) ∙ e in cc, refl, refl)

says-align : {A : Type 0} (g : Grammar A) (body : Body) (i : ℕ) (o : Option ℕ) → no_zero_at (padding i) body.bytes i ≡ o →
    SaysRun g body (i + padding i) (run g body (i + padding i)) → SaysRun (Align g) body i (align_run body (run g body (i + padding i)) o)
says-align g body i None e h = inl (padded-from (padding i) body.bytes i e, h)
says-align g body i (Some j) e h = let p = unpadded-from (padding i) body.bytes i j e in
    inr (j, (p.zeros, p.few, p.stands, (λ z. p.set (moved (i + p.zeros) j (sym p.is) z)), p.is), refl, refl)
  where
    moved : (k l : ℕ) → k ≡ l → bit_of body.bytes k ≡ Some false → bit_of body.bytes l ≡ Some false
    moved k l e h = subst (λ q. bit_of body.bytes q ≡ Some false) e h

says-bytes : {A : Type 0} (g : Grammar A) (body : Body) (i end : ℕ) (s : Stop) (b : Bool) → nat_le end (8 * length body.bytes) ≡ b →
    SaysRun g body end (run g body end) → let r = cond b (run g body end) (stopped s) in
    ((end ≤ 8 * length body.bytes) × Says g body end r.elements r.answer) ⊎ ((8 * length body.bytes < end) × (r.elements ≡ []) × (r.answer ≡ Err s))
says-bytes g body i end s true e h = inl (leb-true _ _ e, h)
says-bytes g body i end s false e h = inr (leb-false _ _ e, refl, refl)

-- A run says what the relation says.
pub run-says : {A : Type 0} (g : Grammar A) (body : Body) (i : ℕ) → SaysRun g body i (run g body i)
unfolding run
run-says (Done x) body i = (refl, refl)
run-says (Read name rule code k) body i =
    says-element name rule code k body i (λ v j. run-says (k (record { bit = place body i; value = v })) body j) (value_at code body.bytes i) refl
run-says (Check rule at holds g) body i = says-test g body i (No at rule) holds (run-says g body i)
run-says (Support feature at holds g) body i = says-test g body i (Outside at feature) holds (run-says g body i)
run-says (More k) body i = (not (ends_at body.bytes i), has_more body.bytes i, run-says (k (ahead body i (not (ends_at body.bytes i)))) body i)
run-says (Align g) body i = says-align g body i (no_zero_at (padding i) body.bytes i) refl (run-says g body (i + padding i))
run-says (Bytes n k) body i = says-bytes (k (bytes_at n body.bytes i)) body i (i + 8 * n) (No (place body (8 * length body.bytes)) CodeWord)
    (nat_le (i + 8 * n) (8 * length body.bytes)) refl (run-says (k (bytes_at n body.bytes i)) body (i + 8 * n))
run-says (Close g) body i = says-close g body i (No (place body i) Trailing) (closes_at body.bytes i) refl (run-says g body (8 * length body.bytes))

one-element : {A : Type 0} (name : ElementName) (rule : Rule) (body : Body) (i : ℕ) (k : Found → Grammar A) (e : Element) (es : List Element)
    (a : Result (A × ℕ) Stop) → e.name ≡ name → e.from ≡ i → run (k (found body e)) body e.to ≡ record { elements = es; answer = a } →
    element_run body name rule i (λ j x. run (k x) body j) (Some (e.value, e.to)) ≡ record { elements = e ∷ es; answer = a }
one-element {A} name rule body i k e es a n f h =
    let P : ElementName → ℕ → Type 0 = λ name i. element_run body name rule i (λ j x. run (k x) body j) (Some (e.value, e.to)) ≡
    record { elements = e ∷ es; answer = a } in
    subst (λ i. P name i) f (subst (λ name. P name e.from) n (ap (with_element e) h))

stopped-is : {A : Type 0} (s : Stop) (es : List Element) (a : Result (A × ℕ) Stop) → es ≡ [] → a ≡ Err s → stopped s ≡ record { elements = es; answer = a }
stopped-is s es a e f = cc

no-value : (code : Code) (bytes : List ℕ) (i : ℕ) → ((v : ℤ) (j : ℕ) → Reads code bytes i v j → ⊥) → (o : Option (ℤ × ℕ)) → value_at code bytes i ≡ o → o ≡ None
no-value code bytes i h None e = refl
no-value code bytes i h (Some x) e = absurd (h x.0 x.1 (value-reads code bytes i x.0 x.1 e))

not-closed : (bytes : List ℕ) (i : ℕ) → (IsClosed bytes i → ⊥) → (b : Bool) → closes_at bytes i ≡ b → b ≡ false
not-closed bytes i h true e = absurd (h (closed-from bytes i e))
not-closed bytes i h false e = refl

-- What the relation says is what a run gives.
pub run-one : {A : Type 0} (g : Grammar A) (body : Body) (i : ℕ) (es : List Element) (a : Result (A × ℕ) Stop) → Says g body i es a →
    run g body i ≡ record { elements = es; answer = a }
unfolding run
run-one (Done x) body i es a s = let p = s.0 in let q = s.1 in cc
run-one (Read name rule code k) body i [] a s =
    rw (no-value code body.bytes i s.1 (value_at code body.bytes i) refl) (stopped-is (No (place body i) rule) [] a refl s.0)
run-one (Read name rule code k) body i (e ∷ es) a s =
    rw (reads-value code body.bytes i e.value e.to s.2) (one-element name rule body i k e es a s.0 s.1 (run-one (k (found body e)) body e.to es a s.3))
run-one (Check rule at holds g) body i es a (inl s) = rw s.0 (run-one g body i es a s.1)
run-one (Check rule at holds g) body i es a (inr s) = rw s.0 (stopped-is (No at rule) es a s.1 s.2)
run-one (Support feature at holds g) body i es a (inl s) = rw s.0 (run-one g body i es a s.1)
run-one (Support feature at holds g) body i es a (inr s) = rw s.0 (stopped-is (Outside at feature) es a s.1 s.2)
run-one (More k) body i es a s = rw (← more-one body.bytes i s.0 s.1) (run-one (k (ahead body i s.0)) body i es a s.2)
run-one (Align g) body i es a (inl s) = rw (from-padded (padding i) body.bytes i s.0) (run-one g body (i + padding i) es a s.1)
run-one (Align g) body i es a (inr s) = rw (from-unpadded (padding i) body.bytes i s.1.0 s.1.1 s.1.2 s.1.3, ← s.1.4)
    (stopped-is (No (place body s.0) CodeWord) es a s.2 s.3)
run-one (Bytes n k) body i es a (inl s) = rw (le-leb (i + 8 * n) (8 * length body.bytes) s.0) (run-one (k (bytes_at n body.bytes i)) body (i + 8 * n) es a s.1)
run-one (Bytes n k) body i es a (inr s) =
    rw (lt-leb (i + 8 * n) (8 * length body.bytes) s.0) (stopped-is (No (place body (8 * length body.bytes)) CodeWord) es a s.1 s.2)
run-one (Close g) body i es a (inl s) = rw (closes-from body.bytes i s.0) (run-one g body (8 * length body.bytes) es a s.1)
run-one (Close g) body i es a (inr s) = rw (not-closed body.bytes i s.0 (closes_at body.bytes i) refl) (stopped-is (No (place body i) Trailing) es a s.1 s.2)

-- There is one list of elements and one answer.
pub says-one : {A : Type 0} (g : Grammar A) (body : Body) (i : ℕ) (es es' : List Element) (a a' : Result (A × ℕ) Stop) → Says g body i es a →
    Says g body i es' a' → (es ≡ es') × (a ≡ a')
says-one g body i es es' a a' s t = let p = sym (run-one g body i es a s) ∙ run-one g body i es' a' t in (ap (λ r. Run.elements r) p, ap (λ r. Run.answer r) p)

says-none : {A : Type 0} (g : Grammar A) (body : Body) (i : ℕ) (es : List Element) → Says g body i es (Err Memory) → ⊥
says-none (Done x) body i es s = let e = s.1 in absurd (cc)
says-none (Read name rule code k) body i [] s = let e = s.0 in absurd (cc)
says-none (Read name rule code k) body i (e ∷ es) s = says-none (k (found body e)) body e.to es s.3
says-none (Check rule at holds g) body i es (inl s) = says-none g body i es s.1
says-none (Check rule at holds g) body i es (inr s) = let e = s.2 in absurd (cc)
says-none (Support rule at holds g) body i es (inl s) = says-none g body i es s.1
says-none (Support rule at holds g) body i es (inr s) = let e = s.2 in absurd (cc)
says-none (More k) body i es s = says-none (k (ahead body i s.0)) body i es s.2
says-none (Align g) body i es (inl s) = says-none g body (i + padding i) es s.1
says-none (Align g) body i es (inr s) = let e = s.3 in absurd (cc)
says-none (Bytes n k) body i es (inl s) = says-none (k (bytes_at n body.bytes i)) body (i + 8 * n) es s.1
says-none (Bytes n k) body i es (inr s) = let e = s.2 in absurd (cc)
says-none (Close g) body i es (inl s) = says-none g body (8 * length body.bytes) es s.1
says-none (Close g) body i es (inr s) = let e = s.2 in absurd (cc)

says-no-read : {A : Type 0} (g : Grammar A) (body : Body) (i : ℕ) (es : List Element) → Says g body i es (Err ReadFailed) → ⊥
says-no-read (Done x) body i es s = let e = s.1 in absurd (cc)
says-no-read (Read name rule code k) body i [] s = let e = s.0 in absurd (cc)
says-no-read (Read name rule code k) body i (e ∷ es) s = says-no-read (k (found body e)) body e.to es s.3
says-no-read (Check rule at holds g) body i es (inl s) = says-no-read g body i es s.1
says-no-read (Check rule at holds g) body i es (inr s) = let e = s.2 in absurd (cc)
says-no-read (Support rule at holds g) body i es (inl s) = says-no-read g body i es s.1
says-no-read (Support rule at holds g) body i es (inr s) = let e = s.2 in absurd (cc)
says-no-read (More k) body i es s = says-no-read (k (ahead body i s.0)) body i es s.2
says-no-read (Align g) body i es (inl s) = says-no-read g body (i + padding i) es s.1
says-no-read (Align g) body i es (inr s) = let e = s.3 in absurd (cc)
says-no-read (Bytes n k) body i es (inl s) = says-no-read (k (bytes_at n body.bytes i)) body (i + 8 * n) es s.1
says-no-read (Bytes n k) body i es (inr s) = let e = s.2 in absurd (cc)
says-no-read (Close g) body i es (inl s) = says-no-read g body (8 * length body.bytes) es s.1
says-no-read (Close g) body i es (inr s) = let e = s.2 in absurd (cc)

says-answer : {A : Type 0} (g : Grammar A) (body : Body) (i : ℕ) (a : Result (A × ℕ) Stop) → (run g body i).answer ≡ a → Says g body i (run g body i).elements a
says-answer g body i a e = subst (Says g body i (run g body i).elements) e (run-says g body i)

answers-by : {X A S : Type 0} (took : S → List Call → Type 0) (failures : S → ℕ) (R : X → A → Type 0) (g : Grammar A) (body : Body) (i j : ℕ) (s s' : S)
    (r : Result X Stop) → MeetsBy (span took failures s s') R g (record { body = body; at = i }) j r →
    AnswersBy (span took failures s s') R g (record { body = body; at = i }) j r
answers-by took failures R g body i j s s' (Ok x) m = ((run g body i).elements, m.0, m.1, says-answer g body i _ m.2, m.3, m.4)
answers-by took failures R g body i j s s' (Err (No bit rule)) m = ((run g body i).elements, says-answer g body i _ m.0, m.1, m.2)
answers-by took failures R g body i j s s' (Err (Outside bit rule)) m = ((run g body i).elements, says-answer g body i _ m.0, m.1, m.2)
answers-by took failures R g body i j s s' (Err Write) m = ((run g body i).elements, (run g body i).answer, run-says g body i, m.0, m.1)
answers-by took failures R g body i j s s' (Err Memory) m = says-none g body i _ (says-answer g body i (Err Memory) m.0)
answers-by took failures R g body i j s s' (Err ReadFailed) m = says-no-read g body i _ (says-answer g body i (Err ReadFailed) m.0)

-- What meets a grammar answers as the relation says.
pub answers : {X A S : Type 0} {took : S → List Call → Type 0} {failures : S → ℕ} {R : X → A → Type 0} {g : Grammar A} {old new : Reader} {s s' : S}
    {r : Result X Stop} → Meets (span took failures s s') R g old new r → Answers (span took failures s s') R g old new r
answers {took} {failures} {R} {g} {old} {new} {s} {s'} {r} m = answers-by took failures R g old.body old.at new.at s s' r m.meets
