-- How what is read is put together.
use Rattle.std.proofs.Common.{◌≡◌, ℕ, ◌+◌, ◌*◌, Bool, true, false, not, List, [], ◌∷◌, ◌++◌, map, length, nat_le, Result, Ok, Err, Option, Some, None, refl}
use Rattle.std.proofs.Common.{ap, sym, ◌∙◌, cond, append_assoc, subst}
use Rattle.std.proofs.lemmas.List.{append-nil, map-append}
use Rattle.h264_base.specs.declared.rule.Rule.{Rule}
use Rattle.h264_base.specs.declared.stop.Stop.{Stop}
use Rattle.h264_base.specs.declared.stop.Stop.TheVariants.{No, Outside, Memory, Read as ReadFailed, Write}
use Rattle.h264_base.specs.Call.{Call, Tells, TellsFront, span}
use Rattle.h264_base.specs.Body.{Body}
use Rattle.h264_base.specs.Word.{value_at, closes_at, ends_at, no_zero_at, padding}
use Rattle.h264_base.specs.Grammar.{Grammar, Element, Found, found, Ahead, ahead, bytes_at, Done, Read, Check, Support, More, Align, Bytes, Close, ◌>>=◌}
use Rattle.h264_base.specs.Grammar.{check, more}
use Rattle.h264_base.specs.Run.{Run, run, with_element, stopped, element_run, align_run, call_of}
use Rattle.h264_base.specs.Meets.{Reader, calls_from, MeetsBy, Meets, Is, Checks, ChecksBy}

-- a run that goes on where the first one ended
abbrev pub going_on : {A B : Type 0} → List Element → (A → ℕ → Run B) → Result (A × ℕ) Stop → Run B
going_on es next (Ok x) = record { elements = es ++ (next x.0 x.1).elements; answer = (next x.0 x.1).answer }
going_on es next (Err e) = record { elements = es; answer = Err e }

abbrev pub then_run : {A B : Type 0} → Run A → (A → ℕ → Run B) → Run B
then_run r next = going_on r.elements next r.answer

going_on-with : {A B : Type 0} (e : Element) (es : List Element) (next : A → ℕ → Run B) (a : Result (A × ℕ) Stop) →
    with_element e (going_on es next a) ≡ going_on (e ∷ es) next a
going_on-with e es next (Ok x) = refl
going_on-with e es next (Err s) = refl

bind-element : {A B : Type 0} (body : Body) (name : _) (rule : Rule) (i : ℕ) (whole : ℕ → Found → Run B) (front : ℕ → Found → Run A) (next : A → ℕ → Run B) →
    ((j : ℕ) (e : Found) → whole j e ≡ then_run (front j e) next) → (o : Option (_ × ℕ)) →
    element_run body name rule i whole o ≡ then_run (element_run body name rule i front o) next
bind-element body name rule i whole front next h None = refl
bind-element body name rule i whole front next h (Some x) = let e : Element = record { name = name; from = i; to = x.1; value = x.0 } in
    ap (with_element e) (h x.1 (found body e)) ∙ going_on-with e _ next (front x.1 (found body e)).answer

bind-test : {A B : Type 0} (b : Bool) (whole : Run B) (s : Stop) (front : Run A) (next : A → ℕ → Run B) → whole ≡ then_run front next →
    cond b whole (stopped s) ≡ then_run (cond b front (stopped s)) next
bind-test true whole s front next h = h
bind-test false whole s front next h = refl

bind-align : {A B : Type 0} (body : Body) (whole : Run B) (front : Run A) (next : A → ℕ → Run B) → whole ≡ then_run front next →
    (o : Option ℕ) → align_run body whole o ≡ then_run (align_run body front o) next
bind-align body whole front next h None = h
bind-align body whole front next h (Some j) = refl

pub run-bind : {A B : Type 0} (g : Grammar A) (f : A → Grammar B) (body : Body) (i : ℕ) → run (g >>= f) body i ≡
    then_run (run g body i) (λ x j. run (f x) body j)
unfolding run ◌>>=◌
run-bind (Done x) f body i = refl
run-bind (Read name rule code k) f body i =
    bind-element body name rule i (λ j e. run (k e >>= f) body j) (λ j e. run (k e) body j) (λ x j. run (f x) body j) (λ j e. run-bind (k e) f body j)
    (value_at code body.bytes i)
run-bind (Check rule at holds g) f body i = bind-test holds _ _ _ (λ x j. run (f x) body j) (run-bind g f body i)
run-bind (Support rule at holds g) f body i = bind-test holds _ _ _ (λ x j. run (f x) body j) (run-bind g f body i)
run-bind (More k) f body i = run-bind (k _) f body i
run-bind (Align g) f body i = bind-align body _ _ (λ x j. run (f x) body j) (run-bind g f body (i + padding i)) (no_zero_at (padding i) body.bytes i)
run-bind (Bytes n k) f body i = bind-test (nat_le (i + 8 * n) (8 * length body.bytes)) _ _ _ (λ x j. run (f x) body j)
    (run-bind (k (bytes_at n body.bytes i)) f body (i + 8 * n))
run-bind (Close g) f body i = bind-test (closes_at body.bytes i) _ _ _ (λ x j. run (f x) body j) (run-bind g f body (8 * length body.bytes))

pub tells-none : {S : Type 0} (took : S → List Call → Type 0) (s : S) → Tells took s s []
tells-none took s = record { told = λ before h. rw append-nil h }

pub tells-both : {S : Type 0} {took : S → List Call → Type 0} {s0 s1 s2 : S} {xs ys : List Call} → Tells took s0 s1 xs → Tells took s1 s2 ys →
    Tells took s0 s2 (xs ++ ys)
tells-both {took} {s2} {xs} {ys} a b = record { told = λ before h. subst (took s2) (append_assoc before xs ys) (b.told (before ++ xs) (a.told before h)) }

pub front-none : {S : Type 0} {took : S → List Call → Type 0} {s0 s1 : S} (xs : List Call) → Tells took s0 s1 [] → TellsFront took s0 s1 xs
front-none xs a = record { front = []; rest = xs; whole = refl; tells = a }

-- a run that ended goes on as the rest does
run-goes_on : {A B : Type 0} (g : Grammar A) (f : A → Grammar B) (body : Body) (i j : ℕ) (x : A) → (run g body i).answer ≡ Ok (x, j) →
    run (g >>= f) body i ≡ going_on (run g body i).elements (λ x j. run (f x) body j) (Ok (x, j))
run-goes_on g f body i j x e = run-bind g f body i ∙ ap (going_on (run g body i).elements (λ x j. run (f x) body j)) e

run-stops : {A B : Type 0} (g : Grammar A) (f : A → Grammar B) (body : Body) (i : ℕ) (s : Stop) → (run g body i).answer ≡ Err s →
    run (g >>= f) body i ≡ record { elements = (run g body i).elements; answer = Err s }
run-stops g f body i s e = run-bind g f body i ∙ ap (going_on (run g body i).elements (λ x j. run (f x) body j)) e

stops-at : {A B S : Type 0} (took : S → List Call → Type 0) (failures : S → ℕ) (g : Grammar A) (f : A → Grammar B) (body : Body) (i : ℕ) (s0 s1 : S)
    (e : Stop) → ((run g body i).answer ≡ Err e) × Tells took s0 s1 (calls_from g body i) × (failures s1 ≡ failures s0) →
    ((run (g >>= f) body i).answer ≡ Err e) × Tells took s0 s1 (calls_from (g >>= f) body i) × (failures s1 ≡ failures s0)
stops-at took failures g f body i s0 s1 e m = let same = run-stops g f body i e m.0 in
    (ap (λ r. Run.answer r) same, subst (λ r. Tells took s0 s1 (map (call_of body) (Run.elements r))) (sym same) m.1, m.2)

-- a run that has begun: its first elements are those of the first part
run-begins : {A B : Type 0} (es : List Element) (next : A → ℕ → Run B) (a : Result (A × ℕ) Stop) → (rest : List Element) ×
    ((going_on es next a).elements ≡ es ++ rest)
run-begins es next (Ok x) = ((next x.0 x.1).elements, refl)
run-begins es next (Err s) = ([], sym (append-nil es))

-- a run that has these elements before it
abbrev pub after : {A : Type 0} → List Element → Run A → Run A
after es r = record { elements = es ++ r.elements; answer = r.answer }

-- What has been read so far leaves g' of g to be read.
pub record Leads {A S : Type 0} (took : S → List Call → Type 0) (failures : S → ℕ) (g g' : Grammar A) (old now : Reader) (s s' : S) : Type 0 where
  pub before : List Element
  pub goes : run g old.body old.at ≡ after before (run g' old.body now.at)
  pub tells : Tells took s s' (map (call_of old.body) before)
  pub quiet : failures s' ≡ failures s
  pub same : now.body ≡ old.body

after-none : {A : Type 0} (r : Run A) → r ≡ after [] r
after-none r = refl

after-both : {A : Type 0} (es fs : List Element) (r : Run A) → after es (after fs r) ≡ after (es ++ fs) r
after-both {A} es fs r = ap (λ (x : List Element). let q : Run A = record { elements = x; answer = r.answer } in q) (sym (append_assoc es fs r.elements))

pub leads-starts : {A S : Type 0} (took : S → List Call → Type 0) (failures : S → ℕ) (g : Grammar A) (old : Reader) (s : S) →
    Leads took failures g g old old s s
leads-starts took failures g old s = record { before = []; goes = refl; tells = tells-none took s; quiet = refl; same = refl }

-- one part after another
pub leads-then : {A S : Type 0} {took : S → List Call → Type 0} {failures : S → ℕ} {g g' g'' : Grammar A} {old now mid : Reader} {s s' s'' : S} →
    Leads took failures g g' old now s s' → Leads took failures g' g'' now mid s' s'' → Leads took failures g g'' old mid s s''
leads-then {took} {failures} {g} {g'} {g''} {old} {now} {mid} {s} {s'} {s''} a b =
    let G : Body → Type 0 = λ body. run g' body now.at ≡ after b.before (run g'' body mid.at) in
    let T : Body → Type 0 = λ body. Tells took s' s'' (map (call_of body) b.before) in
    record {
      before = a.before ++ b.before;
      goes = a.goes ∙ ap (after a.before) (subst G a.same b.goes) ∙ after-both a.before b.before _;
      tells = subst (Tells took s s'') (sym (map-append (call_of old.body) a.before b.before)) (tells-both a.tells (subst T a.same b.tells));
      quiet = b.quiet ∙ a.quiet;
      same = b.same ∙ a.same;
    }

-- The rest of a structure, seen from its start.
module _ {Y B S : Type 0} (took : S → List Call → Type 0) (failures : S → ℕ) (R : Y → B → Type 0) (g g' : Grammar B) (body : Body) (i j : ℕ)
    (es : List Element) (s0 s1 s2 : S) where
  elements-on : run g body i ≡ after es (run g' body j) →
      map (call_of body) (run g body i).elements ≡ map (call_of body) es ++ map (call_of body) (run g' body j).elements
  elements-on e = ap (λ r. map (call_of body) (Run.elements r)) e ∙ map-append (call_of body) es (run g' body j).elements

  answer-on : run g body i ≡ after es (run g' body j) → (run g body i).answer ≡ (run g' body j).answer
  answer-on e = ap (λ r. Run.answer r) e

  tells-on : run g body i ≡ after es (run g' body j) → Tells took s0 s1 (map (call_of body) es) →
      Tells took s1 s2 (map (call_of body) (run g' body j).elements) → Tells took s0 s2 (map (call_of body) (run g body i).elements)
  tells-on e a b = subst (Tells took s0 s2) (sym (elements-on e)) (tells-both a b)

  front-on : run g body i ≡ after es (run g' body j) → Tells took s0 s1 (map (call_of body) es) →
      TellsFront took s1 s2 (map (call_of body) (run g' body j).elements) → TellsFront took s0 s2 (map (call_of body) (run g body i).elements)
  front-on e a b = record {
    front = map (call_of body) es ++ b.front;
    rest = b.rest;
    whole = elements-on e ∙ ap (λ t. map (call_of body) es ++ t) b.whole ∙ sym (append_assoc _ b.front b.rest);
    tells = tells-both a b.tells;
  }

  meets-on : (new : ℕ) (r : Result Y Stop) → run g body i ≡ after es (run g' body j) → Tells took s0 s1 (map (call_of body) es) → failures s1 ≡ failures s0
      → MeetsBy (span took failures s1 s2) R g' (record { body = body; at = j }) new r
      → MeetsBy (span took failures s0 s2) R g (record { body = body; at = i }) new r
  meets-on new (Ok y) e t n m = (m.0, m.1, answer-on e ∙ m.2, tells-on e t m.3, m.4 ∙ n)
  meets-on new (Err Write) e t n m = (front-on e t m.0, m.1 ∙ ap (λ k. k + 1) n)
  meets-on new (Err (No b q)) e t n m = (answer-on e ∙ m.0, tells-on e t m.1, m.2 ∙ n)
  meets-on new (Err (Outside b q)) e t n m = (answer-on e ∙ m.0, tells-on e t m.1, m.2 ∙ n)
  meets-on new (Err Memory) e t n m = (answer-on e ∙ m.0, tells-on e t m.1, m.2 ∙ n)
  meets-on new (Err ReadFailed) e t n m = (answer-on e ∙ m.0, tells-on e t m.1, m.2 ∙ n)

meets-stop : {X Y A B S : Type 0} (took : S → List Call → Type 0) (failures : S → ℕ) (R : X → A → Type 0) (R' : Y → B → Type 0) (g : Grammar A)
    (f : A → Grammar B) (body : Body) (i j : ℕ) (s0 s1 : S) (e : Stop) → MeetsBy (span took failures s0 s1) R g (record { body = body; at = i }) j (Err e) →
    MeetsBy (span took failures s0 s1) R' (g >>= f) (record { body = body; at = i }) j (Err e)
meets-stop took failures R R' g f body i j s0 s1 Write m =
    let more = run-begins (run g body i).elements (λ x k. run (f x) body k) (run g body i).answer in (
      record {
        front = m.0.front;
        rest = m.0.rest ++ map (call_of body) more.0;
        whole = ap (λ r. map (call_of body) (Run.elements r)) (run-bind g f body i) ∙ ap (map (call_of body)) more.1 ∙
            map-append (call_of body) (run g body i).elements more.0 ∙ ap (λ t. t ++ map (call_of body) more.0) m.0.whole ∙ append_assoc m.0.front m.0.rest _;
        tells = m.0.tells;
      },
      m.1,
    )
meets-stop took failures R R' g f body i j s0 s1 (No b q) m = stops-at took failures g f body i s0 s1 (No b q) m
meets-stop took failures R R' g f body i j s0 s1 (Outside b q) m = stops-at took failures g f body i s0 s1 (Outside b q) m
meets-stop took failures R R' g f body i j s0 s1 Memory m = stops-at took failures g f body i s0 s1 Memory m
meets-stop took failures R R' g f body i j s0 s1 ReadFailed m = stops-at took failures g f body i s0 s1 ReadFailed m

-- what was read last leaves the rest
pub reads : {X A B S : Type 0} {took : S → List Call → Type 0} {failures : S → ℕ} {R : X → A → Type 0} {g : Grammar A} (f : A → Grammar B) {old mid : Reader}
    {s0 s1 : S} {x : X} → (m : Meets (span took failures s0 s1) R g old mid (Ok x)) → Leads took failures (g >>= f) (f m.meets.0) old mid s0 s1
reads {g} f {old} {mid} m = record {
  before = (run g old.body old.at).elements;
  goes = run-goes_on g f old.body old.at mid.at m.meets.0 m.meets.2;
  tells = m.meets.3;
  quiet = m.meets.4;
  same = m.same;
}

-- what is left is met, and so is the whole
pub finish : {Y B S : Type 0} {took : S → List Call → Type 0} {failures : S → ℕ} {R : Y → B → Type 0} {g g' : Grammar B} {old mid new : Reader} {s0 s1 s2 : S}
    {r : Result Y Stop} → Leads took failures g g' old mid s0 s1 → Meets (span took failures s1 s2) R g' mid new r →
    Meets (span took failures s0 s2) R g old new r
finish {took} {failures} {R} {g} {g'} {old} {mid} {new} {s0} {s1} {s2} {r} a b = record {
  meets = meets-on took failures R g g' old.body old.at mid.at a.before s0 s1 s2 new.at r a.goes a.tells a.quiet
      (subst (λ b. MeetsBy (span took failures s1 s2) R g' (record { body = b; at = mid.at }) new.at r) a.same b.meets);
  same = b.same ∙ a.same;
}

-- reading a part, and then the rest
pub bind_as : {X Y A B S : Type 0} {took : S → List Call → Type 0} {failures : S → ℕ} {R : X → A → Type 0} {R' : Y → B → Type 0} {g : Grammar A}
    (f : A → Grammar B) {old mid new : Reader} {s0 s1 s2 : S} {x : X} {r : Result Y Stop} → Meets (span took failures s0 s1) R g old mid (Ok x) →
    ((v : A) → R x v → Meets (span took failures s1 s2) R' (f v) mid new r) → Meets (span took failures s0 s2) R' (g >>= f) old new r
bind_as f a b = finish (reads f a) (b a.meets.0 a.meets.1)

-- the same where the value is seen
pub reads_is : {X A B S : Type 0} {took : S → List Call → Type 0} {failures : S → ℕ} {view : X → A} {g : Grammar A} (f : A → Grammar B) {old mid : Reader}
    {s0 s1 : S} {x : X} → Meets (span took failures s0 s1) (Is view) g old mid (Ok x) → Leads took failures (g >>= f) (f (view x)) old mid s0 s1
reads_is {took} {failures} {view} {g} f {old} {mid} {s0} {s1} {x} a = subst (λ v. Leads took failures (g >>= f) (f v) old mid s0 s1) a.meets.1 (reads f a)

pub bind : {X Y A B S : Type 0} {took : S → List Call → Type 0} {failures : S → ℕ} {view : X → A} {R' : Y → B → Type 0} {g : Grammar A} (f : A → Grammar B)
    {old mid new : Reader} {s0 s1 s2 : S} {x : X} {r : Result Y Stop} → Meets (span took failures s0 s1) (Is view) g old mid (Ok x) →
    Meets (span took failures s1 s2) R' (f (view x)) mid new r → Meets (span took failures s0 s2) R' (g >>= f) old new r
bind f a b = finish (reads_is f a) b

-- a part of a loop
pub leads-on : {X A B S : Type 0} {took : S → List Call → Type 0} {failures : S → ℕ} {view : X → A} {g : Grammar B} {h : Grammar A} (f : A → Grammar B)
    {old now mid : Reader} {s s' s'' : S} {x : X} → Leads took failures g (h >>= f) old now s s' →
    Meets (span took failures s' s'') (Is view) h now mid (Ok x) → Leads took failures g (f (view x)) old mid s s''
leads-on f l m = leads-then l (reads_is f m)

-- a part stops, and so does the whole
pub stop : {X Y A B S : Type 0} {took : S → List Call → Type 0} {failures : S → ℕ} {R : X → A → Type 0} {R' : Y → B → Type 0} {g : Grammar A}
    (f : A → Grammar B) {old new : Reader} {s0 s1 : S} {e : Stop} → Meets (span took failures s0 s1) R g old new (Err e) →
    Meets (span took failures s0 s1) R' (g >>= f) old new (Err e)
stop {took} {failures} {R} {R'} {g} f {old} {new} {s0} {s1} {e} a =
    record { meets = meets-stop took failures R R' g f old.body old.at new.at s0 s1 e a.meets; same = a.same }

-- how many calls failed, where none did
pub kept : {X A S : Type 0} {took : S → List Call → Type 0} {failures : S → ℕ} {R : X → A → Type 0} {g : Grammar A} {old new : Reader} {s s' : S} {x : X} →
    Meets (span took failures s s') R g old new (Ok x) → failures s' ≡ failures s
kept m = m.meets.4

-- nothing is left to read
pub done : {X A S : Type 0} (took : S → List Call → Type 0) (failures : S → ℕ) (R : X → A → Type 0) (v : A) (old : Reader) (s : S) (x : X) → R x v →
    Meets (span took failures s s) R (Done v) old old (Ok x)
unfolding run
done took failures R v old s x e = record { meets = (v, e, refl, tells-none took s, refl); same = refl }

-- whether data follow
pub looked : {X S : Type 0} (took : S → List Call → Type 0) (failures : S → ℕ) (view : X → Ahead) (old : Reader) (s : S) (x : X) → view x ≡
    ahead old.body old.at (not (ends_at old.body.bytes old.at)) → Meets (span took failures s s) (Is view) more old old (Ok x)
unfolding run more
looked took failures view old s x e = record {
  meets = (ahead old.body old.at (not (ends_at old.body.bytes old.at)), sym e, refl, tells-none took s, refl);
  same = refl;
}

check_met : {S : Type 0} (took : S → List Call → Type 0) (failures : S → ℕ) (rule : Rule) (bit : ℕ) (holds : Bool) (old : Reader) (s : S)
    (r : Result (Unit {0}) Stop) → ChecksBy rule bit holds r →
    MeetsBy (span took failures s s) (Is (λ (u : Unit {0}). u)) (check rule bit holds) (record { body = old.body; at = old.at }) old.at r
unfolding check run
check_met took failures rule bit true old s (Ok u) c = (tt, refl, refl, tells-none took s, refl)
check_met took failures rule bit false old s (Ok u) c = absurd (cc)
check_met took failures rule bit true old s (Err e) c = absurd (let f : true ≡ false = c.0 in cc)
check_met took failures rule bit false old s (Err e) c = let P : Stop →
    Type 0 = λ e. MeetsBy (span took failures s s) (Is (λ (u : Unit {0}). u)) (Check rule bit false (Done tt)) (record { body = old.body; at = old.at })
    old.at (Err e) in subst P (sym c.1) (refl, tells-none took s, refl)

-- a check that was made
pub checked : {S : Type 0} (took : S → List Call → Type 0) (failures : S → ℕ) {rule : Rule} {bit : ℕ} {holds : Bool} (old : Reader) (s : S)
    {r : Result (Unit {0}) Stop} → Checks rule bit holds r → Meets (span took failures s s) (Is (λ (u : Unit {0}). u)) (check rule bit holds) old old r
checked took failures {rule} {bit} {holds} old s {r} c = record { meets = check_met took failures rule bit holds old s r c.checks; same = refl }

-- a part that is read last, seen otherwise
pub seen-last : {X A B S : Type 0} {took : S → List Call → Type 0} {failures : S → ℕ} {R : X → A → Type 0} {R' : X → B → Type 0} {g : Grammar A} (f : A → B)
    {old new : Reader} {s s' : S} (r : Result X Stop) → ((x : X) (v : A) → R x v → R' x (f v)) → Meets (span took failures s s') R g old new r →
    Meets (span took failures s s') R' (g >>= (λ v. Done (f v))) old new r
seen-last f (Ok x) h m = bind_as _ m (λ v e. done _ _ _ _ _ _ _ (h x v e))
seen-last f (Err e) h m = stop _ m
