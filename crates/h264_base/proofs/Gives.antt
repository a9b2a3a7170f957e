-- What every value that a structure gives has in common, wherever it is read.
use Rattle.std.proofs.Common.{◌≡◌, ℕ, ◌+◌, ◌*◌, Bool, true, false, IsTrue, List, [], ◌∷◌, length, Result, Ok, ap, sym, subst, inl, inr, if◌then◌else◌}
use Rattle.h264_base.specs.declared.rule.Rule.{Rule}
use Rattle.h264_base.specs.declared.stop.Stop.{Stop}
use Rattle.h264_base.specs.Body.{Body}
use Rattle.h264_base.specs.Call.{Call, span}
use Rattle.h264_base.specs.Grammar.{Grammar, Element, Found, found, Ahead, ahead, bytes_at, Done, Read, Check, Support, More, Align, Bytes, Close, ◌>>=◌}
use Rattle.h264_base.specs.Grammar.{Says, Derives, check}
use Rattle.h264_base.specs.Word.{padding}
use Rattle.h264_base.specs.Run.{run}
use Rattle.h264_base.specs.Meets.{Reader, Meets, Is}
use Rattle.h264_base.proofs.OneAnswer.{run-says}

-- each value that the structure can give, with every check met, has the property
unfoldable pub Gives : {A : Type 0} → Grammar A → (A → Type 0) → Type 0
Gives (Done x) P = P x
Gives (Read name rule code k) P = (e : Found) → Gives (k e) P
Gives (Check rule at holds g) P = IsTrue holds → Gives g P
Gives (Support feature at holds g) P = IsTrue holds → Gives g P
Gives (More k) P = (a : Ahead) → Gives (k a) P
Gives (Align g) P = Gives g P
Gives (Bytes n k) P = (bytes : List ℕ) → Gives (k bytes) P
Gives (Close g) P = Gives g P

gives-all : {A : Type 0} (g : Grammar A) (P : A → Type 0) → ((x : A) → P x) → Gives g P
unfolding Gives
gives-all (Done x) P h = h x
gives-all (Read name rule code k) P h = λ e. gives-all (k e) P h
gives-all (Check rule at holds g) P h = λ t. gives-all g P h
gives-all (Support feature at holds g) P h = λ t. gives-all g P h
gives-all (More k) P h = λ a. gives-all (k a) P h
gives-all (Align g) P h = gives-all g P h
gives-all (Bytes n k) P h = λ bytes. gives-all (k bytes) P h
gives-all (Close g) P h = gives-all g P h

pub gives-any : {A : Type 0} (g : Grammar A) → Gives g (λ x. Unit {0})
gives-any g = gives-all g (λ x. Unit {0}) (λ x. tt)

pub gives-done : {A : Type 0} (P : A → Type 0) (x : A) → P x → Gives (Done x) P
unfolding Gives
gives-done P x h = h

-- two properties
pub gives-both : {A : Type 0} (P Q : A → Type 0) (g : Grammar A) → Gives g P → Gives g Q → Gives g (λ x. P x × Q x)
unfolding Gives
gives-both P Q (Done x) p q = (p, q)
gives-both P Q (Read name rule code k) p q = λ e. gives-both P Q (k e) (p e) (q e)
gives-both P Q (Check rule at holds g) p q = λ t. gives-both P Q g (p t) (q t)
gives-both P Q (Support feature at holds g) p q = λ t. gives-both P Q g (p t) (q t)
gives-both P Q (More k) p q = λ a. gives-both P Q (k a) (p a) (q a)
gives-both P Q (Align g) p q = gives-both P Q g p q
gives-both P Q (Bytes n k) p q = λ bytes. gives-both P Q (k bytes) (p bytes) (q bytes)
gives-both P Q (Close g) p q = gives-both P Q g p q

-- a part whose values have one property, and then the rest
pub gives-bind : {A B : Type 0} (P : A → Type 0) (Q : B → Type 0) (g : Grammar A) (f : A → Grammar B) → Gives g P → ((x : A) → P x → Gives (f x) Q) →
    Gives (g >>= f) Q
unfolding ◌>>=◌ Gives
gives-bind P Q (Done x) f p h = h x p
gives-bind P Q (Read name rule code k) f p h = λ e. gives-bind P Q (k e) f (p e) h
gives-bind P Q (Check rule at holds g) f p h = λ t. gives-bind P Q g f (p t) h
gives-bind P Q (Support feature at holds g) f p h = λ t. gives-bind P Q g f (p t) h
gives-bind P Q (More k) f p h = λ a. gives-bind P Q (k a) f (p a) h
gives-bind P Q (Align g) f p h = gives-bind P Q g f p h
gives-bind P Q (Bytes n k) f p h = λ bytes. gives-bind P Q (k bytes) f (p bytes) h
gives-bind P Q (Close g) f p h = gives-bind P Q g f p h

-- after a part of which nothing is needed
pub gives-following : {A B : Type 0} (g : Grammar A) (f : A → Grammar B) (P : B → Type 0) → ((x : A) → Gives (f x) P) → Gives (g >>= f) P
gives-following g f P h = gives-bind (λ x. Unit {0}) P g f (gives-any g) (λ x t. h x)

pub gives-weaker : {A : Type 0} (g : Grammar A) (Q P : A → Type 0) → Gives g Q → ((x : A) → Q x → P x) → Gives g P
unfolding Gives
gives-weaker (Done x) Q P q h = h x q
gives-weaker (Read name rule code k) Q P q h = λ e. gives-weaker (k e) Q P (q e) h
gives-weaker (Check rule at holds g) Q P q h = λ t. gives-weaker g Q P (q t) h
gives-weaker (Support feature at holds g) Q P q h = λ t. gives-weaker g Q P (q t) h
gives-weaker (More k) Q P q h = λ a. gives-weaker (k a) Q P (q a) h
gives-weaker (Align g) Q P q h = gives-weaker g Q P q h
gives-weaker (Bytes n k) Q P q h = λ bytes. gives-weaker (k bytes) Q P (q bytes) h
gives-weaker (Close g) Q P q h = gives-weaker g Q P q h

pub gives-check : (rule : Rule) (bit : ℕ) (holds : Bool) → Gives (check rule bit holds) (λ x. IsTrue holds)
unfolding check Gives
gives-check rule bit holds = λ t. t

pub gives-if : {A : Type 0} (P : A → Type 0) (b : Bool) (g h : Grammar A) → Gives g P → Gives h P → Gives (if b then g else h) P
gives-if P true g h x y = x
gives-if P false g h x y = y

given : {A : Type 0} (P : A → Type 0) (x v : A) (i j : ℕ) → P x → (let r : Result (A × ℕ) Stop = Ok (v, j) in r) ≡ Ok (x, i) → P v
given {A} P x v i j p e =
    let pair : (let a : A × ℕ = (v, j) in a) ≡ (x, i) = cc in
    subst P (sym (ap (λ (a : A × ℕ). a.0) pair)) p

-- the value of a derivation has the property
pub gives-derived : {A : Type 0} (g : Grammar A) (P : A → Type 0) (body : Body) (i : ℕ) (es : List Element) (j : ℕ) (v : A) → Gives g P →
    Derives g body i es j v → P v
unfolding Gives
gives-derived (Done x) P body i es j v h d = given P x v i j h d.1
gives-derived (Read name rule code k) P body i [] j v h d = let e = d.0 in absurd (cc)
gives-derived (Read name rule code k) P body i (e ∷ es) j v h d = gives-derived (k (found body e)) P body e.to es j v (h (found body e)) d.3
gives-derived (Check rule at holds g) P body i es j v h (inl d) = gives-derived g P body i es j v (h d.0) d.1
gives-derived (Check rule at holds g) P body i es j v h (inr d) = let e = d.2 in absurd (cc)
gives-derived (Support feature at holds g) P body i es j v h (inl d) = gives-derived g P body i es j v (h d.0) d.1
gives-derived (Support feature at holds g) P body i es j v h (inr d) = let e = d.2 in absurd (cc)
gives-derived (More k) P body i es j v h d = gives-derived (k (ahead body i d.0)) P body i es j v (h (ahead body i d.0)) d.2
gives-derived (Align g) P body i es j v h (inl d) = gives-derived g P body (i + padding i) es j v h d.1
gives-derived (Align g) P body i es j v h (inr d) = let e = d.3 in absurd (cc)
gives-derived (Bytes n k) P body i es j v h (inl d) = gives-derived (k (bytes_at n body.bytes i)) P body (i + 8 * n) es j v (h (bytes_at n body.bytes i)) d.1
gives-derived (Bytes n k) P body i es j v h (inr d) = let e = d.2 in absurd (cc)
gives-derived (Close g) P body i es j v h (inl d) = gives-derived g P body (8 * length body.bytes) es j v h d.1
gives-derived (Close g) P body i es j v h (inr d) = let e = d.2 in absurd (cc)

-- so does that of a run
pub gives-run : {A : Type 0} (P : A → Type 0) (g : Grammar A) (body : Body) (i j : ℕ) (v : A) → Gives g P → (run g body i).answer ≡ Ok (v, j) → P v
gives-run P g body i j v h e =
    gives-derived g P body i (run g body i).elements j v h (subst (λ a. Says g body i (run g body i).elements a) e (run-says g body i))

-- and what was read
pub gives-met : {X A S : Type 0} {took : S → List Call → Type 0} {failures : S → ℕ} {view : X → A} {g : Grammar A} {old new : Reader} {s s' : S} {x : X}
    (P : A → Type 0) → Gives g P → Meets (span took failures s s') (Is view) g old new (Ok x) → P (view x)
gives-met {g = g} {old} {new} P h m = subst P m.meets.1 (gives-run P g old.body old.at new.at m.meets.0 h m.meets.2)
