-- How outcomes are put together.
use Rattle.std.proofs.Common.{◌≡◌, ℕ, ◌+◌, ◌⊎◌, inl, inr, Bool, true, false, List, [], ◌++◌, Result, Ok, Err, refl, ap, sym, ◌∙◌, subst, append_assoc}
use Rattle.std.proofs.Common.{if◌then◌else◌}
use Rattle.std.proofs.lemmas.List.{append-nil}
use Rattle.h264_base.specs.declared.rule.Rule.{Rule}
use Rattle.h264_base.specs.declared.stop.Stop.{Stop}
use Rattle.h264_base.specs.declared.stop.Stop.TheVariants.{No, Outside, Memory, Read, Write}
use Rattle.h264_base.specs.Call.{span}
use Rattle.h264_base.specs.Run.{run}
use Rattle.h264_verify.specs.Telling.{Told, Tells, TellsFront}
use Rattle.h264_verify.specs.Outcome.{Outcome, ◌>>=◌, answers, gives, with_calls, continued, Plays, PlaysBy, IsNamed}
use Rattle.h264_verify.proofs.language.ToldTogether.{tells-none, tells-both}

-- a rule that is not met is no want of memory
pub no-memory : (b : Bool) (bit : ℕ) (rule : Rule) (e : Stop) → (let r : Result (Unit {0}) Stop = Err e in r ≡ (if b then Ok tt else Err (No bit rule))) →
    (let r : Result (Unit {0}) Stop = Err e in r ≡ Err Memory) → ⊥
no-memory true bit rule e h m = cc
no-memory false bit rule e h m = cc

-- an error of a call is that of its caller
pub err-as : {A B : Type 0} (e e' : Stop) → (let r : Result A Stop = Err e in r ≡ Err e') → (let r : Result B Stop = Err e in r ≡ Err e')
err-as {A} {B} e e' h = let k : e ≡ e' = cc in ap (λ (x : Stop). let r : Result B Stop = Err x in r) k

-- the same stop of a call that gives another value
pub told-as : {X Y : Type 0} {a b : ℕ} {told : Stop} (stop : Stop) → (a ≡ b) ⊎ (let r : Result X Stop = Err stop in r ≡ Err told) → (a ≡ b) ⊎
    (let r : Result Y Stop = Err stop in r ≡ Err told)
told-as stop (inl e) = inl e
told-as {X} {Y} {told = told} stop (inr e) = inr (err-as {A = X} {B = Y} stop told e)

-- after calls at which none failed
pub told-after : {W : Type 0} {a b c : ℕ} → b ≡ a → (c ≡ b) ⊎ W → (c ≡ a) ⊎ W
told-after e (inl f) = inl (f ∙ e)
told-after e (inr w) = inr w

pub gives-plays : {A S X : Type 0} (took : S → List Told → Type 0) (failures : S → ℕ) (view : X → A) (x : X) (s : S) →
    Plays (span took failures s s) view (gives (view x)) (Ok x)
gives-plays took failures view x s = record { plays = (refl, tells-none took s, refl) }

begins : {A B : Type 0} (next : A → Outcome B) (calls : List Told) (answer : Result A Stop) → (rest : List Told) ×
    ((continued calls next answer).calls ≡ calls ++ rest)
begins next calls (Ok x) = ((next x).calls, refl)
begins next calls (Err e) = ([], sym (append-nil calls))

pub plays-stops : {A B S X Y : Type 0} (took : S → List Told → Type 0) (failures : S → ℕ) (view : X → A) (view' : Y → B) (run : Outcome A)
    (next : A → Outcome B) (s s' : S) (e : Stop) → Plays {X = X} (span took failures s s') view run (Err e) →
    Plays {X = Y} (span took failures s s') view' (run >>= next) (Err e)
unfolding ◌>>=◌
plays-stops {A} {B} {S} {X} {Y} took failures view view' run next s s' e p = by e p.plays
  where
    front : TellsFront took s s' run.calls → TellsFront took s s' (run >>= next).calls
    front k = let b = begins next run.calls run.answer in
        record { front = k.front; rest = k.rest ++ b.0; whole = b.1 ∙ ap (λ l. l ++ b.0) k.whole ∙ append_assoc k.front k.rest b.0; tells = k.tells }

    told : (e : Stop) → run.answer ≡ Err e → Tells took s s' run.calls → Tells took s s' (run >>= next).calls
    told e a k = subst (λ r. Tells took s s' (continued run.calls next r).calls) (sym a) k

    answered : (e : Stop) → run.answer ≡ Err e → (run >>= next).answer ≡ Err e
    answered e a = ap (λ r. (continued run.calls next r).answer) a

    by : (e : Stop) → PlaysBy {X = X} (span took failures s s') view run (Err e) → Plays {X = Y} (span took failures s s') view' (run >>= next) (Err e)
    by (No bit rule) p = record { plays = (answered _ p.0, told _ p.0 p.1, p.2) }
    by (Outside bit feature) p = record { plays = (answered _ p.0, told _ p.0 p.1, p.2) }
    by Memory p = record { plays = (front p.0, p.1) }
    by Read p = absurd p
    by Write p = record { plays = (front p.0, p.1) }

pub plays-on : {A B S X Y : Type 0} (took : S → List Told → Type 0) (failures : S → ℕ) (view : X → A) (view' : Y → B) (run : Outcome A) (next : A → Outcome B)
    (s0 s1 s2 : S) (x : X) (r : Result Y Stop) → Plays (span took failures s0 s1) view run (Ok x) → Plays (span took failures s1 s2) view' (next (view x)) r →
    Plays (span took failures s0 s2) view' (run >>= next) r
unfolding ◌>>=◌
plays-on {A} {B} {S} {X} {Y} took failures view view' run next s0 s1 s2 x r p q =
    subst (λ w. Plays (span took failures s0 s2) view' w r) (sym same) (record { plays = by r q.plays })
  where
    same : (run >>= next) ≡ with_calls run.calls (next (view x))
    same = ap (continued run.calls next) p.plays.0

    front : TellsFront took s1 s2 (next (view x)).calls → TellsFront took s0 s2 (run.calls ++ (next (view x)).calls)
    front k = record {
      front = run.calls ++ k.front;
      rest = k.rest;
      whole = ap (λ l. run.calls ++ l) k.whole ∙ sym (append_assoc run.calls k.front k.rest);
      tells = tells-both p.plays.1 k.tells;
    }

    by : (r : Result Y Stop) → PlaysBy (span took failures s1 s2) view' (next (view x)) r →
        PlaysBy (span took failures s0 s2) view' (with_calls run.calls (next (view x))) r
    by (Ok y) k = (k.0, tells-both p.plays.1 k.1, k.2 ∙ p.plays.2)
    by (Err (No bit rule)) k = (k.0, tells-both p.plays.1 k.1, k.2 ∙ p.plays.2)
    by (Err (Outside bit feature)) k = (k.0, tells-both p.plays.1 k.1, k.2 ∙ p.plays.2)
    by (Err Memory) k = (front k.0, k.1 ∙ p.plays.2)
    by (Err Read) k = absurd k
    by (Err Write) k = (front k.0, k.1 ∙ ap (λ n. n + 1) p.plays.2)

-- a check that answers as this outcome does, and tells nothing
pub answer-stops : {A S X : Type 0} (took : S → List Told → Type 0) (failures : S → ℕ) (view : X → A) (run : Outcome (Unit {0})) (next : Unit {0} → Outcome A)
    (s : S) (e : Stop) → run ≡ answers (Err e) → IsNamed e → Plays (span took failures s s) view (run >>= next) (Err e)
unfolding ◌>>=◌
answer-stops {X} took failures view run next s (No b r) h n =
    subst (λ w. Plays {X = X} (span took failures s s) view (w >>= next) (Err (No b r))) (sym h) (record { plays = (refl, tells-none took s, refl) })
answer-stops {X} took failures view run next s (Outside b r) h n =
    subst (λ w. Plays {X = X} (span took failures s s) view (w >>= next) (Err (Outside b r))) (sym h) (record { plays = (refl, tells-none took s, refl) })
answer-stops took failures view run next s Memory h n = absurd n
answer-stops took failures view run next s Read h n = absurd n
answer-stops took failures view run next s Write h n = absurd n

pub answer-on : {A S X : Type 0} (took : S → List Told → Type 0) (failures : S → ℕ) (view : X → A) (run : Outcome (Unit {0})) (next : Unit {0} → Outcome A)
    (s s' : S) (x : Unit {0}) (r : Result X Stop) → run ≡ answers (Ok x) → Plays (span took failures s s') view (next tt) r →
    Plays (span took failures s s') view (run >>= next) r
unfolding ◌>>=◌
answer-on took failures view run next s s' x r h p = subst (λ w. Plays (span took failures s s') view (w >>= next) r) (sym h) p

pub plays-not-read : {A S X : Type 0} (took : S → List Told → Type 0) (failures : S → ℕ) (view : X → A) (run : Outcome A) (s s' : S) (r : Result X Stop) →
    Plays (span took failures s s') view run r → r ≡ Err Read → ⊥
plays-not-read took failures view run s s' r p e = subst (λ x. PlaysBy (span took failures s s') view run x) e p.plays

pub named-by : (e : Stop) (bit : ℕ) (rule : Rule) → e ≡ No bit rule → IsNamed e
named-by e bit rule h = subst IsNamed (sym h) tt

-- memory was refused before anything more was told
pub memory-plays : {A S X : Type 0} (took : S → List Told → Type 0) (failures : S → ℕ) (view : X → A) (o : Outcome A) (s : S) →
    Plays {X = X} (span took failures s s) view o (Err Memory)
memory-plays took failures view o s = record { plays = (record { front = []; rest = o.calls; whole = refl; tells = tells-none took s }, refl) }

-- the same outcome
pub plays-as : {A S X : Type 0} (took : S → List Told → Type 0) (failures : S → ℕ) (view : X → A) (o p : Outcome A) (s s' : S) (r : Result X Stop) → o ≡ p →
    Plays (span took failures s s') view p r → Plays (span took failures s s') view o r
plays-as took failures view o p s s' r e k = subst (λ q. Plays (span took failures s s') view q r) (sym e) k

pub answers-plays : {X S : Type 0} (took : S → List Told → Type 0) (failures : S → ℕ) (stop : Stop) (s : S) → IsNamed stop →
    Plays {X = X} (span took failures s s) (λ (x : X). x) (answers (Err stop)) (Err stop)
answers-plays took failures (No bit rule) s n = record { plays = (refl, tells-none took s, refl) }
answers-plays took failures (Outside bit feature) s n = record { plays = (refl, tells-none took s, refl) }
answers-plays took failures Memory s n = absurd n
answers-plays took failures Read s n = absurd n
answers-plays took failures Write s n = absurd n
