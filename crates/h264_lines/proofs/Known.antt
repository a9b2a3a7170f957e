-- What a writer holds, from one write to the next.
use Rattle.std.proofs.Common.{◌≡◌, ℕ, true, false, List, [], ◌++◌, Option, Some, None, Result, Ok, Err, OnOk, OnErr, refl, sym, ap, subst, ◌∙◌, arith}
use Rattle.std.specs.Result.{is_err}
use Rattle.std.specs.Io.KnownBytes.{Appends, Keeps}
use Rattle.std.proofs.lemmas.List.{append-nil, append_assoc, length-append}
use Rattle.h264_lines.specs.Sent.{Sends, SendsFront, SendsSome}

pub keeps-same : (a : Option (List ℕ)) → Keeps a a
keeps-same None = tt
keeps-same (Some xs) = refl

pub keeps-keeps : (a b c : Option (List ℕ)) → Keeps a b → Keeps b c → Keeps a c
keeps-keeps None b c p q = tt
keeps-keeps (Some xs) None c p q = absurd p
keeps-keeps (Some xs) (Some ys) None p q = q
keeps-keeps (Some xs) (Some ys) (Some zs) p q = q ∙ p

pub appends-none : (a : Option (List ℕ)) → Appends a a []
appends-none None = tt
appends-none (Some xs) = sym (append-nil xs)

pub appends-keeps : (a b : Option (List ℕ)) → Appends a b [] → Keeps a b
appends-keeps None b p = tt
appends-keeps (Some xs) None p = p
appends-keeps (Some xs) (Some ys) p = p ∙ append-nil xs

pub keeps-appends : (a b c : Option (List ℕ)) (bs : List ℕ) → Keeps a b → Appends b c bs → Appends a c bs
keeps-appends None b c bs p q = tt
keeps-appends (Some xs) None c bs p q = absurd p
keeps-appends (Some xs) (Some ys) None bs p q = q
keeps-appends (Some xs) (Some ys) (Some zs) bs p q = q ∙ ap (λ l. l ++ bs) p

pub appends-appends : (a b c : Option (List ℕ)) (bs cs : List ℕ) → Appends a b bs → Appends b c cs → Appends a c (bs ++ cs)
appends-appends None b c bs cs p q = tt
appends-appends (Some xs) None c bs cs p q = absurd p
appends-appends (Some xs) (Some ys) None bs cs p q = q
appends-appends (Some xs) (Some ys) (Some zs) bs cs p q = q ∙ ap (λ l. l ++ cs) p ∙ append_assoc xs bs cs

pub appends-then-keeps : (a b c : Option (List ℕ)) (bs : List ℕ) → Appends a b bs → Keeps b c → Appends a c bs
appends-then-keeps None b c bs p q = tt
appends-then-keeps (Some xs) None c bs p q = absurd p
appends-then-keeps (Some xs) (Some ys) None bs p q = q
appends-then-keeps (Some xs) (Some ys) (Some zs) bs p q = q ∙ p

pub sends-none : (a : Option (List ℕ)) → Sends a a []
sends-none a = record { appends = appends-none a }

pub sends-more : {a b c : Option (List ℕ)} {bs cs : List ℕ} → Sends a b bs → Sends b c cs → Sends a c (bs ++ cs)
sends-more {a} {b} {c} {bs} {cs} p q = record { appends = appends-appends a b c bs cs p.appends q.appends }

pub sends-is : {a b : Option (List ℕ)} {bs cs : List ℕ} → bs ≡ cs → Sends a b bs → Sends a b cs
sends-is {a} {b} e p = subst (Sends a b) e p

pub front-is : {a b : Option (List ℕ)} {bs cs : List ℕ} → bs ≡ cs → SendsFront a b bs → SendsFront a b cs
front-is {a} {b} e p = subst (SendsFront a b) e p

-- a part of what comes after bytes that were sent is a part of the whole
pub front-after : {a b c : Option (List ℕ)} {bs cs : List ℕ} → Sends a b bs → SendsFront b c cs → SendsFront a c (bs ++ cs)
front-after {a} {b} {c} {bs} {cs} p q = record {
  part = bs ++ q.part;
  proper = record { rest = q.proper.rest; whole = ap (λ l. bs ++ l) q.proper.whole ∙ sym (append_assoc bs q.part q.proper.rest); more = q.proper.more };
  appends = appends-appends a b c bs q.part p.appends q.appends;
}

-- and of a longer whole
pub front-longer : {a b : Option (List ℕ)} {bs : List ℕ} (cs : List ℕ) → SendsFront a b bs → SendsFront a b (bs ++ cs)
front-longer {a} {b} {bs} cs q = record {
  part = q.part;
  proper = record {
    rest = q.proper.rest ++ cs;
    whole = ap (λ l. l ++ cs) q.proper.whole ∙ append_assoc q.part q.proper.rest cs;
    more = let m = q.proper.more in let e = length-append q.proper.rest cs in omega (arith, m, e);
  };
  appends = q.appends;
}

-- ---- the first of some bytes, or all

pub sends-keeps : {a b c : Option (List ℕ)} {bs : List ℕ} → Sends a b bs → Keeps b c → Sends a c bs
sends-keeps {a} {b} {c} {bs} p q = record { appends = appends-then-keeps a b c bs p.appends q }

pub some-all : {a b : Option (List ℕ)} {bs : List ℕ} → Sends a b bs → SendsSome a b bs
some-all {a} {b} {bs} p = record { part = bs; rest = []; whole = sym (append-nil bs); appends = p.appends }

pub some-front : {a b : Option (List ℕ)} {bs : List ℕ} → SendsFront a b bs → SendsSome a b bs
some-front p = record { part = p.part; rest = p.proper.rest; whole = p.proper.whole; appends = p.appends }

pub some-longer : {a b : Option (List ℕ)} {bs : List ℕ} (cs : List ℕ) → SendsSome a b bs → SendsSome a b (bs ++ cs)
some-longer {a} {b} {bs} cs p = record {
  part = p.part;
  rest = p.rest ++ cs;
  whole = ap (λ l. l ++ cs) p.whole ∙ append_assoc p.part p.rest cs;
  appends = p.appends;
}

pub some-after : {a b c : Option (List ℕ)} {bs cs : List ℕ} → Sends a b bs → SendsSome b c cs → SendsSome a c (bs ++ cs)
some-after {a} {b} {c} {bs} {cs} p q = record {
  part = bs ++ q.part;
  rest = q.rest;
  whole = ap (λ l. bs ++ l) q.whole ∙ sym (append_assoc bs q.part q.rest);
  appends = appends-appends a b c bs q.part p.appends q.appends;
}

-- ---- what a call answered

pub ok-of : {X E A : Type 0} (r : Result X E) → false ≡ is_err r → OnOk r A → A
ok-of (Ok x) e a = a
ok-of (Err x) e a = absurd (let f : false ≡ true = e in cc)

pub err-of : {X E A : Type 0} (r : Result X E) → true ≡ is_err r → OnErr r A → A
err-of (Ok x) e a = absurd (let f : true ≡ false = e in cc)
err-of (Err x) e a = a
