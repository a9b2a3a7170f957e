-- Each input has at most one list of units, and one tail.
use Rattle.std.proofs.Common.{◌≡◌, ◌≢◌, ◌⊎◌, inl, inr, ℕ, zero, suc, ◌+◌, ◌<◌, ◌≤◌, min, List, [], ◌∷◌, ◌++◌, length, replicate, refl, ap, sym, ◌∙◌, subst}
use Rattle.std.proofs.Common.{arith, append_assoc, length-append}
use Rattle.std.proofs.lemmas.List.{length-replicate}
use Rattle.h264_units.specs.Stream.{NalUnit, EndsUnit, IsInner, IsBody, started, First, past, unit_limit, input_limit, shown_by, Next, Tail, Zeros, Stray}
use Rattle.h264_units.specs.Stream.{Bare, Long, Cut, IsStray, IsBare, IsLong, IsOpenUnit, IsCut, HasTail, Splits, SameUnits}

-- more bytes after it end no unit before it
pub inner-more : (x : ℕ) (b r : List ℕ) → (EndsUnit (x ∷ b) → ⊥) → EndsUnit ((x ∷ b) ++ r) → ⊥
inner-more x [] [] n h = n h
inner-more x [] (y ∷ []) n h = n h.0
inner-more x [] (y ∷ z ∷ r) n h = n h.0
inner-more x (y ∷ []) [] n h = n h
inner-more x (y ∷ []) (z ∷ r) n h = n (h.0, h.1)
inner-more x (y ∷ z ∷ b) r n h = n h

pub record SameCut (a b x y : List ℕ) : Type 0 where
  pub body_is : a ≡ b
  pub rest_is : x ≡ y

-- a body ends at one place
pub same-cut : (a b x y : List ℕ) → IsInner a → IsInner b → EndsUnit x → EndsUnit y → a ++ x ≡ b ++ y → SameCut a b x y
same-cut [] [] x y p q ex ey e = record { body_is = refl; rest_is = e }
same-cut [] (d ∷ b) x y p q ex ey e = absurd (inner-more d b y q.0 (subst EndsUnit e ex))
same-cut (c ∷ a) [] x y p q ex ey e = absurd (inner-more c a x p.0 (subst EndsUnit (sym e) ey))
same-cut (c ∷ a) (d ∷ b) x y p q ex ey e =
    let tails : a ++ x ≡ b ++ y = cc in
    let heads : c ≡ d = cc in
    let r = same-cut a b x y p.1 q.1 ex ey tails in
    record { body_is = cc (heads, r.body_is); rest_is = r.rest_is }

-- the first bytes of a unit are no more than its bytes
pub inner-within : (a b x y : List ℕ) → IsInner b → EndsUnit x → a ++ x ≡ b ++ y → length b ≤ length a
inner-within a [] x y q ex e = omega arith
inner-within [] (d ∷ b) x y q ex e = absurd (inner-more d b y q.0 (subst EndsUnit e ex))
inner-within (c ∷ a) (d ∷ b) x y q ex e =
    let tails : a ++ x ≡ b ++ y = cc in
    let r = inner-within a b x y q.1 ex tails in
    omega arith

-- zeros before a byte that is no zero
pub record SameZeros (m n : ℕ) (a b : ℕ) (x y : List ℕ) : Type 0 where
  pub count_is : m ≡ n
  pub byte_is : a ≡ b
  pub rest_is : x ≡ y

pub same-zeros : (m n : ℕ) (a b : ℕ) (x y : List ℕ) → a ≢ 0 → b ≢ 0 → replicate m 0 ++ a ∷ x ≡ replicate n 0 ++ b ∷ y → SameZeros m n a b x y
same-zeros zero zero a b x y p q e = record { count_is = refl; byte_is = cc; rest_is = cc }
same-zeros zero (suc n) a b x y p q e = let z : a ≡ 0 = cc in absurd (p z)
same-zeros (suc m) zero a b x y p q e = let z : b ≡ 0 = cc in absurd (q z)
same-zeros (suc m) (suc n) a b x y p q e =
    let tails : replicate m 0 ++ a ∷ x ≡ replicate n 0 ++ b ∷ y = cc in
    let r = same-zeros m n a b x y p q tails in
    record { count_is = ap suc r.count_is; byte_is = r.byte_is; rest_is = r.rest_is }

-- zeros to the end have no such byte
pub not-zeros : (m n : ℕ) (a : ℕ) (x : List ℕ) → a ≢ 0 → replicate m 0 ++ a ∷ x ≡ replicate n 0 → ⊥
not-zeros zero zero a x p e = cc
not-zeros zero (suc n) a x p e = let z : a ≡ 0 = cc in p z
not-zeros (suc m) zero a x p e = cc
not-zeros (suc m) (suc n) a x p e = let t : replicate m 0 ++ a ∷ x ≡ replicate n 0 = cc in not-zeros m n a x p t

-- nor do the first zeros reach beyond it
pub zeros-before : (m n : ℕ) (a : ℕ) (x y : List ℕ) → a ≢ 0 → replicate m 0 ++ a ∷ x ≡ replicate n 0 ++ y → n ≤ m
zeros-before m zero a x y p e = omega arith
zeros-before zero (suc n) a x y p e = let z : a ≡ 0 = cc in absurd (p z)
zeros-before (suc m) (suc n) a x y p e =
    let t : replicate m 0 ++ a ∷ x ≡ replicate n 0 ++ y = cc in
    let r = zeros-before m n a x y p t in
    omega arith

-- a start code as zeros and a 1
pub code-zeros : (m : ℕ) (x : List ℕ) → started m x ≡ replicate (m + 2) 0 ++ 1 ∷ x
code-zeros zero x = refl
code-zeros (suc m) x = ap (λ l. 0 ∷ l) (code-zeros m x) ∙ ap (λ k. replicate k 0 ++ 1 ∷ x) (suc-two m)
  where
    suc-two : (m : ℕ) → suc (m + 2) ≡ suc m + 2
    suc-two m = omega arith

pub started-append : (m : ℕ) (a b : List ℕ) → started m a ++ b ≡ started m (a ++ b)
started-append m a b = append_assoc (replicate m 0) (0 ∷ 0 ∷ 1 ∷ a) b

pub length-started : (m : ℕ) (x : List ℕ) → length (started m x) ≡ m + 3 + length x
length-started m x = simp (length-append, length-replicate) (omega arith)

pub record SameStart (m n : ℕ) (x y : List ℕ) : Type 0 where
  pub count_is : m ≡ n
  pub rest_is : x ≡ y

pub one-not-zero : let one : ℕ = 1 in one ≢ 0
one-not-zero e = cc

pub same-start : (m n : ℕ) (x y : List ℕ) → started m x ≡ started n y → SameStart m n x y
same-start m n x y e =
    let r = same-zeros (m + 2) (n + 2) 1 1 x y one-not-zero one-not-zero (sym (code-zeros m x) ∙ e ∙ code-zeros n y) in
    let k : m + 2 ≡ n + 2 = r.count_is in
    record { count_is = omega arith; rest_is = r.rest_is }

pub unit-same : (u v : NalUnit) → u.from ≡ v.from → u.body ≡ v.body → u ≡ v
unit-same u v p q =
    let made : ℕ → List ℕ → NalUnit = λ f b. record { from = f; body = b } in
    ap (λ f. made f u.body) p ∙ ap (λ b. made v.from b) q

pub record SameFirst (u v : NalUnit) (x y : List ℕ) : Type 0 where
  pub unit_is : u ≡ v
  pub rest_is : x ≡ y

pub same-first : (at : ℕ) (bytes : List ℕ) (u v : NalUnit) (x y : List ℕ) → First at bytes u x → First at bytes v y → SameFirst u v x y
same-first at bytes u v x y f g =
    let s = same-start f.zeros g.zeros (u.body ++ x) (v.body ++ y) (sym f.whole ∙ g.whole) in
    let c = same-cut u.body v.body x y f.body.1 g.body.1 f.ends g.ends s.rest_is in
    let p : u.from ≡ v.from = f.from ∙ ap (λ k. at + k + 3) s.count_is ∙ sym g.from in
    record { unit_is = unit-same u v p c.body_is; rest_is = c.rest_is }

-- what a first unit leaves ends where the bytes end
pub first-length : (at : ℕ) (bytes : List ℕ) (u : NalUnit) (rest : List ℕ) → First at bytes u rest → past u + length rest ≡ at + length bytes
first-length at bytes u rest f =
    let a : length bytes ≡ f.zeros + 3 + length (u.body ++ rest) = ap length f.whole ∙ length-started f.zeros (u.body ++ rest) in
    let b : length (u.body ++ rest) ≡ length u.body + length rest = length-append u.body rest in
    let c : u.from ≡ at + f.zeros + 3 = f.from in
    omega arith

-- a start code reaches after the zeros before it
pub code-alone : (m n : ℕ) (x y : List ℕ) → started m x ≡ replicate n 0 ++ y → n ≤ m + 2
code-alone m n x y e = zeros-before (m + 2) n 1 x y one-not-zero (sym (code-zeros m x) ∙ e)

code-not-zeros : (m n : ℕ) (x : List ℕ) → started m x ≡ replicate n 0 → ⊥
code-not-zeros m n x e = not-zeros (m + 2) n 1 x one-not-zero (sym (code-zeros m x) ∙ e)

-- no stray byte stands where a start code does
pub code-not-stray : (at : ℕ) (m : ℕ) (x bytes : List ℕ) (p : ℕ) → bytes ≡ started m x → IsStray at bytes p → ⊥
code-not-stray at m x bytes p e h =
    let s = same-zeros (m + 2) h.zeros 1 h.byte x h.rest one-not-zero h.other (sym (code-zeros m x) ∙ sym e ∙ h.whole) in
    let low : h.zeros < 2 = h.no_code (sym s.byte_is) in
    let k : m + 2 ≡ h.zeros = s.count_is in
    absurd (omega arith)

-- no unit ends within bytes that leave it open
ends-not-open : (a rest b y : List ℕ) (held : ℕ) → EndsUnit rest → IsInner b → a ++ rest ≡ (b ++ replicate held 0) ++ y →
    length a + min 3 (length rest) ≤ length b + held → held < 3 → 0 < length y → ⊥
ends-not-open a rest b y held e p w short few more =
    let k = inner-within a b rest (replicate held 0 ++ y) p e (w ∙ append_assoc b (replicate held 0) y) in
    let s : length a + length rest ≡ length (b ++ replicate held 0) + length y = sym (length-append a rest) ∙ ap length w ∙
    length-append (b ++ replicate held 0) y in
    let t : length (b ++ replicate held 0) ≡ length b + held = length-append b (replicate held 0) ∙ ap (λ n. length b + n) (length-replicate held 0) in
    omega arith

-- zeros that are held back are not the last of a unit's first bytes
long-not-held : (b y r : List ℕ) (held : ℕ) → IsInner b → b ++ r ≡ replicate held 0 ++ y → 0 < length b → length b ≤ held → ⊥
long-not-held [] y r held p e more short = absurd (omega arith)
long-not-held (c ∷ b) y r zero p e more short = absurd (omega arith)
long-not-held (c ∷ []) y r (suc held) p e more short = let z : c ≡ 0 = cc in p.0 z
long-not-held (c ∷ d ∷ b) y r (suc held) p e more short =
    let t : (d ∷ b) ++ r ≡ replicate held 0 ++ y = cc in
    long-not-held (d ∷ b) y r held p.1 t (omega arith) (omega arith)

long-not-open : (a r b y : List ℕ) (held : ℕ) → IsInner a → a ++ r ≡ (b ++ replicate held 0) ++ y → length b < length a → length a ≤ length b + held → ⊥
long-not-open a r [] y held p w more short = long-not-held a y r held p w more (omega arith)
long-not-open [] r (d ∷ b) y held p w more short = omega arith
long-not-open (c ∷ a) r (d ∷ b) y held p w more short =
    let t : a ++ r ≡ (b ++ replicate held 0) ++ y = cc in
    long-not-open a r b y held p.1 t (omega arith) (omega arith)

-- A start code in bytes that are cut: the bytes after it reach over the cut, or what they show of a unit is open.
pub record Reaches (at m : ℕ) (x : List ℕ) (rest : List ℕ) : Type 0 where
  pub body : List ℕ
  pub held : ℕ
  pub whole : x ≡ (body ++ replicate held 0) ++ rest
  pub inner : IsInner body
  pub fits : length body ≤ unit_limit
  pub few : held < 3
  pub ends : at + m + 3 + length body + held ≡ input_limit

cut-start : (at m : ℕ) (x bytes : List ℕ) (c : IsCut at bytes) → bytes ≡ started m x → (input_limit < at + m + 3) ⊎ Reaches at m x c.rest
cut-start at m x bytes c e = by c.undecided
  where
    by : ((zeros : ℕ) × (c.front ≡ replicate zeros 0)) ⊎ IsOpenUnit c.front → (input_limit < at + m + 3) ⊎ Reaches at m x c.rest
    by (inl z) =
        let k = code-alone m z.0 x c.rest (sym e ∙ c.whole ∙ ap (λ l. l ++ c.rest) z.1) in
        let n : length c.front ≡ z.0 = ap length z.1 ∙ length-replicate z.0 0 in
        let f : at + length c.front ≡ input_limit = c.front_ends in
        inl (omega arith)
    by (inr o) =
        let s = same-start m o.zeros x ((o.body ++ replicate o.held 0) ++ c.rest)
        (sym e ∙ c.whole ∙ ap (λ l. l ++ c.rest) o.whole ∙ started-append o.zeros (o.body ++ replicate o.held 0) c.rest) in
        let n : length c.front ≡ o.zeros + 3 + length (o.body ++ replicate o.held 0) = ap length o.whole ∙
        length-started o.zeros (o.body ++ replicate o.held 0) in
        let t : length (o.body ++ replicate o.held 0) ≡ length o.body + o.held = length-append o.body (replicate o.held 0) ∙
        ap (λ n. length o.body + n) (length-replicate o.held 0) in
        let f : at + length c.front ≡ input_limit = c.front_ends in
        let z : m ≡ o.zeros = s.count_is in
        inr (record { body = o.body; held = o.held; whole = s.rest_is; inner = o.inner; fits = o.fits; few = o.few; ends = omega arith })

-- bytes that show where something ended are not cut before
shown-not-cut : (at m : ℕ) (a rest bytes : List ℕ) → IsCut at bytes → bytes ≡ started m (a ++ rest) → EndsUnit rest →
    shown_by (at + m + 3 + length a) rest ≤ input_limit → ⊥
shown-not-cut at m a rest bytes c e ends shown = by (cut-start at m (a ++ rest) bytes c e)
  where
    by : (input_limit < at + m + 3) ⊎ Reaches at m (a ++ rest) c.rest → ⊥
    by (inl k) = omega arith
    by (inr r) = let f : at + m + 3 + length r.body + r.held ≡ input_limit = r.ends in
        ends-not-open a rest r.body c.rest r.held ends r.inner r.whole (omega arith) r.few c.goes_on

long-not-cut : (at : ℕ) (bytes : List ℕ) (p : ℕ) → IsLong at bytes p → IsCut at bytes → ⊥
long-not-cut at bytes p l c = by (cut-start at l.zeros (l.body ++ l.rest) bytes c l.whole)
  where
    by : (input_limit < at + l.zeros + 3) ⊎ Reaches at l.zeros (l.body ++ l.rest) c.rest → ⊥
    by (inl k) = let s : p + length l.body ≤ input_limit = l.shown in let e : p ≡ at + l.zeros + 3 = l.place_is in omega arith
    by (inr r) =
        let s : p + length l.body ≤ input_limit = l.shown in
        let e : p ≡ at + l.zeros + 3 = l.place_is in
        let f : at + l.zeros + 3 + length r.body + r.held ≡ input_limit = r.ends in
        let m : unit_limit < length l.body = l.too_many in
        let n : length r.body ≤ unit_limit = r.fits in
        long-not-open l.body l.rest r.body c.rest r.held l.inner r.whole (omega arith) (omega arith)

stray-not-cut : (at : ℕ) (bytes : List ℕ) (p : ℕ) → IsStray at bytes p → IsCut at bytes → ⊥
stray-not-cut at bytes p h c = by c.undecided
  where
    by : ((zeros : ℕ) × (c.front ≡ replicate zeros 0)) ⊎ IsOpenUnit c.front → ⊥
    by (inl z) =
        let k = zeros-before h.zeros z.0 h.byte h.rest c.rest h.other (sym h.whole ∙ c.whole ∙ ap (λ l. l ++ c.rest) z.1) in
        let n : length c.front ≡ z.0 = ap length z.1 ∙ length-replicate z.0 0 in
        let f : at + length c.front ≡ input_limit = c.front_ends in
        let s : p < input_limit = h.shown in
        let e : p ≡ at + h.zeros = h.place_is in
        omega arith
    by (inr o) = code-not-stray at o.zeros ((o.body ++ replicate o.held 0) ++ c.rest) bytes p
        (c.whole ∙ ap (λ l. l ++ c.rest) o.whole ∙ started-append o.zeros (o.body ++ replicate o.held 0) c.rest) h

zeros-not-cut : (at : ℕ) (bytes : List ℕ) → HasTail at bytes Zeros → IsCut at bytes → ⊥
zeros-not-cut at bytes z c =
    let n : length bytes ≡ z.0 = ap length z.1 ∙ length-replicate z.0 0 in
    let w : length bytes ≡ length c.front + length c.rest = ap length c.whole ∙ length-append c.front c.rest in
    let f : at + length c.front ≡ input_limit = c.front_ends in
    let more : 0 < length c.rest = c.goes_on in
    let k : at + z.0 ≤ input_limit = z.2 in
    omega arith

bare-not-cut : (at : ℕ) (bytes : List ℕ) (p : ℕ) → IsBare at bytes p → IsCut at bytes → ⊥
bare-not-cut at bytes p b c = shown-not-cut at b.zeros [] b.rest bytes c b.whole b.ends
    (let e : p ≡ at + b.zeros + 3 = b.place_is in let s : p + min 3 (length b.rest) ≤ input_limit = b.shown in omega arith)

long-not-ended : (m : ℕ) (a rest bytes : List ℕ) (at p : ℕ) → IsLong at bytes p → bytes ≡ started m (a ++ rest) → EndsUnit rest → length a ≤ unit_limit → ⊥
long-not-ended m a rest bytes at p l e ends fits =
    let s = same-start m l.zeros (a ++ rest) (l.body ++ l.rest) (sym e ∙ l.whole) in
    let k = inner-within a l.body rest l.rest l.inner ends s.rest_is in
    let m : unit_limit < length l.body = l.too_many in
    omega arith

-- a first unit leaves no other way
pub first-not-tail : (at : ℕ) (bytes : List ℕ) (u : NalUnit) (rest : List ℕ) (tail : Tail) → Next at bytes u rest → HasTail at bytes tail → ⊥
first-not-tail at bytes u rest Zeros f h = code-not-zeros f.first.zeros h.0 (u.body ++ rest) (sym f.first.whole ∙ h.1)
first-not-tail at bytes u rest (Stray p) f h = code-not-stray at f.first.zeros (u.body ++ rest) bytes p f.first.whole h
first-not-tail at bytes u rest (Bare p) f h =
    no-body u.body f.first.body (same-start f.first.zeros h.zeros (u.body ++ rest) h.rest (sym f.first.whole ∙ h.whole)).rest_is h.ends
  where
    no-body : (b : List ℕ) → IsBody b → b ++ rest ≡ h.rest → EndsUnit h.rest → ⊥
    no-body [] p e q = absurd (omega (arith, p.0))
    no-body (c ∷ b) p e q = inner-more c b rest p.1.0 (subst EndsUnit (sym e) q)
first-not-tail at bytes u rest (Long p) f h = long-not-ended f.first.zeros u.body rest bytes at p h f.first.whole f.first.ends f.fits
first-not-tail at bytes u rest Cut f h =
    let from : u.from ≡ at + f.first.zeros + 3 = f.first.from in
    let shown : u.from + length u.body + min 3 (length rest) ≤ input_limit = f.shown in
    shown-not-cut at f.first.zeros u.body rest bytes h f.first.whole f.first.ends (omega arith)

bare-not-long : (at : ℕ) (bytes : List ℕ) (p q : ℕ) → IsBare at bytes p → IsLong at bytes q → ⊥
bare-not-long at bytes p q b l = long-not-ended b.zeros [] b.rest bytes at q l b.whole b.ends (omega arith)

stray-not-zeros : (at : ℕ) (bytes : List ℕ) (p : ℕ) (n : ℕ) → IsStray at bytes p → bytes ≡ replicate n 0 → ⊥
stray-not-zeros at bytes p n f e = not-zeros f.zeros n f.byte f.rest f.other (sym f.whole ∙ e)

pub same-tail : (at : ℕ) (bytes : List ℕ) (s t : Tail) → HasTail at bytes s → HasTail at bytes t → s ≡ t
same-tail at bytes Zeros Zeros a b = refl
same-tail at bytes Zeros (Stray q) a b = absurd (stray-not-zeros at bytes q a.0 b a.1)
same-tail at bytes Zeros (Bare q) a b = absurd (code-not-zeros b.zeros a.0 b.rest (sym b.whole ∙ a.1))
same-tail at bytes Zeros (Long q) a b = absurd (code-not-zeros b.zeros a.0 (b.body ++ b.rest) (sym b.whole ∙ a.1))
same-tail at bytes Zeros Cut a b = absurd (zeros-not-cut at bytes a b)
same-tail at bytes (Stray p) Zeros a b = absurd (stray-not-zeros at bytes p b.0 a b.1)
same-tail at bytes (Stray p) (Stray q) a b =
    let s = same-zeros a.zeros b.zeros a.byte b.byte a.rest b.rest a.other b.other (sym a.whole ∙ b.whole) in
    ap Stray (a.place_is ∙ ap (λ k. at + k) s.count_is ∙ sym b.place_is)
same-tail at bytes (Stray p) (Bare q) a b = absurd (code-not-stray at b.zeros b.rest bytes p b.whole a)
same-tail at bytes (Stray p) (Long q) a b = absurd (code-not-stray at b.zeros (b.body ++ b.rest) bytes p b.whole a)
same-tail at bytes (Stray p) Cut a b = absurd (stray-not-cut at bytes p a b)
same-tail at bytes (Bare p) Zeros a b = absurd (code-not-zeros a.zeros b.0 a.rest (sym a.whole ∙ b.1))
same-tail at bytes (Bare p) (Stray q) a b = absurd (code-not-stray at a.zeros a.rest bytes q a.whole b)
same-tail at bytes (Bare p) (Bare q) a b =
    let s = same-start a.zeros b.zeros a.rest b.rest (sym a.whole ∙ b.whole) in
    ap Bare (a.place_is ∙ ap (λ k. at + k + 3) s.count_is ∙ sym b.place_is)
same-tail at bytes (Bare p) (Long q) a b = absurd (bare-not-long at bytes p q a b)
same-tail at bytes (Bare p) Cut a b = absurd (bare-not-cut at bytes p a b)
same-tail at bytes (Long p) Zeros a b = absurd (code-not-zeros a.zeros b.0 (a.body ++ a.rest) (sym a.whole ∙ b.1))
same-tail at bytes (Long p) (Stray q) a b = absurd (code-not-stray at a.zeros (a.body ++ a.rest) bytes q a.whole b)
same-tail at bytes (Long p) (Bare q) a b = absurd (bare-not-long at bytes q p b a)
same-tail at bytes (Long p) (Long q) a b =
    let s = same-start a.zeros b.zeros (a.body ++ a.rest) (b.body ++ b.rest) (sym a.whole ∙ b.whole) in
    ap Long (a.place_is ∙ ap (λ k. at + k + 3) s.count_is ∙ sym b.place_is)
same-tail at bytes (Long p) Cut a b = absurd (long-not-cut at bytes p a b)
same-tail at bytes Cut Zeros a b = absurd (zeros-not-cut at bytes b a)
same-tail at bytes Cut (Stray q) a b = absurd (stray-not-cut at bytes q b a)
same-tail at bytes Cut (Bare q) a b = absurd (bare-not-cut at bytes q b a)
same-tail at bytes Cut (Long q) a b = absurd (long-not-cut at bytes q b a)
same-tail at bytes Cut Cut a b = refl

-- the rest of a stream goes with its first unit
pub splits-after : (at : ℕ) (bytes : List ℕ) (u v : NalUnit) (x y : List ℕ) (units : List NalUnit) (tail : Tail) → First at bytes u x → First at bytes v y →
    Splits (past v) y units tail → Splits (past u) x units tail
splits-after at bytes u v x y units tail f g s =
    let same = same-first at bytes u v x y f g in
    subst (λ w. Splits (past w) x units tail) (sym same.unit_is) (subst (λ r. Splits (past v) r units tail) (sym same.rest_is) s)

pub same-units : (at : ℕ) (bytes : List ℕ) (us vs : List NalUnit) (s t : Tail) → Splits at bytes us s → Splits at bytes vs t → SameUnits us vs s t
same-units at bytes [] [] s t a b = record { units_are = refl; tail_is = same-tail at bytes s t a b }
same-units at bytes [] (v ∷ vs) s t a b = absurd (first-not-tail at bytes v b.0 s b.1 a)
same-units at bytes (u ∷ us) [] s t a b = absurd (first-not-tail at bytes u a.0 t a.1 b)
same-units at bytes (u ∷ us) (v ∷ vs) s t a b =
    let same = same-first at bytes u v a.0 b.0 a.1.first b.1.first in
    let r = same-units (past u) a.0 us vs s t a.2 (splits-after at bytes u v a.0 b.0 vs t a.1.first b.1.first b.2) in
    record { units_are = cc (same.unit_is, r.units_are); tail_is = r.tail_is }
