-- The function that finds the first fault finds it.
use Rattle.std.proofs.Common.{◌≡◌, ◌⊎◌, inl, inr, ℕ, zero, suc, ◌+◌, ◌-◌, ◌<◌, ◌≤◌, true, false, ◌&&◌, ◌||◌, List, [], ◌∷◌, length, get_or, Option, Some}
use Rattle.std.proofs.Common.{None, Ok, Err, ◌*◌, refl, ap, sym, ◌∙◌, subst, arith}
use Rattle.std.proofs.lemmas.Bool.{cond_both, and_parts, or_cases, and_from, or_left, or_right, eqb-true, eq-eqb, ltb-true, lt-ltb, both_ways, cases_order}
use Rattle.std.specs.Prelude.{◌==◌, nat_lt, MatchResult}
use Rattle.h264_base.specs.declared.rule.Rule.TheVariants.{Emulation}
use Rattle.h264_base.specs.declared.stop.Stop.TheVariants.{No}
use Rattle.h264_rbsp.specs.Emulation.{AfterZeros, IsBroken, IsFault, IsFirstFault, fault_from, told, emulation_checked}
use Rattle.h264_rbsp.proofs.Faults.{third-before}

-- one byte more in front
module _ (x : ℕ) (l : List ℕ) where
  pub zeros-on : (third : ℕ) → AfterZeros l third → AfterZeros (x ∷ l) (suc third)
  zeros-on third z =
      let b : 2 ≤ third = z.following in
      let e : suc third - 2 ≡ suc (third - 2) = omega arith in
      let f : suc third - 1 ≡ suc (third - 1) = omega arith in
      record {
        following = omega arith;
        within = omega (arith, z.within);
        first = ap (λ k. get_or (x ∷ l) k 0) e ∙ z.first;
        second = ap (λ k. get_or (x ∷ l) k 0) f ∙ z.second;
      }

  pub zeros-back : (third : ℕ) → AfterZeros (x ∷ l) (suc third) → 2 ≤ third → AfterZeros l third
  zeros-back third z h =
      let e : suc (third - 2) ≡ suc third - 2 = omega arith in
      let f : suc (third - 1) ≡ suc third - 1 = omega arith in
      record {
        following = h;
        within = omega (arith, z.within);
        first = ap (λ k. get_or (x ∷ l) k 0) e ∙ z.first;
        second = ap (λ k. get_or (x ∷ l) k 0) f ∙ z.second;
      }

  next : (third : ℕ) → get_or (x ∷ l) (suc third + 1) 0 ≡ get_or l (third + 1) 0
  next third = let e : suc third + 1 ≡ suc (third + 1) = omega arith in ap (λ k. get_or (x ∷ l) k 0) e

  broken-on : (third place : ℕ) → IsBroken l third place → IsBroken (x ∷ l) (suc third) (suc place)
  broken-on third place (inl b) = inl (record { byte = b.byte; place_is = ap suc b.place_is })
  broken-on third place (inr (inl b)) = inr (inl (record { byte = b.byte; last = let e = b.last in omega (arith, e); place_is = ap suc b.place_is }))
  broken-on third place (inr (inr b)) = let e : place ≡ third + 1 = b.place_is in let n = next third in let a : 3 < get_or l (third + 1) 0 = b.above in
      inr (inr (record { byte = b.byte; more = omega (arith, b.more); above = omega arith; place_is = omega arith }))

  pub record Back (third place : ℕ) : Type 0 where
    pub from : ℕ
    pub place_is : place ≡ suc from
    pub broken : IsBroken l third from

  broken-back : (third place : ℕ) → IsBroken (x ∷ l) (suc third) place → Back third place
  broken-back third place (inl b) = record { from = third; place_is = b.place_is; broken = inl (record { byte = b.byte; place_is = refl }) }
  broken-back third place (inr (inl b)) = record {
    from = third;
    place_is = b.place_is;
    broken = inr (inl (record { byte = b.byte; last = omega (arith, b.last); place_is = refl }));
  }
  broken-back third place (inr (inr b)) = let e : place ≡ suc third + 1 = b.place_is in let n = next third in
      let a : 3 < get_or (x ∷ l) (suc third + 1) 0 = b.above in
      record {
        from = third + 1;
        place_is = omega arith;
        broken = inr (inr (record { byte = b.byte; more = omega (arith, b.more); above = omega arith; place_is = refl }));
      }

  fault-on : (place : ℕ) → IsFault l place → IsFault (x ∷ l) (suc place)
  fault-on place f = record { third = suc f.third; zeros = zeros-on f.third f.zeros; broken = broken-on f.third place f.broken }

-- what the function answers, after n bytes
abbrev pub IsAnswer : ℕ → List ℕ → Option ℕ → Type 0
IsAnswer n l None = (place : ℕ) → IsFault l place → ⊥
IsAnswer n l (Some m) = (place : ℕ) × (m ≡ n + place) × IsFirstFault l place

none-short : (l : List ℕ) → length l ≤ 2 → (place : ℕ) → IsFault l place → ⊥
none-short l h place f = let b : 2 ≤ f.third = f.zeros.following in let w : f.third < length l = f.zeros.within in omega arith

-- the first three bytes
module _ (x y z : ℕ) (r : List ℕ) where
  zeros-here : x ≡ 0 → y ≡ 0 → AfterZeros (x ∷ y ∷ z ∷ r) 2
  zeros-here p q = record { following = omega arith; within = omega arith; first = p; second = q }

  zeros-there : AfterZeros (x ∷ y ∷ z ∷ r) 2 → (x ≡ 0) × (y ≡ 0)
  zeros-there b = (b.first, b.second)

  first-here : (place : ℕ) → x ≡ 0 → y ≡ 0 → place ≡ 2 → IsBroken (x ∷ y ∷ z ∷ r) 2 2 → IsFirstFault (x ∷ y ∷ z ∷ r) 2
  first-here place p q e b = record {
    fault = record { third = 2; zeros = zeros-here p q; broken = b };
    before = λ other lt f. let k = third-before (x ∷ y ∷ z ∷ r) f.third other f.broken in let l : 2 ≤ f.third = f.zeros.following in omega arith;
  }

-- a test of the three bytes
zeros-two : (x y z : ℕ) → ((x == 0) && (y == 0) && (z == 2)) ≡ true → (x ≡ 0) × (y ≡ 0) × (z ≡ 2)
zeros-two x y z t =
    let p = and_parts ((x == 0) && (y == 0)) (z == 2) t in
    let q = and_parts (x == 0) (y == 0) p.0 in
    (eqb-true x 0 q.0, eqb-true y 0 q.1, eqb-true z 2 p.1)

test-two : (x y z : ℕ) → x ≡ 0 → y ≡ 0 → z ≡ 2 → ((x == 0) && (y == 0) && (z == 2)) ≡ true
test-two x y z p q e = and_from ((x == 0) && (y == 0)) (z == 2) (and_from (x == 0) (y == 0) (eq-eqb x 0 p) (eq-eqb y 0 q)) (eq-eqb z 2 e)

test-three : (x y z : ℕ) → x ≡ 0 → y ≡ 0 → z ≡ 3 → ((x == 0) && (y == 0) && (z == 3)) ≡ true
test-three x y z p q e = and_from ((x == 0) && (y == 0)) (z == 3) (and_from (x == 0) (y == 0) (eq-eqb x 0 p) (eq-eqb y 0 q)) (eq-eqb z 3 e)

-- a fault of four bytes or more is one of its first, or lies after them
module _ (x y z w : ℕ) (r : List ℕ) where
  head : ((x == 0) && (y == 0) && (z == 2)) ≡ false → ((x == 0) && (y == 0) && (z == 3) && nat_lt 3 w) ≡ false →
      (place : ℕ) → AfterZeros (x ∷ y ∷ z ∷ w ∷ r) 2 → IsBroken (x ∷ y ∷ z ∷ w ∷ r) 2 place → ⊥
  head two three place b (inl c) = let q = zeros-there x y z (w ∷ r) b in both_ways _ two (test-two x y z q.0 q.1 c.byte)
  head two three place b (inr (inl c)) = let e : suc (suc (suc (suc (length r)))) ≡ 2 + 1 = sym c.last in omega arith
  head two three place b (inr (inr c)) = let q = zeros-there x y z (w ∷ r) b in
      both_ways _ three (and_from ((x == 0) && (y == 0) && (z == 3)) (nat_lt 3 w) (test-three x y z q.0 q.1 c.byte) (lt-ltb 3 w c.above))

  -- where the first bytes pass
  module _ (two : ((x == 0) && (y == 0) && (z == 2)) ≡ false) (three : ((x == 0) && (y == 0) && (z == 3) && nat_lt 3 w) ≡ false) where
    following : (third place : ℕ) → AfterZeros (x ∷ y ∷ z ∷ w ∷ r) third → IsBroken (x ∷ y ∷ z ∷ w ∷ r) third place → (from : ℕ) × (place ≡ suc from) ×
        IsFault (y ∷ z ∷ w ∷ r) from
    following zero place b c = absurd (omega (arith, b.following))
    following (suc zero) place b c = absurd (omega (arith, b.following))
    following (suc (suc zero)) place b c = absurd (head two three place b c)
    following (suc (suc (suc third))) place b c =
        let k = broken-back x (y ∷ z ∷ w ∷ r) (suc (suc third)) place c in
        (k.from, k.place_is, record { third = suc (suc third); zeros = zeros-back x (y ∷ z ∷ w ∷ r) (suc (suc third)) b (omega arith); broken = k.broken })

    lift : (n : ℕ) (o : Option ℕ) → IsAnswer (n + 1) (y ∷ z ∷ w ∷ r) o → IsAnswer n (x ∷ y ∷ z ∷ w ∷ r) o
    lift n None h = λ place f. let k = following f.third place f.zeros f.broken in h k.0 k.2
    lift n (Some m) h =
        let e : m ≡ n + 1 + h.0 = h.1 in (
          suc h.0,
          omega arith,
          record {
            fault = fault-on x (y ∷ z ∷ w ∷ r) h.0 h.2.fault;
            before = λ other lt f. let k = following f.third other f.zeros f.broken in let g : other ≡ suc k.0 = k.1 in h.2.before k.0 (omega arith) k.2;
          },
        )

told-three : (n x y z : ℕ) → IsAnswer n (x ∷ y ∷ z ∷ []) (fault_from n (x ∷ y ∷ z ∷ []))
unfolding fault_from
told-three n x y z = cond_both ((x == 0) && (y == 0) && ((z == 2) || (z == 3))) (Some (n + 2)) None (IsAnswer n (x ∷ y ∷ z ∷ [])) yes no
  where
    test : x ≡ 0 → y ≡ 0 → ((z == 2) || (z == 3)) ≡ true → ((x == 0) && (y == 0) && ((z == 2) || (z == 3))) ≡ true
    test p q e = and_from ((x == 0) && (y == 0)) ((z == 2) || (z == 3)) (and_from (x == 0) (y == 0) (eq-eqb x 0 p) (eq-eqb y 0 q)) e

    broken : (z == 2) ≡ true ⊎ (z == 3) ≡ true → IsBroken (x ∷ y ∷ z ∷ []) 2 2
    broken (inl e) = inl (record { byte = eqb-true z 2 e; place_is = refl })
    broken (inr e) = inr (inl (record { byte = eqb-true z 3 e; last = refl; place_is = refl }))

    yes : ((x == 0) && (y == 0) && ((z == 2) || (z == 3))) ≡ true → IsAnswer n (x ∷ y ∷ z ∷ []) (Some (n + 2))
    yes t =
        let p = and_parts ((x == 0) && (y == 0)) ((z == 2) || (z == 3)) t in
        let q = and_parts (x == 0) (y == 0) p.0 in
        (2, refl, first-here x y z [] 2 (eqb-true x 0 q.0) (eqb-true y 0 q.1) refl (broken (or_cases (z == 2) (z == 3) p.1)))

    none : ((x == 0) && (y == 0) && ((z == 2) || (z == 3))) ≡ false → (third place : ℕ) → AfterZeros (x ∷ y ∷ z ∷ []) third →
        IsBroken (x ∷ y ∷ z ∷ []) third place → ⊥
    none t zero place b c = omega (arith, b.following)
    none t (suc zero) place b c = omega (arith, b.following)
    none t (suc (suc zero)) place b (inl c) = let q = zeros-there x y z [] b in both_ways _ t (test q.0 q.1 (or_left (z == 2) (z == 3) (eq-eqb z 2 c.byte)))
    none t (suc (suc zero)) place b (inr (inl c)) = let q = zeros-there x y z [] b in
        both_ways _ t (test q.0 q.1 (or_right (z == 2) (z == 3) (eq-eqb z 3 c.byte)))
    none t (suc (suc zero)) place b (inr (inr c)) = omega (arith, c.more)
    none t (suc (suc (suc third))) place b c = omega (arith, b.within)

    no : ((x == 0) && (y == 0) && ((z == 2) || (z == 3))) ≡ false → IsAnswer n (x ∷ y ∷ z ∷ []) None
    no t place f = none t f.third place f.zeros f.broken

told-four : (n x y z w : ℕ) (r : List ℕ) → IsAnswer (n + 1) (y ∷ z ∷ w ∷ r) (fault_from (n + 1) (y ∷ z ∷ w ∷ r)) →
    IsAnswer n (x ∷ y ∷ z ∷ w ∷ r) (fault_from n (x ∷ y ∷ z ∷ w ∷ r))
unfolding fault_from
told-four n x y z w r h =
    cond_both ((x == 0) && (y == 0) && (z == 2)) (Some (n + 2)) _ (IsAnswer n (x ∷ y ∷ z ∷ w ∷ r))
    (λ t. let q = zeros-two x y z t in (2, refl, first-here x y z (w ∷ r) 2 q.0 q.1 refl (inl (record { byte = q.2; place_is = refl }))))
    (λ two. cond_both ((x == 0) && (y == 0) && (z == 3) && nat_lt 3 w) (Some (n + 3)) _ (IsAnswer n (x ∷ y ∷ z ∷ w ∷ r))
    (fourth two)
    (λ three. lift x y z w r two three n _ h))
  where
    fourth : ((x == 0) && (y == 0) && (z == 2)) ≡ false → ((x == 0) && (y == 0) && (z == 3) && nat_lt 3 w) ≡ true →
        IsAnswer n (x ∷ y ∷ z ∷ w ∷ r) (Some (n + 3))
    fourth two t =
        let p = and_parts ((x == 0) && (y == 0) && (z == 3)) (nat_lt 3 w) t in
        let q = and_parts ((x == 0) && (y == 0)) (z == 3) p.0 in
        let s = and_parts (x == 0) (y == 0) q.0 in
        let three : z ≡ 3 = eqb-true z 3 q.1 in (
          3,
          refl,
          record {
            fault = record {
              third = 2;
              zeros = zeros-here x y z (w ∷ r) (eqb-true x 0 s.0) (eqb-true y 0 s.1);
              broken = inr (inr (record { byte = three; more = omega arith; above = ltb-true 3 w p.1; place_is = refl }));
            };
            before = λ other lt f. before f.third other lt f.zeros f.broken three;
          },
        )
      where
        before : (third other : ℕ) → other < 3 → AfterZeros (x ∷ y ∷ z ∷ w ∷ r) third → IsBroken (x ∷ y ∷ z ∷ w ∷ r) third other → z ≡ 3 → ⊥
        before third other lt b (inl c) e =
            let m : 2 ≤ third = b.following in
            let k : third ≡ 2 = omega (arith, c.place_is) in
            let v : z ≡ 2 = sym (ap (λ k. get_or (x ∷ y ∷ z ∷ w ∷ r) k 0) k) ∙ c.byte in
            omega arith
        before third other lt b (inr (inl c)) e = omega (arith, c.place_is, c.last)
        before third other lt b (inr (inr c)) e = omega (arith, c.place_is, b.following)

pub told-is : (n : ℕ) (l : List ℕ) → IsAnswer n l (fault_from n l)
unfolding fault_from
told-is n [] = none-short [] (omega arith)
told-is n (x ∷ []) = none-short (x ∷ []) (omega arith)
told-is n (x ∷ y ∷ []) = none-short (x ∷ y ∷ []) (omega arith)
told-is n (x ∷ y ∷ z ∷ []) = told-three n x y z
told-is n (x ∷ y ∷ z ∷ w ∷ r) = told-four n x y z w r (told-is (n + 1) (y ∷ z ∷ w ∷ r))

one-first : (l : List ℕ) (a b : ℕ) → IsFirstFault l a → IsFirstFault l b → a ≡ b
one-first l a b f g = elim (cases_order a b) [
  | inl e ↦ e
  | inr n ↦ elim n [ inl lt ↦ absurd (g.before a lt f.fault) | inr gt ↦ absurd (f.before b gt g.fault) ]
]

none-is : (l : List ℕ) (o : Option ℕ) → IsAnswer 0 l o → ((place : ℕ) → IsFault l place → ⊥) → None ≡ o
none-is l None a h = refl
none-is l (Some m) a h = absurd (h a.0 a.2.fault)

some-is : (l : List ℕ) (o : Option ℕ) (place : ℕ) → IsAnswer 0 l o → IsFirstFault l place → Some place ≡ o
some-is l None place a f = absurd (a place f.fault)
some-is l (Some m) place a f = let e : m ≡ 0 + a.0 = a.1 in let k = one-first l place a.0 f a.2 in let s : place ≡ m = omega arith in ap Some s

pub none-told : (l : List ℕ) → ((place : ℕ) → IsFault l place → ⊥) → None ≡ fault_from 0 l
none-told l h = none-is l (fault_from 0 l) (told-is 0 l) h

pub some-told : (l : List ℕ) (place : ℕ) → IsFirstFault l place → Some place ≡ fault_from 0 l
some-told l place f = some-is l (fault_from 0 l) place (told-is 0 l) f

-- what a check told is right
pub none-checked : (from : ℕ) (l : List ℕ) → ((place : ℕ) → IsFault l place → ⊥) → Ok tt ≡ emulation_checked from l
unfolding emulation_checked
none-checked from l h = ap (told from) (none-told l h)

pub some-checked : (from : ℕ) (l : List ℕ) (place : ℕ) → IsFirstFault l place → Err (No (8 * (from + place)) Emulation) ≡ emulation_checked from l
unfolding emulation_checked
some-checked from l place f = ap (told from) (some-told l place f)

pub some-checked-at : (from at : ℕ) (l : List ℕ) (place : ℕ) → at ≡ from → IsFirstFault l place →
    Err (No (8 * (at + place)) Emulation) ≡ emulation_checked from l
some-checked-at from at l place e f = ap (λ n. Err (No (8 * (n + place)) Emulation)) e ∙ some-checked from l place f

-- the same bytes
pub none-along : (a b : List ℕ) → a ≡ b → ((place : ℕ) → IsFault a place → ⊥) → (place : ℕ) → IsFault b place → ⊥
none-along a b e h place f = h place (subst (λ l. IsFault l place) (sym e) f)

pub first-along : (a b : List ℕ) (place : ℕ) → a ≡ b → IsFirstFault a place → IsFirstFault b place
first-along a b place e f = subst (λ l. IsFirstFault l place) e f

pub is-checked : (from : ℕ) (body : List ℕ) →
    MatchResult (emulation_checked from body) (λ _. (place : ℕ) → IsFault body place → ⊥)
    (λ stop. (place : ℕ) × (stop ≡ No (8 * (from + place)) Emulation) × IsFirstFault body place)
unfolding emulation_checked
is-checked from body = by (fault_from 0 body) (told-is 0 body)
  where
    by : (o : Option ℕ) → IsAnswer 0 body o →
        MatchResult (told from o) (λ _. (place : ℕ) → IsFault body place → ⊥)
        (λ stop. (place : ℕ) × (stop ≡ No (8 * (from + place)) Emulation) × IsFirstFault body place)
    by None a = a
    by (Some m) a = let e : m ≡ 0 + a.0 = a.1 in let s : m ≡ a.0 = omega arith in (a.0, ap (λ n. No (8 * (from + n)) Emulation) s, a.2)
