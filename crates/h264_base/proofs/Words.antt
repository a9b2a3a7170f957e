-- The functions on bits find the words.
use Rattle.std.proofs.Common.{◌≡◌, ℕ, ◌+◌, ◌*◌, ◌-◌, ◌^◌, ◌<◌, ◌≤◌, ℤ, pos, zero, suc, Bool, true, false, not, nat_lt, nat_le, List, [], ◌∷◌, ◌++◌}
use Rattle.std.proofs.Common.{length, replicate, Option, Some, None, refl, ap, sym, ◌∙◌, subst, arith, if◌then◌else◌}
use Rattle.std.proofs.lemmas.List.{length-replicate}
use Rattle.std.proofs.Common.{pow_pos, length-append, ltb-true, leb-true, lt-ltb, le-leb}
use Rattle.std.specs.Cmp.Derive.{both_true}
use Rattle.std.specs.Option.{option_map, option_and_then}
use Rattle.h264_base.specs.Word.{Code, Fixed, Unsigned, Signed, Words, Reads, StandsAt, IsGolomb, Word, number, digit, bit_of, number_at, zeros_at, golomb_at}
use Rattle.h264_base.specs.Word.{rows_at, value_at, closes_at, ends_at, no_zero_at, signed, is_bit, stands_at}
use Rattle.h264_base.proofs.Chains.{map-some, then-some}
use Rattle.h264_base.proofs.Rows.{row-found, found-row}
use Rattle.h264_base.specs.Grammar.{Ends, HasMore, IsClosed}
use Rattle.std.proofs.lemmas.Bool.{and_parts}

pub number-stands : (n : ℕ) (bytes : List ℕ) (i x : ℕ) → number_at n bytes i ≡ Some x → (w : Word) × (length w ≡ n) × (number w ≡ x) × StandsAt bytes i w
unfolding number_at
number-stands zero bytes i x e = ([], refl, cc, tt)
number-stands (suc n) bytes i x e =
    let first = then-some (λ b. option_map (λ v. digit b * 2 ^ n + v) (number_at n bytes (i + 1))) (bit_of bytes i) x e in
    let rest = map-some (λ v. digit first.0 * 2 ^ n + v) (number_at n bytes (i + 1)) x first.2 in
    let w = number-stands n bytes (i + 1) rest.0 rest.1 in
    (first.0 ∷ w.0, ap suc w.1, ap (λ k. digit first.0 * 2 ^ k + number w.0) w.1 ∙ ap (λ k. digit first.0 * 2 ^ n + k) w.2 ∙ rest.2, (first.1, w.3))

stands-number : (w : Word) (bytes : List ℕ) (i : ℕ) → StandsAt bytes i w → number_at (length w) bytes i ≡ Some (number w)
unfolding number_at
stands-number [] bytes i s = refl
stands-number (b ∷ w) bytes i s = rw (s.0, stands-number w bytes (i + 1) s.1) refl

pub pair_same : {A B : Type 0} {a c : A} {b d : B} → a ≡ c → b ≡ d → (let p : A × B = (a, b) in p) ≡ (c, d)
pair_same e f = cc

-- zeros up to a 1, and what stands after it
abbrev pub ZerosStand : ℕ → List ℕ → ℕ → Word → ℕ → Type 0
ZerosStand n bytes i rest k = (k < n) × StandsAt bytes i (replicate k false ++ true ∷ rest)

moved : (bytes : List ℕ) (rest : Word) (i j : ℕ) → i ≡ j → StandsAt bytes i rest → StandsAt bytes j rest
moved bytes rest i j e s = let P : ℕ → Type 0 = λ q. StandsAt bytes q rest in subst P e s

zeros-later : (n : ℕ) (bytes : List ℕ) (i k : ℕ) (rest : Word) →
    ((k : ℕ) → zeros_at n bytes (i + 1) ≡ Some k → StandsAt bytes (i + 1 + k + 1) rest → ZerosStand n bytes (i + 1) rest k) → bit_of bytes i ≡ Some false →
    (o : Option ℕ) → zeros_at n bytes (i + 1) ≡ o → option_map suc o ≡ Some k → StandsAt bytes (i + k + 1) rest → ZerosStand (suc n) bytes i rest k
zeros-later n bytes i k rest h b o f g s =
    let p = map-some suc o k g in
    let q = p.2 in
    let more = h p.0 (f ∙ p.1) (moved bytes rest (i + k + 1) (i + 1 + p.0 + 1) (omega arith) s) in
    let below = more.0 in
    subst (ZerosStand (suc n) bytes i rest) p.2 (omega arith, (b, more.1))

zeros-next : (n : ℕ) (bytes : List ℕ) (i k : ℕ) (rest : Word) →
    ((k : ℕ) → zeros_at n bytes (i + 1) ≡ Some k → StandsAt bytes (i + 1 + k + 1) rest → ZerosStand n bytes (i + 1) rest k) →
    (o : Option Bool) → bit_of bytes i ≡ o → option_and_then (λ b. if b then Some 0 else option_map suc (zeros_at n bytes (i + 1))) o ≡ Some k →
    StandsAt bytes (i + k + 1) rest → ZerosStand (suc n) bytes i rest k
zeros-next n bytes i k rest h None b g s = absurd (cc)
zeros-next n bytes i k rest h (Some true) b g s = let z : 0 ≡ k = cc in
    subst (ZerosStand (suc n) bytes i rest) z (omega arith, (b, moved bytes rest (i + k + 1) (i + 1) (omega arith) s))
zeros-next n bytes i k rest h (Some false) b g s = zeros-later n bytes i k rest h b (zeros_at n bytes (i + 1)) refl g s

pub zeros-stand : (n : ℕ) (bytes : List ℕ) (i k : ℕ) (rest : Word) → zeros_at n bytes i ≡ Some k → StandsAt bytes (i + k + 1) rest → ZerosStand n bytes i rest k
unfolding zeros_at
zeros-stand zero bytes i k rest e s = absurd (cc)
zeros-stand (suc n) bytes i k rest e s = zeros-next n bytes i k rest (λ k. zeros-stand n bytes (i + 1) k rest) (bit_of bytes i) refl e s

stands-zeros : (n k : ℕ) (bytes : List ℕ) (i : ℕ) (rest : Word) → k < n → StandsAt bytes i (replicate k false ++ true ∷ rest) →
    (zeros_at n bytes i ≡ Some k) × StandsAt bytes (i + k + 1) rest
unfolding zeros_at
stands-zeros zero k bytes i rest h s = absurd (omega arith)
stands-zeros (suc n) zero bytes i rest h s =
    (rw s.0 refl, let P : ℕ → Type 0 = λ q. StandsAt bytes q rest in let e : i + 1 ≡ i + 0 + 1 = omega arith in subst P e s.1)
stands-zeros (suc n) (suc k) bytes i rest h s =
    let more = stands-zeros n k bytes (i + 1) rest (omega arith) s.1 in
    (rw (s.0, more.0) refl, let P : ℕ → Type 0 = λ p. StandsAt bytes p rest in let e : i + 1 + k + 1 ≡ i + suc k + 1 = omega arith in subst P e more.1)

positive : (k : ℕ) → 1 ≤ 2 ^ k
positive k = let p = pow_pos k in omega arith

length-golomb : (k : ℕ) (rest : Word) → length rest ≡ k → length (replicate k false ++ true ∷ rest) ≡ 2 * k + 1
length-golomb k rest e = let a = length-append (replicate k false) (true ∷ rest) in let b = length-replicate k false in omega arith

golomb-reads : (bytes : List ℕ) (i c j : ℕ) → golomb_at bytes i ≡ Some (c, j) → (w : Word) × IsGolomb w c × StandsAt bytes i w × (j ≡ i + length w)
unfolding golomb_at
golomb-reads bytes i c j e =
    let first = then-some (λ k. option_map (λ r. (2 ^ k - 1 + r, i + (2 * k + 1))) (number_at k bytes (i + k + 1))) (zeros_at 32 bytes i) (c, j) e in
    let k = first.0 in
    let second = map-some (λ r. (2 ^ k - 1 + r, i + (2 * k + 1))) (number_at k bytes (i + k + 1)) (c, j) first.2 in
    let w = number-stands k bytes (i + k + 1) second.0 second.1 in
    let stands = zeros-stand 32 bytes i k w.0 first.1 w.3 in
    let value : 2 ^ k - 1 + second.0 ≡ c = ap (λ (p : ℕ × ℕ). p.0) second.2 in
    let place : i + (2 * k + 1) ≡ j = ap (λ (p : ℕ × ℕ). p.1) second.2 in
    let len = length-golomb k w.0 w.1 in
    let at_least = positive k in
    let below = stands.0 in
    let same_number = w.2 in
    let same_length = w.1 in
    let P : ℕ → Type 0 = λ n. (n < 32) × (replicate k false ++ true ∷ w.0 ≡ replicate n false ++ true ∷ w.0) × (c + 1 ≡ 2 ^ n + number w.0) in
    let facts : P (length w.0) = subst P (sym w.1) (below, refl, omega arith) in
    (replicate k false ++ true ∷ w.0, (w.0, facts.0, facts.1, facts.2), stands.1, omega arith)

reads-golomb : (bytes : List ℕ) (i c j : ℕ) (w : Word) → IsGolomb w c → StandsAt bytes i w → j ≡ i + length w → golomb_at bytes i ≡ Some (c, j)
unfolding golomb_at
reads-golomb bytes i c j w g s e =
    let k = length g.0 in
    let P : Word → Type 0 = λ w. StandsAt bytes i w in
    let both = stands-zeros 32 k bytes i g.0 g.1 (subst P g.2 s) in
    let value = stands-number g.0 bytes (i + k + 1) both.1 in
    let len = length-golomb k g.0 refl in
    let same_length = ap (λ (w : Word). length w) g.2 in
    let at_least = positive k in
    let sum = g.3 in
    rw (both.0, value) (ap (λ (p : ℕ × ℕ). Some p) (pair_same (omega arith) (omega arith)))

pub value-reads : (code : Code) (bytes : List ℕ) (i : ℕ) (v : ℤ) (j : ℕ) → value_at code bytes i ≡ Some (v, j) → Reads code bytes i v j
unfolding value_at
value-reads (Fixed n) bytes i v j e =
    let first = map-some (λ v. (pos v, i + n)) (number_at n bytes i) (v, j) e in
    let w = number-stands n bytes i first.0 first.1 in
    (w.0, (w.1, sym (ap (λ (p : ℤ × ℕ). p.0) first.2) ∙ ap pos (sym w.2)), w.3, sym (ap (λ (p : ℤ × ℕ). p.1) first.2) ∙ ap (λ k. i + k) (sym w.1))
value-reads Unsigned bytes i v j e =
    let first = map-some (λ (x : ℕ × ℕ). (pos x.0, x.1)) (golomb_at bytes i) (v, j) e in
    let w = golomb-reads bytes i first.0.0 first.0.1 first.1 in
    (w.0, (first.0.0, w.1, sym (ap (λ (p : ℤ × ℕ). p.0) first.2)), w.2, sym (ap (λ (p : ℤ × ℕ). p.1) first.2) ∙ w.3)
value-reads Signed bytes i v j e =
    let first = map-some (λ (x : ℕ × ℕ). (signed x.0, x.1)) (golomb_at bytes i) (v, j) e in
    let w = golomb-reads bytes i first.0.0 first.0.1 first.1 in
    (w.0, (first.0.0, w.1, sym (ap (λ (p : ℤ × ℕ). p.0) first.2)), w.2, sym (ap (λ (p : ℤ × ℕ). p.1) first.2) ∙ w.3)
value-reads (Words t) bytes i v j e =
    let first = map-some (λ (x : ℕ × ℕ). (pos x.0, x.1)) (rows_at t.rows bytes i) (v, j) e in
    let f = found-row t.rows bytes i first.0.0 first.0.1 first.1 in
    let w = number-stands f.row.length bytes i f.row.bits f.stands in (
      w.0,
      (f.row, f.is_row, (w.1, w.2), sym (ap (λ (p : ℤ × ℕ). p.0) first.2) ∙ ap pos (sym f.value)),
      w.3,
      sym (ap (λ (p : ℤ × ℕ). p.1) first.2) ∙
          sym f.end ∙ ap (λ k. i + k) (sym w.1),
    )

pub reads-value : (code : Code) (bytes : List ℕ) (i : ℕ) (v : ℤ) (j : ℕ) → Reads code bytes i v j → value_at code bytes i ≡ Some (v, j)
unfolding value_at
reads-value (Fixed n) bytes i v j r =
    let P : ℕ → Type 0 = λ m. number_at m bytes i ≡ Some (number r.0) in
    rw (subst P r.1.0 (stands-number r.0 bytes i r.2)) (ap (λ (p : ℤ × ℕ). Some p) (pair_same (sym r.1.1) (ap (λ k. i + k) (sym r.1.0) ∙ sym r.3)))
reads-value Unsigned bytes i v j r = rw (reads-golomb bytes i r.1.0 j r.0 r.1.1 r.2 r.3) (ap (λ (p : ℤ × ℕ). Some p) (pair_same (sym r.1.2) refl))
reads-value Signed bytes i v j r = rw (reads-golomb bytes i r.1.0 j r.0 r.1.1 r.2 r.3) (ap (λ (p : ℤ × ℕ). Some p) (pair_same (sym r.1.2) refl))
reads-value (Words t) bytes i v j r =
    let q = r.1.0 in
    let P : ℕ → Type 0 = λ m. number_at m bytes i ≡ Some (number r.0) in
    let stands = subst P r.1.2.0 (stands-number r.0 bytes i r.2) ∙ ap Some r.1.2.1 in
    rw (row-found t.rows q bytes i t.free r.1.1 stands) (ap (λ (p : ℤ × ℕ). Some p) (pair_same (sym r.1.3) (ap (λ k. i + k) (sym r.1.2.0) ∙ sym r.3)))

-- there is at most one value and one end
pub reads-one : (code : Code) (bytes : List ℕ) (i : ℕ) (v w : ℤ) (j k : ℕ) → Reads code bytes i v j → Reads code bytes i w k → (v ≡ w) × (j ≡ k)
reads-one code bytes i v w j k r s =
    let e : Some (v, j) ≡ Some (w, k) = sym (reads-value code bytes i v j r) ∙ reads-value code bytes i w k s in
    (ap (λ (o : Option (ℤ × ℕ)). value_or o) e, ap (λ (o : Option (ℤ × ℕ)). end_or o) e)
  where
    value_or : Option (ℤ × ℕ) → ℤ
    value_or None = v
    value_or (Some x) = x.0

    end_or : Option (ℤ × ℕ) → ℕ
    end_or None = j
    end_or (Some x) = x.1

bit-is : (b : Bool) (o : Option Bool) → is_bit b o ≡ true → o ≡ Some b
bit-is b None e = absurd (cc)
bit-is true (Some true) e = refl
bit-is true (Some false) e = absurd (cc)
bit-is false (Some true) e = absurd (cc)
bit-is false (Some false) e = refl

stands-from : (w : Word) (bytes : List ℕ) (i : ℕ) → stands_at bytes i w ≡ true → StandsAt bytes i w
stands-from [] bytes i e = tt
stands-from (b ∷ w) bytes i e = let p = and_parts _ _ e in (bit-is b _ p.0, stands-from w bytes (i + 1) p.1)

from-stands : (w : Word) (bytes : List ℕ) (i : ℕ) → StandsAt bytes i w → stands_at bytes i w ≡ true
from-stands [] bytes i s = refl
from-stands (true ∷ w) bytes i s = rw (s.0, from-stands w bytes (i + 1) s.1) refl
from-stands (false ∷ w) bytes i s = rw (s.0, from-stands w bytes (i + 1) s.1) refl

ends-from : (bytes : List ℕ) (i n : ℕ) → Ends bytes i n → ends_at bytes i ≡ true
unfolding ends_at
ends-from bytes i n h =
    let whole = h.1 in
    let first = lt-ltb i (8 * length bytes) (omega arith) in
    let P : ℕ → Type 0 = λ m. StandsAt bytes i (true ∷ replicate m false) in
    let e : n ≡ 8 * length bytes - i - 1 = omega arith in
    both_true first (from-stands (true ∷ replicate (8 * length bytes - i - 1) false) bytes i (subst P e h.0))

from-ends : (bytes : List ℕ) (i : ℕ) → ends_at bytes i ≡ true → (n : ℕ) × Ends bytes i n
unfolding ends_at
from-ends bytes i e =
    let p = and_parts (nat_lt i (8 * length bytes)) (stands_at bytes i (true ∷ replicate (8 * length bytes - i - 1) false)) e in
    let below = ltb-true i (8 * length bytes) p.0 in
    (8 * length bytes - i - 1, (stands-from (true ∷ replicate (8 * length bytes - i - 1) false) bytes i p.1, omega arith))

pub has_more : (bytes : List ℕ) (i : ℕ) → HasMore bytes i (not (ends_at bytes i))
has_more bytes i = go (ends_at bytes i) refl
  where
    go : (b : Bool) → ends_at bytes i ≡ b → HasMore bytes i (not b)
    go true e = from-ends bytes i e
    go false e = λ n h. let f : true ≡ false = sym (ends-from bytes i n h) ∙ e in cc

pub more-one : (bytes : List ℕ) (i : ℕ) (b : Bool) → HasMore bytes i b → b ≡ not (ends_at bytes i)
more-one bytes i true h = go (ends_at bytes i) refl
  where
    go : (b : Bool) → ends_at bytes i ≡ b → true ≡ not b
    go true e = let p = from-ends bytes i e in absurd (h p.0 p.1)
    go false e = refl
more-one bytes i false h = ap not (sym (ends-from bytes i h.0 h.1))

pub closed-from : (bytes : List ℕ) (i : ℕ) → closes_at bytes i ≡ true → IsClosed bytes i
unfolding closes_at
closed-from bytes i e =
    let p = and_parts (nat_le (8 * length bytes) (i + 8)) (ends_at bytes i) e in
    let near = leb-true (8 * length bytes) (i + 8) p.0 in
    let q = from-ends bytes i p.1 in
    let whole = q.1.1 in
    (q.0, omega arith, q.1)

pub closes-from : (bytes : List ℕ) (i : ℕ) → IsClosed bytes i → closes_at bytes i ≡ true
unfolding closes_at
closes-from bytes i h =
    let short = h.1 in
    let whole = h.2.1 in
    both_true (le-leb (8 * length bytes) (i + 8) (omega arith)) (ends-from bytes i h.0 h.2)

padded-next : (n : ℕ) (bytes : List ℕ) (i : ℕ) → (no_zero_at n bytes (i + 1) ≡ None → StandsAt bytes (i + 1) (replicate n false)) →
    (b : Bool) → is_bit false (bit_of bytes i) ≡ b → (if b then no_zero_at n bytes (i + 1) else Some i) ≡ None → StandsAt bytes i (replicate (suc n) false)
padded-next n bytes i more true f e = (bit-is false (bit_of bytes i) f, more e)
padded-next n bytes i more false f e = absurd (cc)

-- zeros up to a bit that is none
pub padded-from : (n : ℕ) (bytes : List ℕ) (i : ℕ) → no_zero_at n bytes i ≡ None → StandsAt bytes i (replicate n false)
unfolding no_zero_at
padded-from zero bytes i e = tt
padded-from (suc n) bytes i e = padded-next n bytes i (λ h. padded-from n bytes (i + 1) h) (is_bit false (bit_of bytes i)) refl e

is_zero : (o : Option Bool) → o ≡ Some false → is_bit false o ≡ true
is_zero o e = rw e refl

is_no_zero : (o : Option Bool) → (o ≡ Some false → ⊥) → is_bit false o ≡ false
is_no_zero None h = refl
is_no_zero (Some true) h = refl
is_no_zero (Some false) h = absurd (h refl)

pub from-padded : (n : ℕ) (bytes : List ℕ) (i : ℕ) → StandsAt bytes i (replicate n false) → no_zero_at n bytes i ≡ None
unfolding no_zero_at
from-padded zero bytes i s = refl
from-padded (suc n) bytes i s = rw (is_zero (bit_of bytes i) s.0) (from-padded n bytes (i + 1) s.1)

-- bit j is the first of n that is not a 0
pub record FirstSet (n : ℕ) (bytes : List ℕ) (i j : ℕ) : Type 0 where
  pub zeros : ℕ
  pub few : zeros < n
  pub stands : StandsAt bytes i (replicate zeros false)
  pub set : bit_of bytes j ≡ Some false → ⊥
  pub is : j ≡ i + zeros

unpadded-next : (n : ℕ) (bytes : List ℕ) (i j : ℕ) → (no_zero_at n bytes (i + 1) ≡ Some j → FirstSet n bytes (i + 1) j) →
    (b : Bool) → is_bit false (bit_of bytes i) ≡ b → (if b then no_zero_at n bytes (i + 1) else Some i) ≡ Some j → FirstSet (suc n) bytes i j
unpadded-next n bytes i j more true f e = let p = more e in let few = p.few in let is = p.is in
    record { zeros = suc p.zeros; few = omega arith; stands = (bit-is false (bit_of bytes i) f, p.stands); set = p.set; is = omega arith }
unpadded-next n bytes i j more false f e = let same : i ≡ j = cc in
    record {
      zeros = 0;
      few = omega arith;
      stands = tt;
      set = λ h. let z = is_zero (bit_of bytes i) (rw same h) in let c : true ≡ false = sym z ∙ f in cc;
      is = omega arith;
    }

pub unpadded-from : (n : ℕ) (bytes : List ℕ) (i j : ℕ) → no_zero_at n bytes i ≡ Some j → FirstSet n bytes i j
unfolding no_zero_at
unpadded-from zero bytes i j e = absurd (cc)
unpadded-from (suc n) bytes i j e = unpadded-next n bytes i j (λ h. unpadded-from n bytes (i + 1) j h) (is_bit false (bit_of bytes i)) refl e

pub from-unpadded : (n : ℕ) (bytes : List ℕ) (i k : ℕ) → k < n → StandsAt bytes i (replicate k false) → (bit_of bytes (i + k) ≡ Some false → ⊥) →
    no_zero_at n bytes i ≡ Some (i + k)
unfolding no_zero_at
from-unpadded zero bytes i k h s e = absurd (omega arith)
from-unpadded (suc n) bytes i zero h s e =
    let z : i + 0 ≡ i = omega arith in
    rw (is_no_zero (bit_of bytes i) (λ f. e (rw z f))) (ap Some (sym z))
from-unpadded (suc n) bytes i (suc k) h s e =
    let z : i + suc k ≡ i + 1 + k = omega arith in
    rw (is_zero (bit_of bytes i) s.0, z) (from-unpadded n bytes (i + 1) k (omega arith) s.1 (λ f. e (rw z f)))
