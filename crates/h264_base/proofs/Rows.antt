-- The row that stands at a place is the one that is found, so there is at most one.
use Rattle.std.proofs.Common.{◌≡◌, ℕ, zero, suc, ◌+◌, ◌*◌, ◌-◌, ◌/◌, ◌^◌, ◌<◌, ◌≤◌, Bool, true, false, not, List, [], ◌∷◌, Option, Some, None, refl, ap, sym}
use Rattle.std.proofs.Common.{◌∙◌, arith, if◌then◌else◌, ◌==◌, ◌&&◌, inl, inr}
use Rattle.std.proofs.lemmas.Bool.{and_parts, eqb-true, eq-eqb, le-leb, cases_lt, false≢true}
use Rattle.std.proofs.lemmas.Nat.{pow-add, pow_pos}
use Rattle.std.proofs.Math.Nat.{mul-add-div_right, div-eq_of_lt}
use Rattle.std.specs.Option.{option_map}
use Rattle.h264_base.specs.Table.{Row, IsRow, is_prefix, is_apart, is_prefix_free}
use Rattle.h264_base.specs.Word.{digit, bit_of, number_at, spells, rows_at}
use Rattle.h264_base.proofs.Chains.{map-some, then-some}
use Rattle.h264_base.proofs.Plain.{some-same}

digit-small : (b : Bool) → digit b ≤ 1
digit-small true = omega arith
digit-small false = omega arith

-- n bits spell less than 2^n
pub number-below : (n x : ℕ) (bytes : List ℕ) (i : ℕ) → number_at n bytes i ≡ Some x → x < 2 ^ n
unfolding number_at
number-below zero x bytes i e = let z : 0 ≡ x = cc in omega arith
number-below (suc n) x bytes i e =
    let first = then-some (λ b. option_map (λ v. digit b * 2 ^ n + v) (number_at n bytes (i + 1))) (bit_of bytes i) x e in
    let rest = map-some (λ v. digit first.0 * 2 ^ n + v) (number_at n bytes (i + 1)) x first.2 in
    let below = number-below n rest.0 bytes (i + 1) rest.1 in
    double (digit first.0) (2 ^ n) rest.0 x (2 ^ suc n) (digit-small first.0) below (sym rest.2) (pow-suc n)
  where
    pow-suc : (n : ℕ) → 2 ^ suc n ≡ 2 ^ n + 2 ^ n
    pow-suc n = grind arith

    double : (d p v x q : ℕ) → d ≤ 1 → v < p → x ≡ d * p + v → q ≡ p + p → x < q
    double zero p v x q h k e f = omega arith
    double (suc zero) p v x q h k e f = omega arith
    double (suc (suc d)) p v x q h k e f = absurd (omega arith)

-- the first m of n bits spell the number without its last n - m digits
nested : (m n x : ℕ) (bytes : List ℕ) (i : ℕ) → m ≤ n → number_at n bytes i ≡ Some x → number_at m bytes i ≡ Some (x / 2 ^ (n - m))
unfolding number_at
nested zero n x bytes i h e = let below = number-below n x bytes i e in let whole : n - 0 ≡ n = omega arith in rw whole (ap Some (sym (div-eq_of_lt below)))
nested (suc m) zero x bytes i h e = absurd (omega arith)
nested (suc m) (suc n) x bytes i h e =
    let first = then-some (λ b. option_map (λ v. digit b * 2 ^ n + v) (number_at n bytes (i + 1))) (bit_of bytes i) x e in
    let rest = map-some (λ v. digit first.0 * 2 ^ n + v) (number_at n bytes (i + 1)) x first.2 in
    let more = nested m n rest.0 bytes (i + 1) (omega arith) rest.1 in
    rw (first.1, more) (ap Some (split m n (digit first.0) rest.0 x h rest.2))
  where
    grouped : (d p q : ℕ) → d * (p * q) ≡ d * p * q
    grouped d p q = grind arith

    split : (m n d v x : ℕ) → suc m ≤ suc n → d * 2 ^ n + v ≡ x → d * 2 ^ m + v / 2 ^ (n - m) ≡ x / 2 ^ (suc n - suc m)
    split m n d v x h e =
        let k : suc n - suc m ≡ n - m = omega arith in
        let whole : n ≡ m + (n - m) = omega arith in
        let power : 2 ^ n ≡ 2 ^ m * 2 ^ (n - m) = ap (λ k. 2 ^ k) whole ∙ pow-add 2 m (n - m) in
        let sum : d * 2 ^ m * 2 ^ (n - m) + v ≡ x = ap (λ p. p + v) (sym (grouped d (2 ^ m) (2 ^ (n - m))) ∙ ap (λ p. d * p) (sym power)) ∙ e in
        rw (k, ← sum) (sym (mul-add-div_right (pow_pos (n - m)) (d * 2 ^ m) v))

prefix : (q r : Row) (bytes : List ℕ) (i : ℕ) → q.length ≤ r.length → number_at q.length bytes i ≡ Some q.bits → number_at r.length bytes i ≡ Some r.bits →
    is_prefix q r ≡ true
unfolding is_prefix
prefix q r bytes i g e f = rw (le-leb q.length r.length g) (eq-eqb _ _ (some-same _ _ (sym (nested q.length r.length r.bits bytes i g f) ∙ e)))

pub apart-from : (q r : Row) (rows : List Row) → is_apart q rows ≡ true → IsRow rows r → (is_prefix q r ≡ false) × (is_prefix r q ≡ false)
unfolding is_apart
apart-from q r [] h m = absurd m
apart-from q r (s ∷ rows) h (inl e) =
    let a = and_parts (not (is_prefix q s) && not (is_prefix s q)) (is_apart q rows) h in
    let b = and_parts (not (is_prefix q s)) (not (is_prefix s q)) a.0 in
    rw (← e) (off _ b.0, off _ b.1)
  where
    off : (c : Bool) → not c ≡ true → c ≡ false
    off true n = absurd (false≢true n)
    off false n = refl
apart-from q r (s ∷ rows) h (inr m) = apart-from q r rows (and_parts (not (is_prefix q s) && not (is_prefix s q)) (is_apart q rows) h).1 m

-- the row whose word stands there is found
pub row-found : (rows : List Row) (r : Row) (bytes : List ℕ) (i : ℕ) → is_prefix_free rows ≡ true → IsRow rows r → number_at r.length bytes i ≡ Some r.bits →
    rows_at rows bytes i ≡ Some (r.value, i + r.length)
unfolding rows_at is_prefix_free
row-found [] r bytes i h m e = absurd m
row-found (q ∷ rows) r bytes i h (inl s) e = rw (s, e, eq-eqb r.bits r.bits refl) refl
row-found (q ∷ rows) r bytes i h (inr m) e =
    let s = and_parts (is_apart q rows) (is_prefix_free rows) h in
    rw (go (number_at q.length bytes i) refl (apart-from q r rows s.0 m)) (row-found rows r bytes i s.1 m e)
  where
    two : (x : ℕ) → number_at q.length bytes i ≡ Some x → (is_prefix q r ≡ false) × (is_prefix r q ≡ false) → (b : Bool) → (x == q.bits) ≡ b →
        (x == q.bits) ≡ false
    two x f a false g = g
    two x f a true g = absurd (let y : x ≡ q.bits = eqb-true _ _ g in let f' = f ∙ ap Some y in elim (cases_lt q.length r.length) [
      | inl less ↦ false≢true (sym a.0 ∙ prefix q r bytes i (omega arith) f' e)
      | inr more ↦ false≢true (sym a.1 ∙ prefix r q bytes i more e f')
    ])

    go : (o : Option ℕ) → number_at q.length bytes i ≡ o → (is_prefix q r ≡ false) × (is_prefix r q ≡ false) → spells q.bits o ≡ false
    go None f a = refl
    go (Some x) f a = two x f a (x == q.bits) refl

-- a row that was found
pub record FoundRow (rows : List Row) (bytes : List ℕ) (i v j : ℕ) : Type 0 where
  pub row : Row
  pub is_row : IsRow rows row
  pub stands : number_at row.length bytes i ≡ Some row.bits
  pub value : row.value ≡ v
  pub end : i + row.length ≡ j

value_or : Option (ℕ × ℕ) → ℕ
value_or None = 0
value_or (Some x) = x.0

end_or : Option (ℕ × ℕ) → ℕ
end_or None = 0
end_or (Some x) = x.1

found-later : (r : Row) (rows : List Row) (bytes : List ℕ) (i v j : ℕ) → FoundRow rows bytes i v j → FoundRow (r ∷ rows) bytes i v j
found-later r rows bytes i v j p = record { row = p.row; is_row = inr p.is_row; stands = p.stands; value = p.value; end = p.end }

found-here : (r : Row) (rows : List Row) (bytes : List ℕ) (i v j x : ℕ) → number_at r.length bytes i ≡ Some x →
    (rows_at rows bytes i ≡ Some (v, j) → FoundRow rows bytes i v j) → (b : Bool) → (x == r.bits) ≡ b →
    (if b then Some (r.value, i + r.length) else rows_at rows bytes i) ≡ Some (v, j) → FoundRow (r ∷ rows) bytes i v j
unfolding value_or end_or
found-here r rows bytes i v j x f more true g e = record {
  row = r;
  is_row = inl refl;
  stands = f ∙ ap Some (eqb-true _ _ g);
  value = ap value_or e;
  end = ap end_or e;
}
found-here r rows bytes i v j x f more false g e = found-later r rows bytes i v j (more e)

found-next : (r : Row) (rows : List Row) (bytes : List ℕ) (i v j : ℕ) → (rows_at rows bytes i ≡ Some (v, j) → FoundRow rows bytes i v j) →
    (o : Option ℕ) → number_at r.length bytes i ≡ o → (if spells r.bits o then Some (r.value, i + r.length) else rows_at rows bytes i) ≡ Some (v, j) →
    FoundRow (r ∷ rows) bytes i v j
found-next r rows bytes i v j more None f e = found-later r rows bytes i v j (more e)
found-next r rows bytes i v j more (Some x) f e = found-here r rows bytes i v j x f more (x == r.bits) refl e

pub found-row : (rows : List Row) (bytes : List ℕ) (i v j : ℕ) → rows_at rows bytes i ≡ Some (v, j) → FoundRow rows bytes i v j
unfolding rows_at
found-row [] bytes i v j e = absurd (cc)
found-row (r ∷ rows) bytes i v j e = found-next r rows bytes i v j (λ h. found-row rows bytes i v j h) (number_at r.length bytes i) refl e
