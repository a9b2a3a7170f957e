-- What the row at the front of the next bits says of the word that stands there.
use Rattle.std.proofs.Common.{◌≡◌, ℕ, ◌+◌, ◌*◌, ◌-◌, ◌/◌, ◌^◌, ◌<◌, ◌≤◌, pos, Bool, true, false, List, [], ◌∷◌, length, Option, Some, None, refl, ap, sym}
use Rattle.std.proofs.Common.{◌∙◌, arith, if◌then◌else◌, inl, inr}
use Rattle.std.proofs.lemmas.Bool.{eqb-true, eq-eqb, le-leb, cases_lt}
use Rattle.std.proofs.lemmas.Nat.{shr-shr}
use Rattle.std.specs.Option.{option_map}
use Rattle.h264_base.specs.Table.{Row, IsRow, is_prefix}
use Rattle.h264_base.specs.Word.{Words, number_at, rows_at, value_at}
use Rattle.h264_base.proofs.Rows.{row-found, found-row}
use Rattle.h264_base.proofs.Chains.{map-some}
use Rattle.h264_tables.specs.declared.front.Entry.{Entry}
use Rattle.h264_tables.specs.Entry.{entry_of}
use Rattle.h264_tables.specs.Front.{begins, front_of}
use Rattle.h264_tables.specs.declared.table.Table.{Table}
use Rattle.h264_tables.specs.Table.{rows_of, rows_of-free, code_table}
use Rattle.h264_tables.proofs.Rows.{rows_of-words, IsShort, row-short, front-row}
use Rattle.h264_tables.proofs.Prefixes.{one-row}
use Rattle.h264_bits.specs.Peek.{peek_at}
use Rattle.h264_bits.proofs.Peeks.{peek-top, number-inside, number-outside}
use Rattle.h264_base.proofs.Plain.{some-same}

-- bits that begin with a word of the bytes spell it
begins-stands : (r : Row) (bytes : List ℕ) (i : ℕ) → r.length ≤ 16 → r.length ≤ 8 * length bytes - i → begins 16 r (peek_at 16 bytes i) ≡ true →
    number_at r.length bytes i ≡ Some r.bits
unfolding begins
begins-stands r bytes i few inside e =
    let b : peek_at 16 bytes i / 2 ^ (16 - r.length) ≡ r.bits = eqb-true _ _ e in
    number-inside r.length bytes i inside ∙ ap Some (sym (peek-top r.length 16 bytes i few) ∙ b)

-- a word that stands there stands in the bytes, and the bits begin with it
stands-within : (r : Row) (bytes : List ℕ) (i : ℕ) → number_at r.length bytes i ≡ Some r.bits → r.length ≤ 8 * length bytes - i
stands-within r bytes i e = elim (cases_lt (8 * length bytes - i) r.length) [
  | inl past ↦ absurd (let z : ◌≡◌ {A = Option ℕ} (Some r.bits) None = sym e ∙ number-outside r.length bytes i past in cc)
  | inr inside ↦ inside
]

stands-begins : (r : Row) (bytes : List ℕ) (i : ℕ) → r.length ≤ 16 → number_at r.length bytes i ≡ Some r.bits → begins 16 r (peek_at 16 bytes i) ≡ true
unfolding begins
stands-begins r bytes i few e =
    let inside = stands-within r bytes i e in
    eq-eqb _ _ (peek-top r.length 16 bytes i few ∙ some-same _ _ (sym (number-inside r.length bytes i inside) ∙ e))

-- no row of the bits, no row at all
front-none : (rows : List Row) (y : ℕ) (r : Row) → front_of 16 rows y ≡ None → IsRow rows r → begins 16 r y ≡ true → ⊥
unfolding front_of
front-none [] y r e m b = m
front-none (q ∷ rows) y r e (inl same) b = let f : begins 16 q y ≡ true = ap (λ (p : Row). begins 16 p y) same ∙ b in
    let g : ◌≡◌ {A = Option Row} (Some q) None = (rw f at e) in cc
front-none (q ∷ rows) y r e (inr m) b = go (begins 16 q y) refl e (λ g. front-none rows y r g m b)
  where
    go : (c : Bool) → begins 16 q y ≡ c → (if c then Some q else front_of 16 rows y) ≡ None → (front_of 16 rows y ≡ None → ⊥) → ⊥
    go true f g more = let h : ◌≡◌ {A = Option Row} (Some q) None = g in cc
    go false f g more = more g

-- of two words that the bits begin with the shorter is the first part of the other
shorter : (r q : Row) (y : ℕ) → r.length ≤ 16 → q.length ≤ r.length → begins 16 r y ≡ true → begins 16 q y ≡ true → is_prefix q r ≡ true
unfolding begins is_prefix
shorter r q y few less e f =
    let a : y / 2 ^ (16 - r.length) ≡ r.bits = eqb-true _ _ e in
    let b : y / 2 ^ (16 - q.length) ≡ q.bits = eqb-true _ _ f in
    let m : 16 - q.length ≡ 16 - r.length + (r.length - q.length) = omega arith in
    rw (le-leb q.length r.length less) (eq-eqb _ _ (rw (← a, shr-shr, ← m) b))

nothing : (rows : List Row) (bytes : List ℕ) (i : ℕ) → ((q : Row) → IsRow rows q → number_at q.length bytes i ≡ Some q.bits → ⊥) → rows_at rows bytes i ≡ None
nothing rows bytes i h = go (rows_at rows bytes i) refl
  where
    go : (o : Option (ℕ × ℕ)) → rows_at rows bytes i ≡ o → rows_at rows bytes i ≡ None
    go None e = e
    go (Some x) e = let f = found-row rows bytes i x.0 x.1 e in absurd (h f.row f.is_row f.stands)

module _ (table : Table) (bytes : List ℕ) (i : ℕ) where
  short : (r : Row) → IsRow (rows_of table) r → IsShort r
  short r m = row-short (rows_of table) r (rows_of-words table) m

  no_value : rows_at (rows_of table) bytes i ≡ None → value_at (Words (code_table table)) bytes i ≡ None
  unfolding value_at
  no_value e = rw e refl

  -- the row's word stands there
  pub word-inside : (r : Row) → front_of 16 (rows_of table) (peek_at 16 bytes i) ≡ Some r → r.length ≤ 8 * length bytes - i →
      value_at (Words (code_table table)) bytes i ≡ Some (pos r.value, i + r.length)
  unfolding value_at
  word-inside r e inside =
      let f = front-row 16 (rows_of table) (peek_at 16 bytes i) r e in
      let few = (short r f.0).few in
      rw (row-found (rows_of table) r bytes i (rows_of-free table) f.0 (begins-stands r bytes i few inside f.1)) refl

  -- the bytes end in it
  pub word-outside : (r : Row) → front_of 16 (rows_of table) (peek_at 16 bytes i) ≡ Some r → 8 * length bytes - i < r.length →
      value_at (Words (code_table table)) bytes i ≡ None
  word-outside r e past =
      let f = front-row 16 (rows_of table) (peek_at 16 bytes i) r e in
      let few = (short r f.0).few in
      no_value (nothing (rows_of table) bytes i (λ q m stands.
      let inside = stands-within q bytes i stands in
      let b = stands-begins q bytes i (short q m).few stands in
      let same = one-row (rows_of table) q r (rows_of-free table) m f.0 (shorter r q (peek_at 16 bytes i) few (omega arith) f.1 b) in
      let e = ap (λ (p : Row). p.length) same in
      absurd (omega arith)))

  -- no row's word stands there
  pub word-none : front_of 16 (rows_of table) (peek_at 16 bytes i) ≡ None → value_at (Words (code_table table)) bytes i ≡ None
  word-none e = no_value (nothing (rows_of table) bytes i
      (λ q m stands. front-none (rows_of table) (peek_at 16 bytes i) q e m (stands-begins q bytes i (short q m).few stands)))

-- a word that was found is one of at most 16 bits
pub entry-short : (table : Table) (y : ℕ) (e : Entry) → Some e ≡ option_map entry_of (front_of 16 (rows_of table) y) → e.length ≤ 16
entry-short table y e f =
    let r = map-some entry_of (front_of 16 (rows_of table) y) e (sym f) in
    let l : r.0.length ≡ e.length = ap (λ (x : Entry). x.length) r.2 in
    let is = front-row 16 (rows_of table) y r.0 r.1 in
    let few = (row-short (rows_of table) r.0 (rows_of-words table) is.0).few in
    omega arith

-- so is one that stands for no word
pub entry_if-short : (coded : Bool) (table : Table) (y : ℕ) (e : Entry) → (coded ≡ true → Some e ≡ option_map entry_of (front_of 16 (rows_of table) y)) →
    (coded ≡ false → Some e ≡ Some (record { length = 0; value = 0 })) → e.length ≤ 16
entry_if-short true table y e word nothing = entry-short table y e (word refl)
entry_if-short false table y e word nothing = let none : e.length ≡ 0 = ap length-of (nothing refl) in omega arith
  where
    length-of : Option Entry → ℕ
    length-of None = 0
    length-of (Some x) = x.length

-- the same by what was found
module _ (table : Table) (bytes : List ℕ) (i y : ℕ) (is : y ≡ peek_at 16 bytes i) where
  pub entry-inside : (e : Entry) → Some e ≡ option_map entry_of (front_of 16 (rows_of table) y) → e.length ≤ 8 * length bytes - i →
      value_at (Words (code_table table)) bytes i ≡ Some (pos e.value, i + e.length)
  entry-inside e f inside =
      let r = map-some entry_of (front_of 16 (rows_of table) y) e (sym f) in
      let l : r.0.length ≡ e.length = ap (λ (x : Entry). x.length) r.2 in
      let v : r.0.value ≡ e.value = ap (λ (x : Entry). x.value) r.2 in
      word-inside table bytes i r.0 (sym (ap (λ k. front_of 16 (rows_of table) k) is) ∙ r.1) (omega arith) ∙
      ap (λ (x : Entry). Some (pos x.value, i + x.length)) r.2

  pub entry-outside : (e : Entry) → Some e ≡ option_map entry_of (front_of 16 (rows_of table) y) → 8 * length bytes - i < e.length →
      value_at (Words (code_table table)) bytes i ≡ None
  entry-outside e f past =
      let r = map-some entry_of (front_of 16 (rows_of table) y) e (sym f) in
      let l : r.0.length ≡ e.length = ap (λ (x : Entry). x.length) r.2 in
      word-outside table bytes i r.0 (sym (ap (λ k. front_of 16 (rows_of table) k) is) ∙ r.1) (omega arith)

  pub entry-none : None ≡ option_map entry_of (front_of 16 (rows_of table) y) → value_at (Words (code_table table)) bytes i ≡ None
  entry-none f = word-none table bytes i (sym (ap (λ k. front_of 16 (rows_of table) k) is) ∙ none (front_of 16 (rows_of table) y) f)
    where
      none : (o : Option Row) → None ≡ option_map entry_of o → o ≡ None
      none None e = refl
      none (Some r) e = absurd (cc)
