-- Bits that are 0, and the last 1.
use Rattle.std.proofs.Common.{◌≡◌, ℕ, zero, suc, ◌+◌, ◌*◌, ◌-◌, ◌/◌, ◌%◌, ◌^◌, ◌<◌, ◌≤◌, Bool, true, false, not, List, length, replicate, Some, None}
use Rattle.std.proofs.Common.{refl, ap, sym, ◌∙◌, arith, inl, inr}
use Rattle.std.specs.Prelude.{slice_index}
use Rattle.std.specs.Int.{w8, bit_at, trailing_zeros}
use Rattle.std.proofs.lemmas.Nat.{pow_pos}
use Rattle.std.proofs.lemmas.Nat.Bits.{bit_at-trailing_zeros}
use Rattle.std.proofs.lemmas.Bool.{cases_lt, eq-eqb}
use Rattle.h264_base.specs.Word.{digit, bit_of, StandsAt, ends_at, no_zero_at, padding}
use Rattle.h264_base.specs.Grammar.{Ends}
use Rattle.h264_base.proofs.Words.{more-one, from-padded, from-unpadded}
use Rattle.h264_bits.specs.Peek.{bit_or_zero, peek_at, IsLastOne}
use Rattle.h264_bits.proofs.Peeks.{bit-inside, bit-below, no-bit, zero-bit, one-bit, Leads}
use Rattle.h264_base.proofs.Plain.{differs}

-- zeros that the next bits spell stand there
pub zeros-stand : (n : ℕ) (bytes : List ℕ) (i : ℕ) → i + n ≤ 8 * length bytes → peek_at n bytes i ≡ 0 → StandsAt bytes i (replicate n false)
unfolding peek_at
zeros-stand zero bytes i h z = tt
zeros-stand (suc n) bytes i h z =
    let b = bit-inside bytes i (omega arith) in
    let first = no-bit (bit_or_zero bytes i) (2 ^ n) (peek_at n bytes (i + 1)) (bit-below bytes i) (pow_pos n) z in
    (b.1 ∙ ap Some (zero-bit b.0 _ b.2 first.0), zeros-stand n bytes (i + 1) (omega arith) first.1)

-- the first bit that is set of those up to the next byte
pub set-found : (k : ℕ) (bytes : List ℕ) (i : ℕ) → i ≤ 8 * length bytes → k < padding i → Leads bytes i k → no_zero_at (padding i) bytes i ≡ Some (i + k)
set-found k bytes i h few l =
    let b = bit-inside bytes (i + k) (omega arith) in
    from-unpadded (padding i) bytes i k few (zeros-stand k bytes i (omega arith) l.zeros)
    (λ e. let o : b.0 ≡ true = one-bit b.0 _ b.2 l.one in let z : Some true ≡ Some false = sym (ap Some o) ∙ sym b.1 ∙ e in cc)

pub set-none : (bytes : List ℕ) (i : ℕ) → i ≤ 8 * length bytes → peek_at (padding i) bytes i ≡ 0 → no_zero_at (padding i) bytes i ≡ None
set-none bytes i h z = from-padded (padding i) bytes i (zeros-stand (padding i) bytes i (omega arith) z)

-- bits that are 0 from bit i up to bit i + n
abbrev pub AreClear : List ℕ → ℕ → ℕ → Type 0
AreClear bytes i n = (j : ℕ) → i ≤ j → j < i + n → bit_or_zero bytes j ≡ 0

pub clear-stand : (n : ℕ) (bytes : List ℕ) (i : ℕ) → i + n ≤ 8 * length bytes → AreClear bytes i n → StandsAt bytes i (replicate n false)
clear-stand zero bytes i h z = tt
clear-stand (suc n) bytes i h z =
    let b = bit-inside bytes i (omega arith) in (
      b.1 ∙ ap Some (zero-bit b.0 _ b.2 (z i (omega arith) (omega arith))),
      clear-stand n bytes (i + 1) (omega arith) (λ j low high. z j (omega arith) (omega arith)),
    )

bit-seen : (bytes : List ℕ) (i : ℕ) (b : Bool) → i < 8 * length bytes → bit_of bytes i ≡ Some b → bit_or_zero bytes i ≡ digit b
bit-seen bytes i b h e = let c = bit-inside bytes i h in let f : Some c.0 ≡ Some b = sym c.1 ∙ e in let g : c.0 ≡ b = cc in sym c.2 ∙ ap digit g

pub stands-clear : (n : ℕ) (bytes : List ℕ) (i : ℕ) → i + n ≤ 8 * length bytes → StandsAt bytes i (replicate n false) → AreClear bytes i n
stands-clear zero bytes i h s j low high = absurd (omega arith)
stands-clear (suc n) bytes i h s j low high = elim (cases_lt i j) [
  | inl more ↦ stands-clear n bytes (i + 1) (omega arith) s.1 j (omega arith) (omega arith)
  | inr less ↦ let e : i ≡ j = omega arith in rw (← e) (bit-seen bytes i false (omega arith) s.0)
]

at-one : (bytes : List ℕ) (k : ℕ) → k < 8 * length bytes → bit_or_zero bytes k ≡ 1 → ((j : ℕ) → k < j → bit_or_zero bytes j ≡ 0) → ends_at bytes k ≡ true
at-one bytes k h one rest =
    let b = bit-inside bytes k h in
    let n : ℕ = 8 * length bytes - k - 1 in
    let clear : StandsAt bytes (k + 1) (replicate n false) = clear-stand n bytes (k + 1) (omega arith) (λ j low high. rest j (omega arith)) in
    let e = more-one bytes k false (n, ((b.1 ∙ ap Some (one-bit b.0 _ b.2 one), clear), omega arith)) in
    off (ends_at bytes k) e
  where
    off : (c : Bool) → false ≡ not c → c ≡ true
    off true e = refl
    off false e = absurd (cc)

on : (c : Bool) → true ≡ not c → c ≡ false
on true e = absurd (cc)
on false e = refl

not-ended : (bytes : List ℕ) (i : ℕ) → ((n : ℕ) → Ends bytes i n → ⊥) → ends_at bytes i ≡ false
not-ended bytes i h = on (ends_at bytes i) (more-one bytes i true h)

one-at : (bytes : List ℕ) (i n : ℕ) → Ends bytes i n → bit_or_zero bytes i ≡ 1
one-at bytes i n e = let w = e.1 in bit-seen bytes i true (omega arith) e.0.0

-- a 1 with zeros after it
pub last-found : (bytes : List ℕ) (k : ℕ) → k < 8 * length bytes → bit_or_zero bytes k ≡ 1 → ((j : ℕ) → k < j → bit_or_zero bytes j ≡ 0) → IsLastOne bytes k
unfolding IsLastOne
last-found bytes k h one rest i inside = elim (cases_lt i k) [
  | inl less ↦
      not-ended bytes i (λ n e. let w = e.1 in let z = stands-clear n bytes (i + 1) (omega arith) e.0.1 k (omega arith) (omega arith) in omega arith)
      ∙ sym (differs i k (omega arith))
  | inr more ↦ elim (cases_lt k i) [
    | inl above ↦
        not-ended bytes i (λ n e. let o = one-at bytes i n e in let z = rest i above in omega arith)
        ∙ sym (differs i k (omega arith))
    | inr below ↦ let same : k ≡ i = omega arith in rw (← same) (at-one bytes k h one rest ∙ sym (eq-eqb k k refl))
  ]
]

-- no 1 at all
pub last-none : (bytes : List ℕ) (k : ℕ) → 8 * length bytes < k → ((j : ℕ) → bit_or_zero bytes j ≡ 0) → IsLastOne bytes k
unfolding IsLastOne
last-none bytes k h clear i inside =
    not-ended bytes i (λ n e. let o = one-at bytes i n e in let z = clear i in omega arith) ∙ sym (differs i k (omega arith))

-- the bytes from byte k on are 0
abbrev pub AreZeros : List ℕ → ℕ → Type 0
AreZeros bytes k = (j : ℕ) → k ≤ j → slice_index bytes j ≡ 0

pub byte-clear : (bytes : List ℕ) (j : ℕ) → slice_index bytes (j / 8) ≡ 0 → bit_or_zero bytes j ≡ 0
unfolding bit_or_zero
byte-clear bytes j e = let p = pow_pos (7 - j % 8) in rw e (omega arith)

set_bit : (bytes : List ℕ) (k x t : ℕ) → t < 8 → slice_index bytes k ≡ x → bit_at x t ≡ 1 → bit_or_zero bytes (8 * k + 7 - t) ≡ 1
unfolding bit_or_zero
set_bit bytes k x t few is e =
    let d : (8 * k + 7 - t) / 8 ≡ k = omega arith in
    let m : 7 - (8 * k + 7 - t) % 8 ≡ t = omega arith in
    rw (d, m, is) e

clear_bit : (bytes : List ℕ) (k x j : ℕ) → slice_index bytes k ≡ x → j / 8 ≡ k → bit_at x (7 - j % 8) ≡ 0 → bit_or_zero bytes j ≡ 0
unfolding bit_or_zero
clear_bit bytes k x j is d e = rw (d, is) e

-- the lowest 1 of the last byte that is not 0
pub last-in : (bytes : List ℕ) (k x t : ℕ) → k < length bytes → slice_index bytes k ≡ x → 0 < x → x < 256 → t ≡ trailing_zeros w8 x → AreZeros bytes (k + 1) →
    IsLastOne bytes (8 * k + 7 - t)
last-in bytes k x t inside is some small e zeros =
    let low = bit_at-trailing_zeros w8 x some small in
    let few : t < 8 = (let f = low.0 in omega arith) in
    last-found bytes (8 * k + 7 - t) (omega arith)
    (set_bit bytes k x t few is (rw e low.1))
    (λ j above. elim (cases_lt j (8 * (k + 1))) [
      | inl here ↦
          let m : j ≡ 8 * k + j % 8 = omega arith in
          clear_bit bytes k x j is (omega arith) (low.2 (7 - j % 8) (omega arith))
      | inr after ↦ byte-clear bytes j (zeros (j / 8) (omega arith))
    ])
