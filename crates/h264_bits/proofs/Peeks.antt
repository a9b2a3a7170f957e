-- What a window of bits says of the codes that begin in it.
use Rattle.std.proofs.Common.{◌≡◌, ◌≢◌, ℕ, zero, suc, ◌+◌, ◌*◌, ◌-◌, ◌/◌, ◌%◌, ◌^◌, ◌<◌, ◌≤◌, ℤ, pos, neg_ℤ, Bool, true, false, List, [], ◌∷◌, length, Option}
use Rattle.std.proofs.Common.{Some, None, refl, ap, sym, ◌∙◌, arith, ◌==◌, ◌⊎◌, inl, inr}
use Rattle.std.specs.Option.{option_map}
use Rattle.std.specs.Prelude.{slice_index}
use Rattle.std.proofs.lemmas.Option.{slice_get-get_or, slice_get_past, some_pair_parts}
use Rattle.std.proofs.lemmas.List.{get_or_past}
use Rattle.std.proofs.lemmas.Nat.{pow_pos, pow-add, shr_high, leading_top, leading_length, div-mul-add, le-div}
use Rattle.std.proofs.lemmas.Bool.{cases_lt}
use Rattle.std.proofs.Math.Nat.{pow-succ'}
use Rattle.std.specs.Int.{w64, from_be_bytes}
use lib.Count.{count_leading_zeros}
use Rattle.std.proofs.Math.Nat.{pow-le-pow_right, mod-eq_of_lt}
use Rattle.h264_base.specs.Word.{Fixed, Unsigned, Signed, digit, signed, bit_of, number_at, zeros_at, golomb_at, value_at}
use Rattle.h264_bits.specs.Peek.{bit_or_zero, peek_at}
use Rattle.h264_tables.proofs.Prefixes.{spread}
use Rattle.h264_tables.proofs.Entries.{le-pow}

pow-two : (m : ℕ) → 2 ^ suc m ≡ 2 * 2 ^ m
pow-two m = pow-succ' 2 m

pub bit-below : (bytes : List ℕ) (i : ℕ) → bit_or_zero bytes i < 2
unfolding bit_or_zero
bit-below bytes i = omega arith

times-bit : (b p : ℕ) → b < 2 → (b * p ≡ 0) × (b ≡ 0) ⊎ (b * p ≡ p) × (b ≡ 1)
times-bit zero p h = inl (omega arith, refl)
times-bit (suc zero) p h = inr (omega arith, refl)
times-bit (suc (suc b)) p h = absurd (omega arith)

pub peek-below : (n : ℕ) (bytes : List ℕ) (i : ℕ) → peek_at n bytes i < 2 ^ n
unfolding peek_at
peek-below zero bytes i = omega arith
peek-below (suc n) bytes i =
    let h = peek-below n bytes (i + 1) in
    let e = pow-two n in
    let g = times-bit (bit_or_zero bytes i) (2 ^ n) (bit-below bytes i) in
    omega arith

-- the first bits, and those after them
pub peek-split : (a b n : ℕ) (bytes : List ℕ) (i : ℕ) → n ≡ a + b → peek_at n bytes i ≡ peek_at a bytes i * 2 ^ b + peek_at b bytes (i + a)
unfolding peek_at
peek-split zero b n bytes i e = let m : n ≡ b = omega arith in let j : i + 0 ≡ i = omega arith in rw (m, j) (omega arith)
peek-split (suc a) b zero bytes i e = absurd (omega arith)
peek-split (suc a) b (suc n) bytes i e =
    let m : n ≡ a + b = omega arith in
    let h = peek-split a b n bytes (i + 1) m in
    let j : i + 1 + a ≡ i + suc a = omega arith in
    rw (h, m, pow-add 2 a b, j) (spread (bit_or_zero bytes i) (2 ^ a) (2 ^ b) (peek_at a bytes (i + 1)) (peek_at b bytes (i + suc a)))

-- a byte is its eight bits
bit-in-byte : (bytes : List ℕ) (k j : ℕ) → j < 8 → bit_or_zero bytes (8 * k + j) ≡ slice_index bytes k / 2 ^ (7 - j) % 2
unfolding bit_or_zero
bit-in-byte bytes k j h = let d : (8 * k + j) / 8 ≡ k = omega arith in let m : (8 * k + j) % 8 ≡ j = omega arith in rw (d, m) refl

byte-bits : (x : ℕ) → x < 256 → x / 128 % 2 * 128 +
    (x / 64 % 2 * 64 + (x / 32 % 2 * 32 + (x / 16 % 2 * 16 + (x / 8 % 2 * 8 + (x / 4 % 2 * 4 + (x / 2 % 2 * 2 + (x / 1 % 2 * 1 + 0))))))) ≡ x
byte-bits x h = omega arith

at-plus : (bytes : List ℕ) (i j k : ℕ) → i ≡ 8 * k + j → j < 8 → bit_or_zero bytes i ≡ slice_index bytes k / 2 ^ (7 - j) % 2
at-plus bytes i j k e h = rw e (bit-in-byte bytes k j h)

pub peek-byte : (bytes : List ℕ) (i k : ℕ) → i ≡ 8 * k → slice_index bytes k < 256 → peek_at 8 bytes i ≡ slice_index bytes k
unfolding peek_at
peek-byte bytes i k e h =
    rw (
      at-plus bytes i 0 k (omega arith) (omega arith),
      at-plus bytes (i + 1) 1 k (omega arith) (omega arith),
      at-plus bytes (i + 1 + 1) 2 k (omega arith) (omega arith),
      at-plus bytes (i + 1 + 1 + 1) 3 k (omega arith) (omega arith),
      at-plus bytes (i + 1 + 1 + 1 + 1) 4 k (omega arith) (omega arith),
      at-plus bytes (i + 1 + 1 + 1 + 1 + 1) 5 k (omega arith) (omega arith),
      at-plus bytes (i + 1 + 1 + 1 + 1 + 1 + 1) 6 k (omega arith) (omega arith),
      at-plus bytes (i + 1 + 1 + 1 + 1 + 1 + 1 + 1) 7 k (omega arith) (omega arith),
    )
    (byte-bits (slice_index bytes k) h)

-- one more byte
pub peek-more : (bytes : List ℕ) (k j n : ℕ) → n ≡ 8 * j → slice_index bytes (k + j) < 256 →
    peek_at (n + 8) bytes (8 * k) ≡ peek_at n bytes (8 * k) * 256 + slice_index bytes (k + j)
peek-more bytes k j n e h = peek-split n 8 (n + 8) bytes (8 * k) refl ∙
    ap (λ x. peek_at n bytes (8 * k) * 256 + x) (peek-byte bytes (8 * k + n) (k + j) (omega arith) h)

-- eight bytes
pub peek-eight : (bytes : List ℕ) (k : ℕ) → ((i : ℕ) → slice_index bytes i < 256) →
    peek_at 64 bytes (8 * k) ≡ from_be_bytes w64
    (slice_index bytes k ∷ slice_index bytes (k + 1) ∷ slice_index bytes (k + 2) ∷ slice_index bytes (k + 3) ∷ slice_index bytes (k + 4) ∷ slice_index bytes
    (k + 5) ∷ slice_index bytes (k + 6) ∷ slice_index bytes (k + 7) ∷ [])
peek-eight bytes k h =
    let a : peek_at 8 bytes (8 * k) ≡ slice_index bytes k = peek-byte bytes (8 * k) k refl (h k) in
    let b = peek-more bytes k 1 8 refl (h (k + 1)) in
    let c = peek-more bytes k 2 16 refl (h (k + 2)) in
    let d = peek-more bytes k 3 24 refl (h (k + 3)) in
    let e = peek-more bytes k 4 32 refl (h (k + 4)) in
    let f = peek-more bytes k 5 40 refl (h (k + 5)) in
    let g = peek-more bytes k 6 48 refl (h (k + 6)) in
    let l = peek-more bytes k 7 56 refl (h (k + 7)) in
    omega arith

shifted : (s a b r : ℕ) → s < 8 → b < 2 ^ 57 → r < 2 ^ (7 - s) → (a * 2 ^ (64 - s) + (b * 2 ^ (7 - s) + r)) * 2 ^ s % 2 ^ 64 / 2 ^ 7 ≡ b
shifted zero a b r h g f = omega arith
shifted (suc zero) a b r h g f = omega arith
shifted (suc (suc zero)) a b r h g f = omega arith
shifted (suc (suc (suc zero))) a b r h g f = omega arith
shifted (suc (suc (suc (suc zero)))) a b r h g f = omega arith
shifted (suc (suc (suc (suc (suc zero))))) a b r h g f = omega arith
shifted (suc (suc (suc (suc (suc (suc zero)))))) a b r h g f = omega arith
shifted (suc (suc (suc (suc (suc (suc (suc zero))))))) a b r h g f = omega arith
shifted (suc (suc (suc (suc (suc (suc (suc (suc s)))))))) a b r h g f = absurd (omega arith)

-- eight bytes hold the 57 bits from any bit of the first
pub peek-window : (bytes : List ℕ) (i : ℕ) → peek_at 64 bytes (8 * (i / 8)) * 2 ^ (i % 8) % 2 ^ 64 / 2 ^ 7 ≡ peek_at 57 bytes i
peek-window bytes i =
    let s : ℕ = i % 8 in
    let below : s < 8 = omega arith in
    let a = peek-split s (64 - s) 64 bytes (8 * (i / 8)) (omega arith) in
    let place : 8 * (i / 8) + s ≡ i = omega arith in
    let b = peek-split 57 (7 - s) (64 - s) bytes i (omega arith) in
    rw (a, place, b) (shifted s (peek_at s bytes (8 * (i / 8))) (peek_at 57 bytes i) (peek_at (7 - s) bytes (i + 57)) below (peek-below 57 bytes i)
    (peek-below (7 - s) bytes (i + 57)))

-- the first bits of a window
pub peek-top : (n m : ℕ) (bytes : List ℕ) (i : ℕ) → n ≤ m → peek_at m bytes i / 2 ^ (m - n) ≡ peek_at n bytes i
peek-top n m bytes i h = rw (peek-split n (m - n) m bytes i (omega arith))
    (shr_high (peek_at n bytes i) (m - n) (peek_at (m - n) bytes (i + n)) (peek-below (m - n) bytes (i + n)))

-- ---- the bits themselves
digit-is : (m : ℕ) → digit (m % 2 == 1) ≡ m % 2
digit-is m = go (m % 2) (omega arith)
  where
    go : (d : ℕ) → d < 2 → digit (d == 1) ≡ d
    go zero h = refl
    go (suc zero) h = refl
    go (suc (suc d)) h = absurd (omega arith)

pub bit-inside : (bytes : List ℕ) (i : ℕ) → i < 8 * length bytes → (b : Bool) × (bit_of bytes i ≡ Some b) × (digit b ≡ bit_or_zero bytes i)
unfolding bit_or_zero
bit-inside bytes i h = (
  slice_index bytes (i / 8) / 2 ^ (7 - i % 8) % 2 == 1,
  rw (slice_get-get_or bytes (i / 8) 0 (omega arith)) refl,
  digit-is (slice_index bytes (i / 8) / 2 ^ (7 - i % 8)),
)

pub bit-outside : (bytes : List ℕ) (i : ℕ) → 8 * length bytes ≤ i → bit_of bytes i ≡ None
bit-outside bytes i h = rw (slice_get_past bytes (i / 8) (omega arith)) refl

pub one-inside : (bytes : List ℕ) (i : ℕ) → bit_or_zero bytes i ≡ 1 → i < 8 * length bytes
unfolding bit_or_zero
one-inside bytes i e = elim (cases_lt i (8 * length bytes)) [
  | inl below ↦ below
  | inr past ↦ absurd (let z = get_or_past bytes (i / 8) 0 (omega arith) in let w : 0 / 2 ^ (7 - i % 8) % 2 ≡ 1 = (rw z at e) in
      let p = pow_pos (7 - i % 8) in omega arith)
]

-- ---- numbers
pub number-inside : (n : ℕ) (bytes : List ℕ) (i : ℕ) → n ≤ 8 * length bytes - i → number_at n bytes i ≡ Some (peek_at n bytes i)
unfolding number_at peek_at
number-inside zero bytes i h = refl
number-inside (suc n) bytes i h =
    let b = bit-inside bytes i (omega arith) in
    rw (b.1, number-inside n bytes (i + 1) (omega arith), b.2) refl

pub number-outside : (n : ℕ) (bytes : List ℕ) (i : ℕ) → 8 * length bytes - i < n → number_at n bytes i ≡ None
unfolding number_at
number-outside zero bytes i h = absurd (omega arith)
number-outside (suc n) bytes i h = elim (cases_lt i (8 * length bytes)) [
  | inl below ↦ let b = bit-inside bytes i below in rw (b.1, number-outside n bytes (i + 1) (omega arith)) refl
  | inr past ↦ rw (bit-outside bytes i (omega arith)) refl
]

-- ---- zeros
pub no-bit : (b p x : ℕ) → b < 2 → 0 < p → b * p + x ≡ 0 → (b ≡ 0) × (x ≡ 0)
no-bit b p x h g e = let c = times-bit b p h in (omega arith, omega arith)

pub zero-bit : (b : Bool) (x : ℕ) → digit b ≡ x → x ≡ 0 → b ≡ false
zero-bit true x e f = absurd (omega arith)
zero-bit false x e f = refl

pub one-bit : (b : Bool) (x : ℕ) → digit b ≡ x → x ≡ 1 → b ≡ true
one-bit true x e f = refl
one-bit false x e f = absurd (omega arith)

pub zeros-found : (k n : ℕ) (bytes : List ℕ) (i : ℕ) → k < n → peek_at k bytes i ≡ 0 → bit_or_zero bytes (i + k) ≡ 1 → zeros_at n bytes i ≡ Some k
unfolding zeros_at peek_at
zeros-found k zero bytes i h z o = absurd (omega arith)
zeros-found zero (suc n) bytes i h z o =
    let j : i + 0 ≡ i = omega arith in
    let o' : bit_or_zero bytes i ≡ 1 = (rw j at o) in
    let b = bit-inside bytes i (one-inside bytes i o') in
    rw (b.1, one-bit b.0 _ b.2 o') refl
zeros-found (suc k) (suc n) bytes i h z o =
    let inside = one-inside bytes (i + suc k) o in
    let b = bit-inside bytes i (omega arith) in
    let first = no-bit (bit_or_zero bytes i) (2 ^ k) (peek_at k bytes (i + 1)) (bit-below bytes i) (pow_pos k) z in
    let j : i + suc k ≡ i + 1 + k = omega arith in
    let more = zeros-found k n bytes (i + 1) (omega arith) first.1 (rw j at o) in
    rw (b.1, zero-bit b.0 _ b.2 first.0, more) refl

pub zeros-none : (n : ℕ) (bytes : List ℕ) (i : ℕ) → peek_at n bytes i ≡ 0 → zeros_at n bytes i ≡ None
unfolding zeros_at peek_at
zeros-none zero bytes i z = refl
zeros-none (suc n) bytes i z =
    let first = no-bit (bit_or_zero bytes i) (2 ^ n) (peek_at n bytes (i + 1)) (bit-below bytes i) (pow_pos n) z in
    let more = zeros-none n bytes (i + 1) first.1 in
    elim (cases_lt i (8 * length bytes)) [
      | inl below ↦ let b = bit-inside bytes i below in rw (b.1, zero-bit b.0 _ b.2 first.0, more) refl
      | inr past ↦ rw (bit-outside bytes i (omega arith)) refl
    ]

-- ---- Exp-Golomb words
quotient-zero : (x p : ℕ) → x < p → x / p ≡ 0
quotient-zero x p h = let d : (0 * p + x) / p ≡ 0 = div-mul-add 0 p x h in let c : 0 * p + x ≡ x = omega arith in rw c at d

small-left : (a p x : ℕ) → a * p + x < p → a ≡ 0
small-left zero p x h = refl
small-left (suc a) p x h = let e : suc a * p ≡ p + a * p = grind arith in absurd (omega arith)

-- z zeros and a 1 stand at bit i
pub record Leads (bytes : List ℕ) (i z : ℕ) : Type 0 where
  pub zeros : peek_at z bytes i ≡ 0
  pub one : bit_or_zero bytes (i + z) ≡ 1

leads-from : (n : ℕ) (bytes : List ℕ) (i z j : ℕ) → z + suc j ≡ n → 2 ^ j ≤ peek_at n bytes i → peek_at n bytes i < 2 ^ suc j → Leads bytes i z
unfolding peek_at
leads-from n bytes i z j e low high =
    let s = peek-split z (suc j) n bytes i (omega arith) in
    let h : peek_at z bytes i * 2 ^ suc j + peek_at (suc j) bytes (i + z) < 2 ^ suc j = omega arith in
    let none = small-left (peek_at z bytes i) (2 ^ suc j) (peek_at (suc j) bytes (i + z)) h in
    let gone : peek_at z bytes i * 2 ^ suc j ≡ 0 = rw none (omega arith) in
    let rest = peek-below j bytes (i + z + 1) in
    let c = times-bit (bit_or_zero bytes (i + z)) (2 ^ j) (bit-below bytes (i + z)) in
    record { zeros = none; one = omega arith }

-- a number of n bits has the zeros above them
pub zeros-above : (n w : ℕ) → n ≤ 57 → w < 2 ^ n → 64 - n ≤ count_leading_zeros 64 w
zeros-above n w few h =
    let p = le-pow n 57 few in
    let l = leading_length 64 w (omega arith) in elim (cases_lt l.0 (suc n)) [
      | inl below ↦ let e = l.1 in omega arith
      | inr past ↦ absurd (let e : 2 ^ suc n ≤ 2 ^ l.0 = le-pow (suc n) l.0 (omega arith) in let d = pow-two n in let f = l.3 in omega arith)
    ]

pub window-seven : (w : ℕ) → w < 2 ^ 57 → 7 ≤ count_leading_zeros 64 w
window-seven w h = zeros-above 57 w (omega arith) h

few : (m : ℕ) → 2 ^ m ≤ 1 → m < 1
few zero h = omega arith
few (suc m) h = absurd (let e = pow-two m in let p = pow_pos m in omega arith)

-- 0 alone has no 1
not-zero : (w : ℕ) → count_leading_zeros 64 w < 64 → 0 < w
not-zero w h = elim (cases_lt 0 w) [
  | inl more ↦ more
  | inr none ↦ absurd (let z : w ≡ 0 = omega arith in let l = leading_length 64 w (omega arith) in let p : 2 ^ l.0 ≤ 1 = (let q = l.3 in omega arith) in
      let m = few l.0 p in let q = l.1 in omega arith)
]

-- a shift that drops bits below the highest 1 leaves that
pub one-left : (w k : ℕ) → w < 2 ^ 57 → k + count_leading_zeros 64 w < 64 → 1 ≤ w / 2 ^ k
one-left w k h g =
    let t = leading_top 64 w (not-zero w (omega arith)) (omega arith) in
    let q = t.1 in
    let p = le-pow k t.0 (omega arith) in
    le-div 1 w (2 ^ k) (pow_pos k) (let l = t.2 in omega arith)

-- what the zeros of a number of n bits are in the bytes
pub number-leads : (n w : ℕ) (bytes : List ℕ) (i : ℕ) → n ≤ 57 → w ≡ peek_at n bytes i → count_leading_zeros 64 w - (64 - n) < n →
    Leads bytes i (count_leading_zeros 64 w - (64 - n))
number-leads n w bytes i short e h =
    let below : w < 2 ^ n = (let b = peek-below n bytes i in omega arith) in
    let p = le-pow n 57 short in
    let above = zeros-above n w short below in
    let t = leading_top 64 w (not-zero w (omega arith)) (omega arith) in
    let q = t.1 in
    leads-from n bytes i (count_leading_zeros 64 w - (64 - n)) t.0 (omega arith) (let l = t.2 in omega arith) (let l = t.3 in omega arith)

pub window-leads : (w : ℕ) (bytes : List ℕ) (i : ℕ) → w ≡ peek_at 57 bytes i → count_leading_zeros 64 w - 7 < 57 → Leads bytes i (count_leading_zeros 64 w - 7)
window-leads w bytes i e h = number-leads 57 w bytes i (omega arith) e h

-- as many zeros as the window leads with
pub zeros-lead : (n w : ℕ) (bytes : List ℕ) (i : ℕ) → w ≡ peek_at 57 bytes i → n ≤ 57 → n ≤ count_leading_zeros 64 w - 7 → peek_at n bytes i ≡ 0
zeros-lead n w bytes i e few h =
    let below : w < 2 ^ 57 = (let b = peek-below 57 bytes i in omega arith) in
    let seven = window-seven w below in
    let l = leading_length 64 w (omega arith) in
    let q = l.1 in
    let p : 2 ^ l.0 ≤ 2 ^ (57 - n) = le-pow l.0 (57 - n) (omega arith) in
    let small : w < 2 ^ (57 - n) = (let b = l.2 in omega arith) in
    let t = peek-top n 57 bytes i few in
    let none : w / 2 ^ (57 - n) ≡ 0 = quotient-zero w (2 ^ (57 - n)) small in
    sym t ∙ (rw (← e) none)

-- n zeros, or the end before
pub zeros-far : (n w : ℕ) (bytes : List ℕ) (i : ℕ) → w ≡ peek_at 57 bytes i → n ≤ 57 → n ≤ count_leading_zeros 64 w - 7 → zeros_at n bytes i ≡ None
zeros-far n w bytes i e few h = zeros-none n bytes i (zeros-lead n w bytes i e few h)

-- 32 zeros, or the end before
pub golomb-far : (w : ℕ) (bytes : List ℕ) (i : ℕ) → w ≡ peek_at 57 bytes i → 31 < count_leading_zeros 64 w - 7 → value_at Unsigned bytes i ≡ None
unfolding value_at golomb_at
golomb-far w bytes i e h = rw (zeros-far 32 w bytes i e (omega arith) (omega arith)) refl

pub golomb-inside : (z : ℕ) (bytes : List ℕ) (i : ℕ) → z < 32 → Leads bytes i z → i + 2 * z + 1 ≤ 8 * length bytes →
    value_at Unsigned bytes i ≡ Some (pos (2 ^ z - 1 + peek_at z bytes (i + z + 1)), i + 2 * z + 1)
unfolding value_at golomb_at
golomb-inside z bytes i small h g =
    let k : i + (2 * z + 1) ≡ i + 2 * z + 1 = omega arith in
    rw (zeros-found z 32 bytes i small h.zeros h.one, number-inside z bytes (i + z + 1) (omega arith), k) refl

pub golomb-outside : (z : ℕ) (bytes : List ℕ) (i : ℕ) → z < 32 → Leads bytes i z → 8 * length bytes < i + 2 * z + 1 → value_at Unsigned bytes i ≡ None
unfolding value_at golomb_at
golomb-outside z bytes i small h g =
    let inside = one-inside bytes (i + z) h.one in
    rw (zeros-found z 32 bytes i small h.zeros h.one, number-outside z bytes (i + z + 1) (omega arith)) refl

-- the word as a number is its value plus 1
pub golomb-word : (n w z : ℕ) (bytes : List ℕ) (i : ℕ) → w ≡ peek_at n bytes i → 2 * z + 1 ≤ n → Leads bytes i z →
    w / 2 ^ (n - (2 * z + 1)) ≡ 2 ^ z + peek_at z bytes (i + z + 1)
unfolding peek_at
golomb-word n w z bytes i e fits h =
    let t = peek-top (2 * z + 1) n bytes i fits in
    let s = peek-split z (suc z) (2 * z + 1) bytes i (omega arith) in
    let zeros : peek_at z bytes i * 2 ^ suc z ≡ 0 = rw h.zeros (omega arith) in
    let one : bit_or_zero bytes (i + z) * 2 ^ z ≡ 2 ^ z = ap (λ a. a * 2 ^ z) h.one ∙ omega arith in
    rw (e, t, s) (omega arith)

pub pow-few : (z n : ℕ) → z ≤ n → (1 ≤ 2 ^ z) × (2 ^ z ≤ 2 ^ n)
pow-few z n h = (let p = pow_pos z in omega arith, pow-le-pow_right (omega arith) h)

-- ---- numbers of fixed size
pub fixed-inside : (n : ℕ) (bytes : List ℕ) (i : ℕ) → n ≤ 8 * length bytes - i → value_at (Fixed n) bytes i ≡ Some (pos (peek_at n bytes i), i + n)
unfolding value_at
fixed-inside n bytes i h = rw (number-inside n bytes i h) refl

pub fixed-outside : (n : ℕ) (bytes : List ℕ) (i : ℕ) → 8 * length bytes - i < n → value_at (Fixed n) bytes i ≡ None
unfolding value_at
fixed-outside n bytes i h = rw (number-outside n bytes i h) refl

pub top-of : (w n : ℕ) (bytes : List ℕ) (i : ℕ) → w ≡ peek_at 57 bytes i → n ≤ 57 → w / 2 ^ (57 - n) ≡ peek_at n bytes i
top-of w n bytes i e h = rw e (peek-top n 57 bytes i h)

pub power-is : (z : ℕ) → z < 32 → 1 * 2 ^ z % 18446744073709551616 ≡ 2 ^ z
power-is z h = let p = pow-few z 31 (omega arith) in let one : 1 * 2 ^ z ≡ 2 ^ z = omega arith in rw one (mod-eq_of_lt (omega arith))

parts : (a b : ℕ) (c j : ℕ) → ◌≡◌ {A = Option (ℤ × ℕ)} (Some (pos a, b)) (Some (pos c, j)) → (a ≡ c) × (b ≡ j)
parts a b c j e = let q = some_pair_parts (pos a) (pos c) b j e in (let h = q.0 in cc, q.1)

signed-parts : (o : Option (ℕ × ℕ)) (c j : ℕ) → option_map {U = ℤ × ℕ} (λ (x : ℕ × ℕ). (pos x.0, x.1)) o ≡ Some (pos c, j) →
    option_map {U = ℤ × ℕ} (λ (x : ℕ × ℕ). (signed x.0, x.1)) o ≡ Some (signed c, j)
signed-parts None c j e = absurd (cc)
signed-parts (Some (d, k)) c j e = let q = parts d k c j e in rw (q.0, q.1) refl

pub signed-some : (c j : ℕ) (bytes : List ℕ) (i : ℕ) → value_at Unsigned bytes i ≡ Some (pos c, j) → value_at Signed bytes i ≡ Some (signed c, j)
unfolding value_at
signed-some c j bytes i e = signed-parts (golomb_at bytes i) c j e

signed-lost : (o : Option (ℕ × ℕ)) → option_map {U = ℤ × ℕ} (λ (x : ℕ × ℕ). (pos x.0, x.1)) o ≡ None →
    option_map {U = ℤ × ℕ} (λ (x : ℕ × ℕ). (signed x.0, x.1)) o ≡ None
signed-lost None e = refl
signed-lost (Some x) e = absurd (cc)

pub signed-none : (bytes : List ℕ) (i : ℕ) → value_at Unsigned bytes i ≡ None → value_at Signed bytes i ≡ None
unfolding value_at
signed-none bytes i e = signed-lost (golomb_at bytes i) e

pub signed-even : (c : ℕ) → c % 2 ≡ 0 → signed c ≡ neg_ℤ (pos (c / 2))
signed-even c e = rw e refl

pub signed-odd : (c : ℕ) → c % 2 ≢ 0 → signed c ≡ pos (c / 2 + 1)
signed-odd c e = let f : c % 2 ≡ 1 = omega arith in rw f refl
