-- Bits that were loaded ahead, and those after the first of them.
use Rattle.std.proofs.Common.{◌≡◌, ℕ, ◌+◌, ◌*◌, ◌-◌, ◌/◌, ◌%◌, ◌^◌, ◌<◌, ◌≤◌, List, refl, arith}
use Rattle.std.proofs.lemmas.Nat.{pow_pos, pow-add, shr-shr, div-mul-add, mod-mul-add, mul-add-lt}
use Rattle.std.proofs.Math.Nat.{div-add-mod, mod-lt}
use Rattle.h264_bits.specs.Peek.{peek_at}
use Rattle.h264_bits.specs.Upcoming.{IsUpcoming}
use Rattle.h264_bits.specs.declared.window.Upcoming.{Upcoming}
use Rattle.h264_bits.proofs.Peeks.{peek-split, peek-below, peek-top}

spread : (p q t b d m : ℕ) → ((p * m + q) * b + t) * d ≡ p * (m * (b * d)) + (q * (b * d) + t * d)
spread p q t b d m = grind arith

-- the digits p, q and t, without p and t
middle : (p q t b d m w : ℕ) → q < m → t < b → 0 < d → w ≡ (p * m + q) * b + t → w * d % (m * (b * d)) / (b * d) ≡ q
middle p q t b d m w i j k e =
    let low : t * d < b * d = (let h = mul-add-lt t d 0 b j k in omega arith) in
    let below : q * (b * d) + t * d < m * (b * d) =
    (let h = mul-add-lt q (b * d) (t * d) m i low in let c : b * d * m ≡ m * (b * d) = grind arith in omega arith) in
    rw (e, spread p q t b d m, mod-mul-add p (m * (b * d)) (q * (b * d) + t * d) below) (div-mul-add q (b * d) (t * d) low)

powers : (m r n : ℕ) → m + (r + n) ≡ 64 → 2 ^ m * (2 ^ r * 2 ^ n) ≡ 2 ^ 64
powers m r n e = rw (← pow-add 2 r n, ← pow-add 2 m (r + n), e) refl

moved : (bytes : List ℕ) (i n m r w : ℕ) → m + (r + n) ≡ 64 → w / 2 ^ r ≡ peek_at (n + m) bytes i → w * 2 ^ n % 2 ^ 64 / 2 ^ (r + n) ≡ peek_at m bytes (i + n)
moved bytes i n m r w e is =
    let split = peek-split n m (n + m) bytes i refl in
    let parts : w ≡ (peek_at n bytes i * 2 ^ m + peek_at m bytes (i + n)) * 2 ^ r + w % 2 ^ r =
    (let d = div-add-mod w (2 ^ r) in let c : 2 ^ r * (w / 2 ^ r) ≡ w / 2 ^ r * 2 ^ r = grind arith in
    rw (← split, ← is) (omega arith)) in
    rw (← powers m r n e, pow-add 2 r n)
    (middle (peek_at n bytes i) (peek_at m bytes (i + n)) (w % 2 ^ r) (2 ^ r) (2 ^ n) (2 ^ m) w (peek-below m bytes (i + n)) (mod-lt w (pow_pos r))
    (pow_pos n) parts)

pub following-some : (bytes : List ℕ) (i n : ℕ) (k : Upcoming) → n ≤ k.count → IsUpcoming bytes i k →
    IsUpcoming bytes (i + n) (record { number = k.number * 2 ^ n % 18446744073709551616; count = k.count - n })
following-some bytes i n k h is =
    let few = is.few in
    let all : n + (k.count - n) ≡ k.count = omega arith in
    let rest : 64 - (k.count - n) ≡ 64 - k.count + n = omega arith in
    record {
      few = omega arith;
      are = rw rest (moved bytes i n (k.count - n) (64 - k.count) k.number (omega arith) (rw all is.are));
    }

pub following-none : (bytes : List ℕ) (i : ℕ) → IsUpcoming bytes i (record { number = 0; count = 0 })
unfolding peek_at
following-none bytes i = record { few = omega arith; are = omega arith }

whole : (bytes : List ℕ) (i w : ℕ) → w ≡ peek_at 64 bytes (8 * (i / 8)) →
    IsUpcoming bytes i (record { number = w * 2 ^ (i % 8) % 18446744073709551616; count = 64 - i % 8 })
whole bytes i w e =
    let place : 8 * (i / 8) + i % 8 ≡ i = omega arith in
    let all : w / 2 ^ (64 - 64) ≡ peek_at 64 bytes (8 * (i / 8)) = rw (← e) (omega arith) in
    rw place at (following-some bytes (8 * (i / 8)) (i % 8) (record { number = w; count = 64 }) (omega arith) (record { few = omega arith; are = all }))

pub first-bits : (bytes : List ℕ) (i n : ℕ) (k : Upcoming) → n ≤ k.count → IsUpcoming bytes i k → k.number / 2 ^ (64 - n) ≡ peek_at n bytes i
first-bits bytes i n k h is =
    let few = is.few in
    let split : 64 - n ≡ 64 - k.count + (k.count - n) = omega arith in
    rw (split, ← shr-shr k.number (64 - k.count) (k.count - n), is.are) (peek-top n k.count bytes i h)

-- of the bits of eight bytes those of the first byte before bit i were shifted out: 57 are left, whatever is counted
pub loaded-front : (bytes : List ℕ) (i w n : ℕ) → w ≡ peek_at 64 bytes (8 * (i / 8)) → n ≤ 57 →
    w * 2 ^ (i % 8) % 18446744073709551616 / 2 ^ (64 - n) ≡ peek_at n bytes i
loaded-front bytes i w n e few = first-bits bytes i n (record { number = w * 2 ^ (i % 8) % 18446744073709551616; count = 64 - i % 8 }) (omega arith)
    (whole bytes i w e)

pub loaded-some : (bytes : List ℕ) (i w count : ℕ) → w ≡ peek_at 64 bytes (8 * (i / 8)) → count ≤ 64 - i % 8 →
    IsUpcoming bytes i (record { number = w * 2 ^ (i % 8) % 18446744073709551616; count = count })
loaded-some bytes i w count e few = record {
  few = omega arith;
  are = first-bits bytes i count (record { number = w * 2 ^ (i % 8) % 18446744073709551616; count = 64 - i % 8 }) few (whole bytes i w e);
}
