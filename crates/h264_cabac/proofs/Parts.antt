-- Offsets and ranges of a register.
use Rattle.std.proofs.Common.{◌≡◌, ℕ, ◌+◌, ◌*◌, ◌-◌, ◌/◌, ◌%◌, ◌^◌, ◌<◌, ◌≤◌, List, true, nat_lt, ap, ◌∙◌, arith}
use Rattle.std.proofs.lemmas.Nat.{pow_pos, div-mul-add, mod-mul-add, div-add-mod', div_below}
use Rattle.std.proofs.lemmas.Bool.{ltb-true, lt-ltb}
use Rattle.std.proofs.Math.Nat.{mul-le-mul_right, mod-eq_of_lt, mod-lt}
use Rattle.h264_bits.proofs.Peeks.{pow-few}
use Rattle.h264_cabac.specs.declared.register.Register.{Register}
use Rattle.h264_cabac.specs.Register.{IsRegister}

-- a range above the bits ahead fits 64 bits
pub range-fits : (rest a : ℕ) → rest < 512 → a ≤ 55 → rest * 2 ^ a % 18446744073709551616 ≡ rest * 2 ^ a
range-fits rest a h few =
    let m : rest * 2 ^ a ≤ 511 * 2 ^ a = mul-le-mul_right (2 ^ a) (let s : rest ≤ 511 = omega arith in s) in
    let p : 2 ^ a ≤ 2 ^ 55 = (pow-few a 55 few).1 in
    mod-eq_of_lt (omega arith)

pub below-from : (number rest a : ℕ) → rest < 512 → a ≤ 55 → nat_lt number (rest * 2 ^ a % 18446744073709551616) ≡ true → number / 2 ^ a < rest
below-from number rest a h few t = div_below number (2 ^ a) rest (pow_pos a) (ltb-true _ _ (rw (range-fits rest a h few) at t))

pub from-below : (number rest a : ℕ) → rest < 512 → a ≤ 55 → number / 2 ^ a < rest → nat_lt number (rest * 2 ^ a % 18446744073709551616) ≡ true
from-below number rest a h few below =
    rw (range-fits rest a h few)
    (let d = div-add-mod' number (2 ^ a) in let m = mod-lt number (pow_pos a) in
    let g = mul-le-mul_right (2 ^ a) (let s : number / 2 ^ a + 1 ≤ rest = omega arith in s) in
    let e : (number / 2 ^ a + 1) * 2 ^ a ≡ number / 2 ^ a * 2 ^ a + 2 ^ a = grind arith in
    lt-ltb _ _ (omega arith))

-- what is left of a number
pub record IsLeft (number rest p : ℕ) : Type 0 where
  pub whole : number - rest * p ≡ (number / p - rest) * p + number % p
  pub below : number % p < p

minus : (q rest p : ℕ) → rest ≤ q → q * p ≡ (q - rest) * p + rest * p
minus q rest p h = let e : q ≡ (q - rest) + rest = omega arith in ap (λ k. k * p) e ∙
    (let d : (q - rest + rest) * p ≡ (q - rest) * p + rest * p = grind arith in d)

pub left : (number rest p : ℕ) → 0 < p → rest ≤ number / p → IsLeft number rest p
left number rest p some h =
    let d = div-add-mod' number p in
    let m = minus (number / p) rest p h in
    record { whole = omega arith; below = mod-lt number some }

pub left-offset : (number rest a : ℕ) → rest ≤ number / 2 ^ a → (number - rest * 2 ^ a) / 2 ^ a ≡ number / 2 ^ a - rest
left-offset number rest a h =
    let l = left number rest (2 ^ a) (pow_pos a) h in ap (λ k. k / 2 ^ a) l.whole ∙ div-mul-add _ (2 ^ a) (number % 2 ^ a) l.below

pub left-stands : (bytes : List ℕ) (r : Register) (rest range : ℕ) → rest ≤ r.number / 2 ^ r.ahead → r.number / 2 ^ r.ahead < rest + range → range < 512 →
    IsRegister bytes r → IsRegister bytes (record { at = r.at; range = range; number = r.number - rest * 2 ^ r.ahead; ahead = r.ahead })
left-stands bytes r rest range enough below high is =
    let l = left r.number rest (2 ^ r.ahead) (pow_pos r.ahead) enough in
    let q : ℕ = r.number / 2 ^ r.ahead - rest in
    let g = mul-le-mul_right (2 ^ r.ahead) (let s : q + 1 ≤ range = omega arith in s) in
    let e : (q + 1) * 2 ^ r.ahead ≡ q * 2 ^ r.ahead + 2 ^ r.ahead = grind arith in
    let small = l.below in
    let whole = l.whole in
    record {
      short = is.short;
      inside = is.inside;
      few = is.few;
      aligned = is.aligned;
      next = ap (λ k. k % 2 ^ r.ahead) whole ∙ (mod-mul-add q (2 ^ r.ahead) (r.number % 2 ^ r.ahead) small ∙ is.next);
      high = omega arith;
      below = omega arith;
    }

pub offset-below : (bytes : List ℕ) (r : Register) → IsRegister bytes r → r.number / 2 ^ r.ahead < r.range
offset-below bytes r is = div_below r.number (2 ^ r.ahead) r.range (pow_pos r.ahead) is.below

-- a number with few bits ahead leaves room for 32 more
pub shift-fits : (bytes : List ℕ) (r : Register) → r.ahead < 16 → IsRegister bytes r → r.number * 4294967296 % 18446744073709551616 ≡ r.number * 4294967296
shift-fits bytes r few is =
    let high = is.high in
    let below = is.below in
    let m : r.range * 2 ^ r.ahead ≤ 1024 * 2 ^ r.ahead = mul-le-mul_right (2 ^ r.ahead) (let s : r.range ≤ 1024 = omega arith in s) in
    let p : 2 ^ r.ahead ≤ 2 ^ 16 = (pow-few r.ahead 16 (omega arith)).1 in
    mod-eq_of_lt (omega arith)
