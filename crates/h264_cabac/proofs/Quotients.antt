-- Several bins by bypass at once, as a register takes them.
use Rattle.std.proofs.Common.{◌≡◌, ℕ, ◌+◌, ◌*◌, ◌-◌, ◌/◌, ◌%◌, ◌^◌, ◌<◌, ◌≤◌, List, length, Some, sym, ap, ◌∙◌, arith}
use Rattle.std.proofs.lemmas.Nat.{pow_pos, pow-add, div-mul-add, mod-mul-add, div-add-mod', div_below}
use Rattle.std.proofs.Math.Nat.{mul-le-mul_right, mod-eq_of_lt, mod-lt}
use Rattle.h264_bits.specs.Peek.{peek_at}
use Rattle.h264_bits.proofs.Peeks.{pow-few}
use Rattle.h264_cabac.specs.declared.register.Register.{Register}
use Rattle.h264_cabac.specs.Engine.{bypass_number}
use Rattle.h264_cabac.specs.Register.{IsRegister, engine_of}
use Rattle.h264_cabac.proofs.Registers.{parted, passed-offset}
use Rattle.h264_cabac.proofs.Divided.{bypass_number-inside}

-- the range, taken q times, above a bits
pub record IsTaken (number range a n : ℕ) : Type 0 where
  pub enough : number / 2 ^ a / range * range * 2 ^ a ≤ number
  pub small : number / 2 ^ a / range < 2 ^ n
  pub least : number / 2 ^ a / range * range ≤ number / 2 ^ a
  pub room : number < 18446744073709551616

again : (range b d : ℕ) → range * (b * d) ≡ range * b * d
again range b d = grind arith

pub taken-is : (number range ahead n : ℕ) → n ≤ ahead → ahead ≤ 55 → 0 < range → range < 512 → number < range * 2 ^ ahead → IsTaken number range (ahead - n) n
taken-is number range ahead n few most some high below =
    let a : ℕ = ahead - n in
    let power : 2 ^ ahead ≡ 2 ^ n * 2 ^ a = ap (λ k. 2 ^ k) (let e : ahead ≡ n + a = omega arith in e) ∙ pow-add 2 n a in
    let t : range * 2 ^ ahead ≡ range * 2 ^ n * 2 ^ a = ap (λ k. range * k) power ∙ again range (2 ^ n) (2 ^ a) in
    let v : number / 2 ^ a < range * 2 ^ n = div_below number (2 ^ a) (range * 2 ^ n) (pow_pos a) (omega arith) in
    let c : range * 2 ^ n ≡ 2 ^ n * range = grind arith in
    let q : number / 2 ^ a / range < 2 ^ n = div_below (number / 2 ^ a) range (2 ^ n) some (omega arith) in
    let d = div-add-mod' (number / 2 ^ a) range in
    let e = div-add-mod' number (2 ^ a) in
    let m = mul-le-mul_right (2 ^ a) (let l : number / 2 ^ a / range * range ≤ number / 2 ^ a = omega arith in l) in
    let g : range * 2 ^ ahead ≤ 511 * 2 ^ ahead = mul-le-mul_right (2 ^ ahead) (let s : range ≤ 511 = omega arith in s) in
    let p : 2 ^ ahead ≤ 2 ^ 55 = (pow-few ahead 55 most).1 in
    record { enough = omega arith; small = q; least = omega arith; room = omega arith }

pub taken-fits : (number range a n : ℕ) → IsTaken number range a n →
    number / 2 ^ a / range * range * 2 ^ a % 18446744073709551616 ≡ number / 2 ^ a / range * range * 2 ^ a
taken-fits number range a n t = let e = t.enough in let r = t.room in mod-eq_of_lt (omega arith)

-- the register after n bins
abbrev pub reduced_by : Register → ℕ → Register
reduced_by r n = record {
  at = r.at + n;
  range = r.range;
  ahead = r.ahead - n;
  number = r.number - r.number / 2 ^ (r.ahead - n) / r.range * r.range * 2 ^ (r.ahead - n);
}

pub record IsReduced (bytes : List ℕ) (r : Register) (n : ℕ) : Type 0 where
  pub stands : IsRegister bytes (reduced_by r n)
  pub offset : (reduced_by r n).number / 2 ^ (r.ahead - n) ≡ r.number / 2 ^ (r.ahead - n) % r.range

minus : (v q m d k : ℕ) → v ≡ q + m → v * d + k - q * d ≡ m * d + k
minus v q m d k e = let f : v * d ≡ q * d + m * d = ap (λ x. x * d) e ∙ (let g : (q + m) * d ≡ q * d + m * d = grind arith in g) in omega arith

pub reduced-is : (bytes : List ℕ) (r : Register) (n : ℕ) → n ≤ r.ahead → r.at + n ≤ 8 * length bytes → 0 < r.range → IsRegister bytes r → IsReduced bytes r n
reduced-is bytes r n few inside some is =
    let m : ℕ = r.ahead - n in
    let v : ℕ = r.number / 2 ^ m in
    let p = parted bytes r n m (omega arith) is in
    let o = passed-offset bytes r n few is in
    let k : ℕ = peek_at m bytes (r.at + n) in
    let whole : r.number ≡ v * 2 ^ m + k = p.whole ∙ ap (λ x. x * 2 ^ m + k) (sym o) in
    let d = div-add-mod' v r.range in
    let left : r.number - v / r.range * r.range * 2 ^ m ≡ v % r.range * 2 ^ m + k =
    ap (λ x. x - v / r.range * r.range * 2 ^ m) whole ∙ minus v (v / r.range * r.range) (v % r.range) (2 ^ m) k (sym d) in
    let below = mod-lt v some in
    let g = mul-le-mul_right (2 ^ m) (let s : v % r.range + 1 ≤ r.range = omega arith in s) in
    let e : (v % r.range + 1) * 2 ^ m ≡ v % r.range * 2 ^ m + 2 ^ m = grind arith in
    let small = p.rest in
    let most = is.few in
    let aligned = is.aligned in
    let place : r.at + n + m ≡ r.at + r.ahead = omega arith in
    record {
      stands = record {
        short = is.short;
        inside = inside;
        few = omega arith;
        aligned = ap (λ x. x % 8) place ∙ aligned;
        next = ap (λ x. x % 2 ^ m) left ∙ mod-mul-add (v % r.range) (2 ^ m) k small;
        high = is.high;
        below = omega arith;
      };
      offset = ap (λ x. x / 2 ^ m) left ∙ div-mul-add (v % r.range) (2 ^ m) k small;
    }

-- what n bins are
pub number-is : (bytes : List ℕ) (r : Register) (n : ℕ) → n ≤ r.ahead → r.at + n ≤ 8 * length bytes → 0 < r.range → r.number / 2 ^ r.ahead < r.range →
    IsRegister bytes r → bypass_number n 0 (engine_of bytes r) ≡ Some (r.number / 2 ^ (r.ahead - n) / r.range, engine_of bytes (reduced_by r n))
number-is bytes r n few inside some below is =
    let o = passed-offset bytes r n few is in
    let d = (reduced-is bytes r n few inside some is).offset in
    bypass_number-inside n 0 (engine_of bytes r) below inside ∙
    (ap (λ v. Some (0 * 2 ^ n + v / r.range, record { bytes = bytes; at = r.at + n; range = r.range; offset = v % r.range })) (sym o) ∙
    (ap (λ v. Some (v, record { bytes = bytes; at = r.at + n; range = r.range; offset = r.number / 2 ^ (r.ahead - n) % r.range }))
    (let z : 0 * 2 ^ n ≡ 0 = grind arith in let y : 0 * 2 ^ n + r.number / 2 ^ (r.ahead - n) / r.range ≡ r.number / 2 ^ (r.ahead - n) / r.range =
    omega arith in y) ∙
    ap (λ v. Some (r.number / 2 ^ (r.ahead - n) / r.range, record { bytes = bytes; at = r.at + n; range = r.range; offset = v })) (sym d)))
