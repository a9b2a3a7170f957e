-- Bits that pass from those ahead into the offset, and bits that are loaded.
use Rattle.std.proofs.Common.{◌≡◌, ℕ, suc, ◌+◌, ◌*◌, ◌-◌, ◌/◌, ◌%◌, ◌^◌, ◌<◌, ◌≤◌, List, length, refl, sym, ap, ◌∙◌, arith, inl, inr}
use Rattle.std.proofs.lemmas.Nat.{pow_pos, pow-add, div-mul-add, mod-mul-add, leading_top, div-add-mod'}
use Rattle.std.proofs.lemmas.Bool.{cases_lt}
use Rattle.std.proofs.Math.Nat.{pow-le-pow_right, mul-le-mul_right, mul-lt-mul_of_pos_right}
use lib.Count.{count_leading_zeros}
use Rattle.h264_bits.specs.Peek.{peek_at}
use Rattle.h264_bits.proofs.Peeks.{peek-split, peek-below}
use Rattle.h264_cabac.specs.declared.register.Register.{Register}
use Rattle.h264_cabac.specs.Register.{IsRegister}

-- ---- how often a range is doubled
pub record IsCount (range n : ℕ) : Type 0 where
  pub few : n ≤ 8
  pub low : 256 ≤ range * 2 ^ n
  pub high : range * 2 ^ n < 512

count-from : (range j n : ℕ) → j + n ≡ 8 → 2 ^ j ≤ range → range < 2 ^ suc j → IsCount range n
count-from range j n e low high =
    let whole : 2 ^ j * 2 ^ n ≡ 256 = sym (pow-add 2 j n) ∙ ap (λ k. 2 ^ k) e in
    let more : 2 ^ suc j * 2 ^ n ≡ 512 = sym (pow-add 2 (suc j) n) ∙ ap (λ k. 2 ^ k) (let s : suc j + n ≡ 9 = omega arith in s) in
    let a = mul-le-mul_right (2 ^ n) low in
    let b = mul-lt-mul_of_pos_right high (pow_pos n) in
    record { few = omega arith; low = omega arith; high = omega arith }

-- the zeros before the highest 1 of a range, in nine bits
pub count-zeros : (range : ℕ) → 0 < range → range < 512 → (23 ≤ count_leading_zeros 32 range) × IsCount range (count_leading_zeros 32 range - 23)
count-zeros range some high =
    let t = leading_top 32 range some (omega arith) in
    let sum = t.1 in
    let low = t.2 in
    let small : t.0 < 9 = (elim (cases_lt t.0 9) [
      | inl below ↦ below
      | inr past ↦ absurd (let p : 2 ^ 9 ≤ 2 ^ t.0 = pow-le-pow_right (omega arith) past in omega arith)
    ]) in
    (omega arith, count-from range t.0 (count_leading_zeros 32 range - 23) (omega arith) low t.3)

-- ---- bits that pass into the offset
-- the number is the offset, then the first n of the bits ahead, then m others
pub record IsParted (bytes : List ℕ) (r : Register) (n m : ℕ) : Type 0 where
  pub whole : r.number ≡ (r.number / 2 ^ r.ahead * 2 ^ n + peek_at n bytes r.at) * 2 ^ m + peek_at m bytes (r.at + n)
  pub rest : peek_at m bytes (r.at + n) < 2 ^ m

spread : (q p t b d : ℕ) → q * (b * d) + (p * d + t) ≡ (q * b + p) * d + t
spread q p t b d = grind arith

pub parted : (bytes : List ℕ) (r : Register) (n m : ℕ) → n + m ≡ r.ahead → IsRegister bytes r → IsParted bytes r n m
parted bytes r n m e is =
    let next = is.next in
    let d = div-add-mod' r.number (2 ^ r.ahead) in
    let split = peek-split n m r.ahead bytes r.at (sym e) in
    let power : 2 ^ r.ahead ≡ 2 ^ n * 2 ^ m = ap (λ k. 2 ^ k) (sym e) ∙ pow-add 2 n m in
    let s = spread (r.number / 2 ^ r.ahead) (peek_at n bytes r.at) (peek_at m bytes (r.at + n)) (2 ^ n) (2 ^ m) in
    let first : r.number / 2 ^ r.ahead * 2 ^ r.ahead ≡ r.number / 2 ^ r.ahead * (2 ^ n * 2 ^ m) = ap (λ k. r.number / 2 ^ r.ahead * k) power in
    record { whole = omega arith; rest = peek-below m bytes (r.at + n) }

abbrev pub after : Register → ℕ → Register
after r n = record { at = r.at + n; range = r.range * 2 ^ n; number = r.number; ahead = r.ahead - n }

scaled : (range b d : ℕ) → range * b * d ≡ range * (b * d)
scaled range b d = grind arith

pub passed-stands : (bytes : List ℕ) (r : Register) (n : ℕ) → n ≤ r.ahead → r.at + n ≤ 8 * length bytes → r.range * 2 ^ n < 1024 → IsRegister bytes r →
    IsRegister bytes (after r n)
passed-stands bytes r n enough inside high is =
    let m : ℕ = r.ahead - n in
    let all : n + m ≡ r.ahead = omega arith in
    let p = parted bytes r n m all is in
    let few = is.few in
    let aligned = is.aligned in
    let below = is.below in
    let power : 2 ^ n * 2 ^ m ≡ 2 ^ r.ahead = sym (pow-add 2 n m) ∙ ap (λ k. 2 ^ k) all in
    let place : r.at + n + m ≡ r.at + r.ahead = omega arith in
    record {
      short = is.short;
      inside = inside;
      few = omega arith;
      aligned = ap (λ k. k % 8) place ∙ aligned;
      next = ap (λ k. k % 2 ^ m) p.whole ∙ mod-mul-add _ (2 ^ m) (peek_at m bytes (r.at + n)) p.rest;
      high = high;
      below = (let s = scaled r.range (2 ^ n) (2 ^ m) in let t = ap (λ k. r.range * k) power in omega arith);
    }

pub passed-offset : (bytes : List ℕ) (r : Register) (n : ℕ) → n ≤ r.ahead → IsRegister bytes r →
    r.number / 2 ^ (r.ahead - n) ≡ r.number / 2 ^ r.ahead * 2 ^ n + peek_at n bytes r.at
passed-offset bytes r n enough is =
    let m : ℕ = r.ahead - n in
    let p = parted bytes r n m (omega arith) is in
    ap (λ k. k / 2 ^ m) p.whole ∙ div-mul-add _ (2 ^ m) (peek_at m bytes (r.at + n)) p.rest

-- ---- bits that are loaded
abbrev pub longer : Register → ℕ → Register
longer r next = record { at = r.at; range = r.range; number = r.number * 2 ^ 32 + next; ahead = r.ahead + 32 }

pub record IsLonger (bytes : List ℕ) (r : Register) (next : ℕ) : Type 0 where
  pub stands : IsRegister bytes (longer r next)
  pub same : (r.number * 2 ^ 32 + next) / 2 ^ (r.ahead + 32) ≡ r.number / 2 ^ r.ahead

pub longer-stands : (bytes : List ℕ) (r : Register) (next : ℕ) → r.ahead < 16 → next ≡ peek_at 32 bytes (8 * ((r.at + r.ahead) / 8)) → IsRegister bytes r →
    IsLonger bytes r next
longer-stands bytes r next short e is =
    let aligned = is.aligned in
    let place : 8 * ((r.at + r.ahead) / 8) ≡ r.at + r.ahead = omega arith in
    let e' : next ≡ peek_at 32 bytes (r.at + r.ahead) = e ∙ ap (λ k. peek_at 32 bytes k) place in
    let split = peek-split r.ahead 32 (r.ahead + 32) bytes r.at refl in
    let d = div-add-mod' r.number (2 ^ r.ahead) in
    let ahead = is.next in
    let power = pow-add 2 r.ahead 32 in
    let q : ℕ = r.number / 2 ^ r.ahead in
    let low = peek-below (r.ahead + 32) bytes r.at in
    let s = scaled q (2 ^ r.ahead) (2 ^ 32) in
    let t = ap (λ k. q * k) power in
    let whole : r.number * 2 ^ 32 + next ≡ q * 2 ^ (r.ahead + 32) + peek_at (r.ahead + 32) bytes r.at = omega arith in
    let below = mul-le-mul_right (2 ^ 32) is.below in
    let small = peek-below 32 bytes (r.at + r.ahead) in
    let u = scaled r.range (2 ^ r.ahead) (2 ^ 32) in
    let v = ap (λ k. r.range * k) power in
    record {
      stands = record {
        short = is.short;
        inside = is.inside;
        few = omega arith;
        aligned = omega arith;
        next = ap (λ k. k % 2 ^ (r.ahead + 32)) whole ∙ mod-mul-add q (2 ^ (r.ahead + 32)) _ low;
        high = is.high;
        below = omega arith;
      };
      same = ap (λ k. k / 2 ^ (r.ahead + 32)) whole ∙ div-mul-add q (2 ^ (r.ahead + 32)) _ low;
    }
