-- The slope of a pair, as the code computes it.
use Rattle.std.proofs.Common.{◌≡◌, ℕ, suc, ◌+◌, ◌*◌, ◌≤◌, ℤ, pos, negsuc, neg_ℤ, ◌*ℤ◌, ◌+ℤ◌, ◌≤ℤ◌, arith, refl, ap, ◌∙◌}
use Rattle.std.specs.Int.{w8, w32}
use Rattle.std.proofs.lemmas.Int.{ints}
use Rattle.std.proofs.lemmas.Nat.{mul-le}
use borrow.Author.Differences.{up, down}
use lib.Signed.{shr_z}
use mir.Val.{SFits, to_z, of_z}

-- a number lies in -n .. n
pub record IsWithin (n : ℕ) (z : ℤ) : Type 0 where
  pub low : neg_ℤ (pos n) ≤ℤ z
  pub high : z ≤ℤ pos n

shr4_low : (z : ℤ) → 16 * up (shr_z z 16) + down z ≤ up z + 16 * down (shr_z z 16)
shr4_low (pos n) = omega arith
shr4_low (negsuc n) = omega arith

shr4_high : (z : ℤ) → up z + 16 * down (shr_z z 16) ≤ 16 * up (shr_z z 16) + down z + 15
shr4_high (pos n) = omega arith
shr4_high (negsuc n) = omega arith

within-shr4 : (n : ℕ) (z : ℤ) → IsWithin (16 * n) z → IsWithin n (shr_z z 16)
within-shr4 n z h = record { low = omega (arith, ints, shr4_low, shr4_high); high = omega (arith, ints, shr4_low, shr4_high) }

within-product : (m n : ℕ) (x : ℤ) (b : ℕ) → IsWithin m x → b ≤ n → IsWithin (m * n) (x *ℤ pos b)
within-product m n (pos a) b p q =
    let h = mul-le a b m n (omega (arith, ints)) q in record { low = omega (arith, ints, h); high = omega (arith, ints, h) }
within-product m n (negsuc a) b p q =
    let h = mul-le (suc a) b m n (omega (arith, ints)) q in record { low = omega (arith, ints, h); high = omega (arith, ints, h) }

pub record IsSlope (m : ℤ) (q : ℕ) (z : ℤ) : Type 0 where
  pub is : z ≡ shr_z (m *ℤ pos q) 16
  pub within : IsWithin 408 z

pub slope-is : (m : ℤ) (q : ℕ) → SFits w8 m → q ≤ 51 →
    IsSlope m q (to_z w32 (of_z w32 (shr_z (to_z w32 (of_z w32 (to_z w32 (of_z w32 (to_z w8 (of_z w8 m))) *ℤ to_z w32 q))) 16)))
slope-is m q fits small =
    let a : to_z w32 (of_z w32 (to_z w8 (of_z w8 m))) ≡ m = omega (arith, ints) in
    let b : to_z w32 q ≡ pos q = omega (arith, ints) in
    let product : IsWithin 6528 (m *ℤ pos q) = within-product 128 51 m q (record { low = omega (arith, ints); high = omega (arith, ints) }) small in
    let kept : to_z w32 (of_z w32 (m *ℤ pos q)) ≡ m *ℤ pos q = omega (arith, ints) in
    let bound : IsWithin 408 (shr_z (m *ℤ pos q) 16) = within-shr4 408 (m *ℤ pos q) product in
    let last : to_z w32 (of_z w32 (shr_z (m *ℤ pos q) 16)) ≡ shr_z (m *ℤ pos q) 16 = omega (arith, ints) in
    rw (a, b, kept, last) (record { is = refl; within = bound })

pub pre-is : (m n : ℤ) (q : ℕ) (z : ℤ) → SFits w8 n → IsSlope m q z →
    to_z w32 (of_z w32 (z +ℤ to_z w32 (of_z w32 (to_z w8 (of_z w8 n))))) ≡ shr_z (m *ℤ pos q) 16 +ℤ n
pre-is m n q z fits s =
    let low = s.within.low in
    let high = s.within.high in
    let sum : to_z w32 (of_z w32 (z +ℤ to_z w32 (of_z w32 (to_z w8 (of_z w8 n))))) ≡ z +ℤ n = omega (arith, ints) in
    sum ∙ ap (λ z. z +ℤ n) s.is
