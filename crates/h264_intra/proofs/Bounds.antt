use Rattle.std.proofs.Common.{◌≡◌, ℕ, suc, ◌+◌, ◌*◌, ◌≤◌, arith, ℤ, pos, negsuc, ◌+ℤ◌, ◌*ℤ◌, to_z, of_z, w32}
use Rattle.std.proofs.lemmas.Int.{ints}
use Rattle.std.proofs.lemmas.Nat.{mul-le}
use lib.Signed.{shr_z}
use borrow.Author.Differences.{up, down}
use Rattle.h264_plane.specs.Clip.{IsIn}

-- a shift by six places, for omega
shr6_low : (z : ℤ) → 64 * up (shr_z z 64) + down z ≤ up z + 64 * down (shr_z z 64)
shr6_low (pos n) = omega arith
shr6_low (negsuc n) = omega arith

shr6_high : (z : ℤ) → up z + 64 * down (shr_z z 64) ≤ 64 * up (shr_z z 64) + down z + 63
shr6_high (pos n) = omega arith
shr6_high (negsuc n) = omega arith

pub in_shr6 : (n : ℕ) (z : ℤ) → IsIn (64 * n) z → IsIn n (shr_z z 64)
in_shr6 n z h = record { low = omega (arith, ints, shr6_low, shr6_high); high = omega (arith, ints, shr6_low, shr6_high) }

pub in_product : (m n : ℕ) (x y : ℤ) → IsIn m x → IsIn n y → IsIn (m * n) (x *ℤ y)
in_product m n (pos a) (pos b) p q =
    let h = mul-le a b m n (omega (arith, ints)) (omega (arith, ints)) in
    record { low = omega (arith, ints, h); high = omega (arith, ints, h) }
in_product m n (pos a) (negsuc b) p q =
    let h = mul-le a (suc b) m n (omega (arith, ints)) (omega (arith, ints)) in
    record { low = omega (arith, ints, h); high = omega (arith, ints, h) }
in_product m n (negsuc a) (pos b) p q =
    let h = mul-le (suc a) b m n (omega (arith, ints)) (omega (arith, ints)) in
    record { low = omega (arith, ints, h); high = omega (arith, ints, h) }
in_product m n (negsuc a) (negsuc b) p q =
    let h = mul-le (suc a) (suc b) m n (omega (arith, ints)) (omega (arith, ints)) in
    record { low = omega (arith, ints, h); high = omega (arith, ints, h) }

-- b of plane prediction, as the code computes it
pub slope_in : (w g : ℤ) → IsIn 34 w → IsIn 16320 g →
    IsIn 16320 (to_z w32 (of_z w32 (shr_z (to_z w32 (of_z w32 (to_z w32 (of_z w32 (w *ℤ g)) +ℤ pos 32))) 64)))
slope_in w g p q =
    let product = in_product 34 16320 w g p q in
    let kept : to_z w32 (of_z w32 (w *ℤ g)) ≡ w *ℤ g = omega (arith, ints) in
    let sum : to_z w32 (of_z w32 (w *ℤ g +ℤ pos 32)) ≡ w *ℤ g +ℤ pos 32 = omega (arith, ints) in
    let bound : IsIn 16320 (shr_z (w *ℤ g +ℤ pos 32) 64) = in_shr6 16320 _ (record { low = omega (arith, ints); high = omega (arith, ints) }) in
    let last : to_z w32 (of_z w32 (shr_z (w *ℤ g +ℤ pos 32) 64)) ≡ shr_z (w *ℤ g +ℤ pos 32) 64 = omega (arith, ints) in
    rw (kept, sum, last) bound

-- a rise of a plane, as the code computes it
pub product_kept : (b z : ℤ) → IsIn 16320 b → IsIn 8 z → IsIn 130560 (to_z w32 (of_z w32 (b *ℤ z)))
product_kept b z p q =
    let product = in_product 16320 8 b z p q in
    let kept : to_z w32 (of_z w32 (b *ℤ z)) ≡ b *ℤ z = omega (arith, ints) in
    rw kept product

shr5_low : (z : ℤ) → 32 * up (shr_z z 32) + down z ≤ up z + 32 * down (shr_z z 32)
shr5_low (pos n) = omega arith
shr5_low (negsuc n) = omega arith

shr5_high : (z : ℤ) → up z + 32 * down (shr_z z 32) ≤ 32 * up (shr_z z 32) + down z + 31
shr5_high (pos n) = omega arith
shr5_high (negsuc n) = omega arith

-- a sample of a plane before it is clipped, as the code computes it
pub shifted_is : (a r s : ℤ) → IsIn 8160 a → IsIn 130560 r → IsIn 130560 s →
    to_z w32 (of_z w32 (shr_z (to_z w32 (of_z w32
    (to_z w32 (of_z w32 (to_z w32 (of_z w32 (to_z w32 (of_z w32 a) +ℤ to_z w32 (of_z w32 r))) +ℤ to_z w32 (of_z w32 s))) +ℤ pos 16))) 32))
    ≡ shr_z (a +ℤ r +ℤ s +ℤ pos 16) 32
shifted_is a r s p q t =
    let sum : to_z w32 (of_z w32 (to_z w32 (of_z w32 (to_z w32 (of_z w32 (to_z w32 (of_z w32 a) +ℤ to_z w32 (of_z w32 r))) +ℤ to_z w32 (of_z w32 s))) +ℤ pos
    16)) ≡ a +ℤ r +ℤ s +ℤ pos 16 = omega (arith, ints) in
    rw sum (omega (arith, ints, shr5_low, shr5_high))
