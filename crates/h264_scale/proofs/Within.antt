use Rattle.std.proofs.Common.{◌≡◌, ◌+◌, ℤ, ℕ, ◌≤◌, refl, arith, pos, negsuc, ◌-ℤ◌}
use Rattle.std.proofs.lemmas.Int.{ints}
use lib.Signed.{shr_z}
use borrow.Author.Differences.{up, down}
use Rattle.h264_scale.specs.Fours.{IsWithin, AreWithin, plus, minus, half, four, summed, transposed}
use Rattle.h264_scale.specs.declared.fours.Four.{Four}
use Rattle.h264_scale.specs.declared.fours.Block.{Block}
use Rattle.h264_plane.specs.Clip.{IsIn}
use Rattle.h264_plane.proofs.Bounds.{in_more, in_sum}

-- half of z, rounded down, for omega
pub half_low : (z : ℤ) → up (shr_z z 2) + up (shr_z z 2) + down z ≤ up z + down (shr_z z 2) + down (shr_z z 2)
half_low (pos n) = omega arith
half_low (negsuc n) = omega arith

pub half_high : (z : ℤ) → up z + down (shr_z z 2) + down (shr_z z 2) ≤ up (shr_z z 2) + up (shr_z z 2) + down z + 1
half_high (pos n) = omega arith
half_high (negsuc n) = omega arith

pub in_difference : (m n : ℕ) (x y : ℤ) → IsIn m x → IsIn n y → IsIn (m + n) (x -ℤ y)
in_difference m n x y p q = record { low = omega (arith, ints); high = omega (arith, ints) }

pub in_half : (n : ℕ) (x : ℤ) → IsIn n x → IsIn n (shr_z x 2)
in_half n x p = record { low = omega (arith, ints, half_low, half_high); high = omega (arith, ints, half_low, half_high) }

pub within_more : (m n : ℕ) (v : Four) → m ≤ n → IsWithin m v → IsWithin n v
within_more m n v p h = record { a = in_more m n v.a p h.a; b = in_more m n v.b p h.b; c = in_more m n v.c p h.c; d = in_more m n v.d p h.d }

pub within_plus : (m n : ℕ) (v w : Four) → IsWithin m v → IsWithin n w → IsWithin (m + n) (plus v w)
within_plus m n v w p q = record {
  a = in_sum m n v.a w.a p.a q.a;
  b = in_sum m n v.b w.b p.b q.b;
  c = in_sum m n v.c w.c p.c q.c;
  d = in_sum m n v.d w.d p.d q.d;
}

pub within_minus : (m n : ℕ) (v w : Four) → IsWithin m v → IsWithin n w → IsWithin (m + n) (minus v w)
within_minus m n v w p q = record {
  a = in_difference m n v.a w.a p.a q.a;
  b = in_difference m n v.b w.b p.b q.b;
  c = in_difference m n v.c w.c p.c q.c;
  d = in_difference m n v.d w.d p.d q.d;
}

pub within_half : (n : ℕ) (v : Four) → IsWithin n v → IsWithin n (half v)
within_half n v p = record { a = in_half n v.a p.a; b = in_half n v.b p.b; c = in_half n v.c p.c; d = in_half n v.d p.d }

pub four_of : {a b c d a' b' c' d' : ℤ} → a ≡ a' → b ≡ b' → c ≡ c' → d ≡ d' → four a b c d ≡ four a' b' c' d'
four_of p q r s = rw (p, q, r, s) refl

abbrev pub rows : Four → Four → Four → Four → Block
rows a b c d = record { r0 = a; r1 = b; r2 = c; r3 = d }

-- two rows with the same parts are one
pub four_is : (v w : Four) → v.a ≡ w.a → v.b ≡ w.b → v.c ≡ w.c → v.d ≡ w.d → v ≡ w
four_is v w p q r s = four_of p q r s

-- the sums of the DC transform stay in the range of the code
pub within_sum : (v w r : Four) → r ≡ plus v w → IsWithin 262144 v → IsWithin 262144 w → IsWithin 1048576 r
within_sum v w r e p q = rw e (within_more 524288 1048576 (plus v w) (omega arith) (within_plus 262144 262144 v w p q))

pub within_difference : (v w r : Four) → r ≡ minus v w → IsWithin 262144 v → IsWithin 262144 w → IsWithin 1048576 r
within_difference v w r e p q = rw e (within_more 524288 1048576 (minus v w) (omega arith) (within_minus 262144 262144 v w p q))

-- the sums of a matrix, and the matrix turned
pub within_summed : (n : ℕ) (m : Block) → AreWithin n m → AreWithin (n + n + (n + n)) (summed m)
within_summed n m h =
    let upper = within_plus n n m.r0 m.r1 h.r0 h.r1 in
    let lower = within_plus n n m.r2 m.r3 h.r2 h.r3 in
    let first = within_minus n n m.r0 m.r1 h.r0 h.r1 in
    let last = within_minus n n m.r2 m.r3 h.r2 h.r3 in
    record {
      r0 = within_plus (n + n) (n + n) _ _ upper lower;
      r1 = within_minus (n + n) (n + n) _ _ upper lower;
      r2 = within_minus (n + n) (n + n) _ _ first last;
      r3 = within_plus (n + n) (n + n) _ _ first last;
    }

pub within_transposed : (n : ℕ) (m : Block) → AreWithin n m → AreWithin n (transposed m)
within_transposed n m h = record {
  r0 = record { a = h.r0.a; b = h.r1.a; c = h.r2.a; d = h.r3.a };
  r1 = record { a = h.r0.b; b = h.r1.b; c = h.r2.b; d = h.r3.b };
  r2 = record { a = h.r0.c; b = h.r1.c; c = h.r2.c; d = h.r3.c };
  r3 = record { a = h.r0.d; b = h.r1.d; c = h.r2.d; d = h.r3.d };
}

pub within_block : (m n : ℕ) (b : Block) → m ≤ n → AreWithin m b → AreWithin n b
within_block m n b p h = record {
  r0 = within_more m n b.r0 p h.r0;
  r1 = within_more m n b.r1 p h.r1;
  r2 = within_more m n b.r2 p h.r2;
  r3 = within_more m n b.r3 p h.r3;
}
