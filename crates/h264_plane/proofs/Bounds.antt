-- Numbers within bounds.
use Rattle.std.proofs.Common.{ℕ, ◌+◌, ◌≤◌, ℤ, ◌+ℤ◌, arith}
use Rattle.std.proofs.lemmas.Int.{ints}
use Rattle.h264_plane.specs.Clip.{IsIn}

pub in_more : (m n : ℕ) (z : ℤ) → m ≤ n → IsIn m z → IsIn n z
in_more m n z p h = record { low = omega (arith, ints); high = omega (arith, ints) }

pub in_sum : (m n : ℕ) (x y : ℤ) → IsIn m x → IsIn n y → IsIn (m + n) (x +ℤ y)
in_sum m n x y p q = record { low = omega (arith, ints); high = omega (arith, ints) }
