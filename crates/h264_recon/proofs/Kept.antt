-- Numbers that fit their type are what they were.
use Rattle.std.proofs.Common.{◌≡◌, ℤ, SFits, FitsSigned, w16, w32, to_z, of_z, arith}
use Rattle.std.proofs.lemmas.Int.{ints}

pub kept16 : (x : ℤ) → FitsSigned w16 x → to_z w16 (of_z w16 x) ≡ x
kept16 x fits = omega (arith, ints)

pub kept32 : (x : ℤ) → SFits w32 x → to_z w32 (of_z w32 x) ≡ x
kept32 x fits = omega (arith, ints)
