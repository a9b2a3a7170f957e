-- Small truths about tests.
use Rattle.std.proofs.Common.{◌≡◌, ℕ, ◌==◌, ◌||◌, Bool, true, false, refl, arith}
use Rattle.std.proofs.lemmas.Bool.Decides.{nat_tests}

pub is-same : (n : ℕ) → (n == n) ≡ true
is-same n = grind (arith, nat_tests)

pub true-or : (a b : Bool) → a ≡ true → (a || b) ≡ true
true-or true b h = refl
true-or false b h = cc

pub or-true : (a b : Bool) → b ≡ true → (a || b) ≡ true
or-true true b h = refl
or-true false b h = h
