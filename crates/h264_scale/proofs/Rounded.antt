use Rattle.std.proofs.Common.{◌≡◌, List, [], ◌∷◌, length, get_or, pos, ℕ, ℤ, zero, suc, ◌<◌, refl, arith, to_z, of_z}
use Rattle.std.proofs.lemmas.Int.{ints}
use Rattle.std.specs.Int.{w16, w32}
use Rattle.h264_scale.specs.Residual.{AreIn}
use Rattle.h264_scale.specs.Fours.{IsShort, rounded}
use Rattle.h264_plane.specs.Clip.{IsIn}

-- a last value in range, passed on and rounded
pub rounded_is : {r h : ℤ} → IsIn 512 r → IsShort h → r ≡ rounded (to_z w32 (of_z w32 h)) → to_z w16 (of_z w16 r) ≡ rounded h
rounded_is {r} {h} p q e =
    let same : to_z w32 (of_z w32 h) ≡ h = omega (arith, ints) in
    let value : r ≡ rounded h = rw same at e in
    rw (← value) (omega (arith, ints))

pub cons_is : {x y : ℤ} {xs ys : List ℤ} → x ≡ y → xs ≡ ys → x ∷ xs ≡ y ∷ ys
cons_is p q = rw (p, q) refl

-- a number of 16 bits, passed on
pub kept_is : {r x : ℤ} → IsShort x → r ≡ to_z w32 (of_z w32 x) → to_z w16 (of_z w16 r) ≡ x
kept_is {r} {x} p e = omega (arith, ints)

pub short_kept : {x : ℤ} → IsShort x → IsShort (to_z w32 (of_z w32 x))
short_kept {x} p = let same : to_z w32 (of_z w32 x) ≡ x = omega (arith, ints) in rw same p

pub bound_kept : {r : ℤ} → IsIn 512 r → IsIn 512 (to_z w16 (of_z w16 r))
bound_kept {r} p = record { low = omega (arith, ints); high = omega (arith, ints) }

pub all_none : AreIn 512 []
all_none = record { each = λ k q. absurd (let f : ⊥ = omega arith in f) }

next_in : (x : ℤ) (xs : List ℤ) → IsIn 512 x → AreIn 512 xs → (k : ℕ) → k < length (x ∷ xs) → IsIn 512 (get_or (x ∷ xs) k (pos 0))
next_in x xs p ps zero q = p
next_in x xs p ps (suc k) q = ps.each k (omega arith)

pub all_cons : {x : ℤ} {xs : List ℤ} → IsIn 512 x → AreIn 512 xs → AreIn 512 (x ∷ xs)
all_cons {x} {xs} p ps = record { each = next_in x xs p ps }
