-- Elements of lists, and the places of macroblocks.
use Rattle.std.proofs.Common.{◌≡◌, ℕ, zero, suc, ◌+◌, ◌*◌, ◌/◌, ◌%◌, ◌<◌, ◌≤◌, List, [], ◌∷◌, ◌++◌, length, take, get_or, Some, refl, ap, arith}
use Rattle.std.specs.List.{slice_get}
use Rattle.std.proofs.lemmas.Nat.{div-mul-add, mod-mul-add}
use Rattle.std.proofs.Math.Nat.{div-add-mod, mul-le-mul_right}
use Rattle.h264_plane.specs.Blocks.{number_of}

pub front : {A : Type 0} (xs ys : List A) (i : ℕ) → i < length xs → slice_get (xs ++ ys) i ≡ slice_get xs i
front [] ys i h = absurd (omega arith)
front (x ∷ xs) ys zero h = refl
front (x ∷ xs) ys (suc i) h = front xs ys i (omega arith)

pub seam : {A : Type 0} (xs : List A) (y : A) (ys : List A) (i : ℕ) → i ≡ length xs → slice_get (xs ++ y ∷ ys) i ≡ Some y
seam [] y ys i h = rw h refl
seam (x ∷ xs) y ys zero h = absurd (omega arith)
seam (x ∷ xs) y ys (suc i) h = seam xs y ys i (omega arith)

pub taken : {A : Type 0} (d : A) (xs : List A) (b i : ℕ) → i < b → b ≤ length xs → slice_get (take b xs) i ≡ Some (get_or xs i d)
taken d [] b i h k = absurd (omega arith)
taken d (x ∷ xs) zero i h k = absurd (omega arith)
taken d (x ∷ xs) (suc b) zero h k = refl
taken d (x ∷ xs) (suc b) (suc i) h k = taken d xs b i (omega arith) (omega arith)

pub length-taken : {A : Type 0} (xs : List A) (b : ℕ) → b ≤ length xs → length (take b xs) ≡ b
length-taken [] zero k = refl
length-taken [] (suc b) k = absurd (omega arith)
length-taken (x ∷ xs) zero k = refl
length-taken (x ∷ xs) (suc b) k = ap suc (length-taken xs b (omega arith))

-- a number by its quotient and its rest
pub parts : (m w : ℕ) → m ≡ m / w * w + m % w
parts m w = let h = div-add-mod m w in omega arith

pub quotient : (m w q r : ℕ) → r < w → m ≡ q * w + r → m / w ≡ q
quotient m w q r h e = rw e (div-mul-add q w r h)

pub remainder : (m w q r : ℕ) → r < w → m ≡ q * w + r → m % w ≡ r
remainder m w q r h e = rw e (mod-mul-add q w r h)

-- a part of one of so many macroblocks
pub part-below : (c width side x : ℕ) → c < width → x < side → c * side + x < width * side
part-below c width side x h k =
    let l : suc c * side ≤ width * side = mul-le-mul_right side (let r : suc c ≤ width = omega arith in r) in
    omega arith

-- the number of a block is below 16
pub number-below : (x y : ℕ) → x < 4 → y < 4 → number_of x y < 16
unfolding number_of
number-below x y h k = omega arith

pub number-at-place : (k : ℕ) → k < 16 → number_of (k % 4) (k / 4) < 16
number-at-place k h = number-below (k % 4) (k / 4) (omega arith) (omega arith)
