use Rattle.std.proofs.Common.{◌≡◌, ◌≢◌, ◌⊎◌, ℕ, ◌+◌, ◌*◌, ◌<◌, List, length, slice_set, arith, refl, get_or-set_same, get_or-set_other, ⊎_elim}
use Rattle.std.proofs.lemmas.Nat.{mul-add-lt, same_from_place}
use Rattle.h264_plane.specs.Samples.{IsSet}

-- two places of a grid have the same index only where they are the same
pub places_differ : (w x y u v : ℕ) → x < w → u < w → (u ≢ x) ⊎ (v ≢ y) → v * w + u ≢ y * w + x
places_differ w x y u v p q differ same =
    let one = same_from_place v u y x w q p same in
    ⊎_elim (λ f. f one.1) (λ f. f one.0) differ

-- a write at y * width + x is IsSet
pub set_is : (w h x y : ℕ) (xs : List ℕ) (s : ℕ) → length xs ≡ h * w → x < w → y < h →
    IsSet (record { width = w; height = h; list = xs }) (record { width = w; height = h; list = slice_set xs (y * w + x) s }) x y s
set_is w h x y xs s e p q =
    let here : y * w + x < length xs = omega (arith, mul-add-lt y w x h q p) in
    record {
      width = refl;
      height = refl;
      written = rw get_or-set_same refl;
      kept = λ u v a b differ. let other : v * w + u ≢ y * w + x = places_differ w x y u v p a differ in rw get_or-set_other refl;
    }
