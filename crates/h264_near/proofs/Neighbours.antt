-- What stands around the macroblock that is being decoded, by the macroblocks next to it.
use Rattle.std.proofs.Common.{◌≡◌, ℕ, zero, suc, ◌+◌, ◌*◌, ◌-◌, ◌/◌, ◌%◌, ◌<◌, ◌≤◌, true, nat_lt, List, [], ◌∷◌, ◌++◌, length, Option, None, refl, ap, sym}
use Rattle.std.proofs.Common.{◌∙◌, subst, arith, lt-ltb, length-append, ◌⊎◌, inl, inr, IsTrue, is_some}
use Rattle.std.specs.Option.{option_and_then}
use Rattle.std.specs.List.{slice_get}
use Rattle.std.proofs.lemmas.Option.{slice_get_past}
use Rattle.std.proofs.Math.Nat.{mod-lt}
use Rattle.h264_near.specs.Place.{part_at, around}
use Rattle.h264_near.specs.Raster.{before, last_in, last_left, last_corner}
use Rattle.h264_near.proofs.Places.{front, seam, parts, quotient, remainder, part-below}
use Rattle.std.proofs.lemmas.Bool.{le-ltb}

-- places outside the picture
no-column : {M B : Type 0} (side : ℕ) (part : ℕ → ℕ → M → Option B) (width : ℕ) (whole : List M) (i j : ℕ) → i ≡ 0 → part_at side part width whole i j ≡ None
unfolding part_at
no-column side part width whole i j e = rw e refl

no-row : {M B : Type 0} (side : ℕ) (part : ℕ → ℕ → M → Option B) (width : ℕ) (whole : List M) (i j : ℕ) → j ≡ 0 → part_at side part width whole i j ≡ None
unfolding part_at
no-row side part width whole zero j e = refl
no-row side part width whole (suc i) j e = rw e refl

past-row : {M B : Type 0} (side : ℕ) (part : ℕ → ℕ → M → Option B) (width : ℕ) (whole : List M) (i j : ℕ) → width * side < i →
    part_at side part width whole i j ≡ None
unfolding part_at
past-row side part width whole zero j h = refl
past-row side part width whole (suc i) zero h = refl
past-row side part width whole (suc i) (suc j) h = rw (le-ltb i (width * side) (omega arith)) refl

-- a place in a macroblock of which column and row are known
placed : {M B : Type 0} (side : ℕ) (part : ℕ → ℕ → M → Option B) (width : ℕ) (whole : List M) (c r x y i j : ℕ) → c < width → x < side → y < side →
    i ≡ suc (c * side + x) → j ≡ suc (r * side + y) → part_at side part width whole i j ≡ option_and_then (part x y) (slice_get whole (r * width + c))
unfolding part_at
placed side part width whole c r x y i j h hx hy ei ej =
    let inside : nat_lt (c * side + x) (width * side) ≡ true = lt-ltb (c * side + x) (width * side) (part-below c width side x h hx) in
    let cx : (c * side + x) % side ≡ x = remainder (c * side + x) side c x hx refl in
    let cy : (r * side + y) % side ≡ y = remainder (r * side + y) side r y hy refl in
    let dx : (c * side + x) / side ≡ c = quotient (c * side + x) side c x hx refl in
    let dy : (r * side + y) / side ≡ r = quotient (r * side + y) side r y hy refl in
    rw (ei, ej, inside, cx, cy, dx, dy) refl

pub last-above : {M : Type 0} (width : ℕ) (picture : List M) (c : ℕ) → length picture % width ≤ c →
    last_in width picture c ≡ option_and_then (λ r. slice_get picture (r * width + c)) (before (length picture / width))
unfolding last_in
last-above width picture c h = rw (le-ltb c (length picture % width) h) refl

module _ {M B : Type 0} (side : ℕ) (part : ℕ → ℕ → M → Option B) (width : ℕ) (picture : List M) (current : M) (some : 0 < width) (whole : 0 < side) where
  -- its own parts
  pub own : (x y : ℕ) → x < side → y < side → around side part width picture current (suc x) (suc y) ≡ part x y current
  unfolding around
  own x y hx hy =
      placed side part width (picture ++ current ∷ []) (length picture % width) (length picture / width) x y _ _ (mod-lt (length picture) some) hx hy
      (omega arith) (omega arith)
      ∙ ap (option_and_then (part x y)) (seam picture current [] (length picture / width * width + length picture % width) (sym (parts (length picture) width)))

  -- a part of an earlier macroblock
  earlier : (c r x y i j : ℕ) → c < width → r * width + c < length picture → x < side → y < side → i ≡ suc (c * side + x) → j ≡ suc (r * side + y) →
      part_at side part width (picture ++ current ∷ []) i j ≡ option_and_then (part x y) (slice_get picture (r * width + c))
  earlier c r x y i j h k hx hy ei ej =
      placed side part width (picture ++ current ∷ []) c r x y i j h hx hy ei ej
      ∙ ap (option_and_then (part x y)) (front picture _ (r * width + c) k)

  -- the column to the left
  left-by : (c y : ℕ) → length picture % width ≡ c → y < side →
      part_at side part width (picture ++ current ∷ []) (c * side + 0) (length picture / width * side + suc y) ≡
      option_and_then (part (side - 1) y) (option_and_then (λ c. slice_get picture (length picture / width * width + c)) (before c))
  left-by zero y e hy = no-column side part width _ _ _ (omega arith)
  left-by (suc c) y e hy =
      let p = parts (length picture) width in
      let l = mod-lt (length picture) some in
      earlier c (length picture / width) (side - 1) y _ _ (omega arith) (omega arith) (omega arith) hy (omega arith) (omega arith)

  pub left-of : (y : ℕ) → y < side → around side part width picture current 0 (suc y) ≡ option_and_then (part (side - 1) y) (last_left width picture)
  unfolding around last_left
  left-of y hy = left-by (length picture % width) y refl hy

  -- the row above
  upper-by : (c x r i : ℕ) → length picture / width ≡ r → length picture % width ≤ c → c < width → c ≤ length picture % width + 1 → x < side →
      i ≡ suc (c * side + x) → part_at side part width (picture ++ current ∷ []) i (r * side + 0) ≡
      option_and_then (part x (side - 1)) (option_and_then (λ r. slice_get picture (r * width + c)) (before r))
  upper-by c x zero i e h k n hx ei = no-row side part width _ _ _ (omega arith)
  upper-by c x (suc r) i e h k n hx ei =
      let p = parts (length picture) width in
      let q : length picture ≡ suc r * width + length picture % width = subst (λ q. length picture ≡ q * width + length picture % width) e p in
      earlier c r x (side - 1) _ _ k (omega arith) hx (omega arith) ei (omega arith)

  pub upper-of : (x : ℕ) → x < side → around side part width picture current (suc x) 0 ≡
      option_and_then (part x (side - 1)) (last_in width picture (length picture % width))
  unfolding around
  upper-of x hx =
      let l = mod-lt (length picture) some in
      upper-by (length picture % width) x (length picture / width) _ refl (omega arith) l (omega arith) hx (omega arith)
      ∙ ap (option_and_then (part x (side - 1))) (sym (last-above width picture (length picture % width) (omega arith)))

  pub next-of : length picture % width + 1 < width →
      around side part width picture current (suc side) 0 ≡ option_and_then (part 0 (side - 1)) (last_in width picture (length picture % width + 1))
  unfolding around
  next-of h =
      upper-by (length picture % width + 1) 0 (length picture / width) _ refl (omega arith) h (omega arith) whole (omega arith)
      ∙ ap (option_and_then (part 0 (side - 1))) (sym (last-above width picture (length picture % width + 1) (omega arith)))

  full-row : length picture % width + 1 ≡ width → (x : ℕ) → side < x → width * side < length picture % width * side + x
  full-row e x h = let d : (length picture % width + 1) * side ≡ width * side = ap (λ w. w * side) e in omega arith

  pub past-of : length picture % width + 1 ≡ width → around side part width picture current (suc side) 0 ≡ None
  unfolding around
  past-of e = past-row side part width _ _ _ (full-row e (suc side) (omega arith))

  -- the macroblock to the right is not decoded
  pub right-of : (y : ℕ) → y < side → around side part width picture current (suc side) (suc y) ≡ None
  unfolding around
  right-of y hy = go (step (length picture % width) width (mod-lt (length picture) some))
    where
      step : (a b : ℕ) → a < b → (a + 1 < b) ⊎ (a + 1 ≡ b)
      step a b h = grind arith

      go : (length picture % width + 1 < width) ⊎ (length picture % width + 1 ≡ width) →
          part_at side part width (picture ++ current ∷ []) (length picture % width * side + suc side) (length picture / width * side + suc y) ≡ None
      go (inr e) = past-row side part width _ _ _ (full-row e (suc side) (omega arith))
      go (inl h) =
          let p = parts (length picture) width in
          let l = length-append picture (current ∷ []) in
          placed side part width (picture ++ current ∷ []) (length picture % width + 1) (length picture / width) 0 y _ _ h whole hy (omega arith) (omega arith)
          ∙ ap (option_and_then (part 0 y)) (slice_get_past (picture ++ current ∷ []) (length picture / width * width + (length picture % width + 1))
          (omega arith))

  -- the corner
  corner-by : (c r : ℕ) → length picture % width ≡ c → length picture / width ≡ r →
      part_at side part width (picture ++ current ∷ []) (c * side + 0) (r * side + 0) ≡
      option_and_then (part (side - 1) (side - 1)) (option_and_then (λ c. option_and_then (λ r. slice_get picture (r * width + c)) (before r)) (before c))
  corner-by zero r e f = no-column side part width _ _ _ (omega arith)
  corner-by (suc c) zero e f = no-row side part width _ _ _ (omega arith)
  corner-by (suc c) (suc r) e f =
      let l = mod-lt (length picture) some in
      let p = parts (length picture) width in
      let q : length picture ≡ suc r * width + length picture % width = subst (λ q. length picture ≡ q * width + length picture % width) f p in
      earlier c r (side - 1) (side - 1) _ _ (omega arith) (omega arith) (omega arith) (omega arith) (omega arith) (omega arith)

  pub corner-of : around side part width picture current 0 0 ≡ option_and_then (part (side - 1) (side - 1)) (last_corner width picture)
  unfolding around last_corner
  corner-of = corner-by (length picture % width) (length picture / width) refl refl

-- something that stands before place n is there only if n is above 0
pub some-before : {A : Type 0} (n : ℕ) (f : ℕ → Option A) → IsTrue (is_some (option_and_then f (before n))) → 0 < n
some-before zero f h = absurd (grind (arith, h))
some-before (suc n) f h = omega arith

pub left-there : {M : Type 0} (w : ℕ) (xs : List M) → IsTrue (is_some (last_left w xs)) → 0 < length xs % w
unfolding last_left
left-there w xs h = some-before (length xs % w) _ h

pub above-there : {M : Type 0} (w : ℕ) (xs : List M) (c : ℕ) → length xs % w ≤ c → IsTrue (is_some (last_in w xs c)) → 0 < length xs / w
above-there w xs c k h = some-before (length xs / w) (λ r. slice_get xs (r * w + c)) (rw (last-above w xs c k) at h)
