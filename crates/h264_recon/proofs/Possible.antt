-- Modes that were read refer to sides that there are (8.3.1.2, 8.3.3, 8.3.4).
use Rattle.std.proofs.Common.{◌≡◌, ℕ, zero, suc, ◌+◌, ◌*◌, ◌%◌, ◌<◌, ◌≤◌, ◌==◌, Bool, true, false, ◌&&◌, ◌||◌, not, nat_lt, IsTrue, List, [], ◌∷◌, length}
use Rattle.std.proofs.Common.{take, get_or, Option, Some, None, ℤ, refl, arith, lit<, if◌then◌else◌}
use Rattle.std.specs.List.{slice_get}
use Rattle.std.specs.Option.{is_some, option_and_then}
use Rattle.std.proofs.lemmas.Bool.{lt-ltb}
use Rattle.std.proofs.lemmas.List.{get_or_default}
use Rattle.std.proofs.lemmas.Bool.Decides.{nat_tests}
use Rattle.h264_plane.specs.Blocks.{number_of, column_of, row_of}
use Rattle.h264_intra.specs.Luma4.{is_possible4}
use Rattle.h264_intra.specs.Luma16.{is_possible16}
use Rattle.h264_intra.specs.Chroma.{is_possible_chroma}
use Rattle.h264_intra.specs.declared.luma4.Intra4x4PredMode.{Intra4x4PredMode}
use Rattle.h264_intra.specs.declared.luma4.Intra4x4PredMode.TheVariants.{Vertical, Horizontal, Dc, DiagonalDownLeft, DiagonalDownRight, VerticalRight}
use Rattle.h264_intra.specs.declared.luma4.Intra4x4PredMode.TheVariants.{HorizontalDown, VerticalLeft, HorizontalUp}
use Rattle.h264_intra.specs.declared.luma16.Intra16x16PredMode.{Intra16x16PredMode}
use Rattle.h264_intra.specs.declared.chroma.IntraChromaPredMode.{IntraChromaPredMode}
use Rattle.h264_intra.specs.declared.sides.Sides.{Sides}
use Rattle.h264_intra.specs.declared.sides.Sides4.{Sides4}
use Rattle.h264_near.specs.Coded as coded
use Rattle.h264_near.specs.Coded.{CodedMacroblock, mode_part, mode_in, is_intra}
use Rattle.h264_near.specs.Intra.{with_modes, block_samples, macroblock_samples}
use Rattle.h264_near.specs.Place.{around}
use Rattle.h264_near.specs.Raster.{last_in, last_left}
use Rattle.h264_near.proofs.Neighbours.{left-of, upper-of, corner-of}
use Rattle.h264_near.proofs.Places.{length-taken}
use Rattle.h264_vectors.specs.declared.slice.SliceContext.{SliceContext}
use Rattle.h264_mbsyntax.specs.Intra.{fits_block}
use Rattle.h264_mbsyntax.specs.Possible as read
use Rattle.h264_recon.specs.Blocks.{sides_of, sides4_of, left_there, above_there, corner_there}
use Rattle.h264_recon.specs.Constructed.{IsPossible, IsPossibleLuma, IsAllowed, mode_at}
use Rattle.h264_base.specs.declared.weight.Weights.{Weights}
use Rattle.h264_recon.specs.Given.{available, used_by, prediction_of, given, slice_settings}
use Rattle.h264_recon.specs.declared.macroblock.IntraLuma.TheVariants.{Blocks}
use Rattle.h264_recon.proofs.Within.{within, used-within}

-- ---- modes

three : (a b c d e f : Bool) → IsTrue (a && b && c) → (IsTrue a → IsTrue d) → (IsTrue b → IsTrue e) → (IsTrue c → IsTrue f) → IsTrue (d && e && f)
three true true true d e f t g h k = rw (g refl, h refl, k refl) refl
three true true false d e f t g h k = absurd (cc)
three true false c d e f t g h k = absurd (cc)
three false b c d e f t g h k = absurd (cc)

pub fits-4x4 : (mode : Intra4x4PredMode) (s : Sides) (t : Sides4) → (IsTrue s.above → IsTrue t.above) → (IsTrue s.left → IsTrue t.left) →
    (IsTrue s.corner → IsTrue t.corner) → IsTrue (fits_block mode s) → IsTrue (is_possible4 mode t)
unfolding fits_block
fits-4x4 Vertical s t a l c h = a h
fits-4x4 Horizontal s t a l c h = l h
fits-4x4 Dc s t a l c h = refl
fits-4x4 DiagonalDownLeft s t a l c h = a h
fits-4x4 DiagonalDownRight s t a l c h = three s.above s.left s.corner t.above t.left t.corner h a l c
fits-4x4 VerticalRight s t a l c h = three s.above s.left s.corner t.above t.left t.corner h a l c
fits-4x4 HorizontalDown s t a l c h = three s.above s.left s.corner t.above t.left t.corner h a l c
fits-4x4 VerticalLeft s t a l c h = a h
fits-4x4 HorizontalUp s t a l c h = l h

-- ---- a macroblock whose later block can be used can be used from its first one on

some-earlier : {A : Type 0} (xs : List A) (i j : ℕ) → i ≤ j → IsTrue (is_some (slice_get xs j)) → IsTrue (is_some (slice_get xs i))
some-earlier [] i j h t = absurd (grind (arith, t))
some-earlier (x ∷ xs) zero j h t = refl
some-earlier (x ∷ xs) (suc i) zero h t = absurd (omega arith)
some-earlier (x ∷ xs) (suc i) (suc j) h t = some-earlier xs i j (omega arith) t

mode-earlier : (p : coded.Prediction) (i j : ℕ) → i ≤ j → IsTrue (is_some (mode_in p j)) → IsTrue (is_some (mode_in p i))
mode-earlier (coded.Intra4x4 modes chroma) i j h t = some-earlier modes i j h t
mode-earlier (coded.Intra16x16 mode chroma) i j h t = refl
mode-earlier (coded.Pcm samples) i j h t = refl
mode-earlier (coded.Inter motions) i j h t = refl

part-earlier : (slice : ℕ) (constrained : Bool) (x y x' y' : ℕ) (m : CodedMacroblock) → number_of x y ≤ number_of x' y' →
    IsTrue (is_some (mode_part slice constrained x' y' m)) → IsTrue (is_some (mode_part slice constrained x y m))
unfolding mode_part
part-earlier slice constrained x y x' y' m h = go (m.slice == slice && (is_intra m.prediction || not constrained))
  where
    go : (b : Bool) → IsTrue (is_some (if b then mode_in m.prediction (number_of x' y') else None)) →
        IsTrue (is_some (if b then mode_in m.prediction (number_of x y) else None))
    go true t = mode-earlier m.prediction (number_of x y) (number_of x' y') h t
    go false t = t

there-earlier : (slice : ℕ) (constrained : Bool) (x y x' y' : ℕ) (o : Option CodedMacroblock) → number_of x y ≤ number_of x' y' →
    IsTrue (is_some (option_and_then (mode_part slice constrained x' y') o)) → IsTrue (is_some (option_and_then (mode_part slice constrained x y) o))
there-earlier slice constrained x y x' y' None h t = t
there-earlier slice constrained x y x' y' (Some m) h t = part-earlier slice constrained x y x' y' m h t

row-first : (x : ℕ) → x < 4 → number_of 0 3 ≤ number_of x 3
unfolding number_of
row-first x h = omega arith

column-first : (y : ℕ) → y < 4 → number_of 3 0 ≤ number_of 3 y
unfolding number_of
column-first y h = omega arith

four : 0 < 4
four = lit< tt

-- ---- the sides of a block

module _ (w : ℕ) (picture : List CodedMacroblock) (slice : ℕ) (constrained : Bool) (some : 0 < w) where
  upper : (current : CodedMacroblock) (x : ℕ) → x < 4 → IsTrue (is_some (around 4 (mode_part slice constrained) w picture current (suc x) 0)) →
      IsTrue (available w picture slice constrained).above
  unfolding available macroblock_samples block_samples column_of row_of
  upper current x h t =
      let P = mode_part slice constrained in
      let e = upper-of 4 P w picture current some four x h in
      let f = upper-of 4 P w picture (with_modes slice []) some four 0 four in
      rw f (there-earlier slice constrained 0 3 x 3 (last_in w picture (length picture % w)) (row-first x h) (rw e at t))

  left : (current : CodedMacroblock) (y : ℕ) → y < 4 → IsTrue (is_some (around 4 (mode_part slice constrained) w picture current 0 (suc y))) →
      IsTrue (available w picture slice constrained).left
  unfolding available macroblock_samples block_samples column_of row_of
  left current y h t =
      let P = mode_part slice constrained in
      let e = left-of 4 P w picture current some four y h in
      let f = left-of 4 P w picture (with_modes slice []) some four 0 four in
      rw f (there-earlier slice constrained 3 0 3 y (last_left w picture) (column-first y h) (rw e at t))

  above-of : (current : CodedMacroblock) (x y : ℕ) → x < 4 → IsTrue (is_some (around 4 (mode_part slice constrained) w picture current (suc x) y)) →
      IsTrue (above_there (available w picture slice constrained) y)
  unfolding above_there
  above-of current x zero h t = upper current x h t
  above-of current x (suc y) h t = let z : nat_lt 0 (suc y) ≡ true = lt-ltb 0 (suc y) (omega arith) in rw z refl

  beside-of : (current : CodedMacroblock) (x y : ℕ) → y < 4 → IsTrue (is_some (around 4 (mode_part slice constrained) w picture current x (suc y))) →
      IsTrue (left_there (available w picture slice constrained) x)
  unfolding left_there
  beside-of current zero y h t = left current y h t
  beside-of current (suc x) y h t = let z : nat_lt 0 (suc x) ≡ true = lt-ltb 0 (suc x) (omega arith) in rw z refl

  first-corner : (current : CodedMacroblock) → IsTrue (is_some (around 4 (mode_part slice constrained) w picture current 0 0)) →
      IsTrue (available w picture slice constrained).corner
  unfolding available macroblock_samples block_samples column_of row_of
  first-corner current t =
      let P = mode_part slice constrained in
      rw (corner-of 4 P w picture (with_modes slice []) some four) (rw (corner-of 4 P w picture current some four) at t)

  corner-at : (current : CodedMacroblock) (x y : ℕ) → x < 4 → y < 4 → IsTrue (is_some (around 4 (mode_part slice constrained) w picture current x y)) →
      IsTrue (corner_there (available w picture slice constrained) x y)
  unfolding corner_there above_there
  corner-at current zero zero h k t = first-corner current t
  corner-at current zero (suc y) h k t = let z : (suc y == 0) ≡ false = grind (arith, nat_tests) in rw z (left current y (omega arith) t)
  corner-at current (suc x) zero h k t = let z : (suc x == 0) ≡ false = grind (arith, nat_tests) in rw z (upper current x (omega arith) t)
  corner-at current (suc x) (suc y) h k t = let z : (suc x == 0) ≡ false = grind (arith, nat_tests) in
      let n : nat_lt 0 (suc y) ≡ true = lt-ltb 0 (suc y) (omega arith) in rw (z, n) refl

  module _ (modes : List Intra4x4PredMode) (x y : ℕ) (hx : x < 4) (hy : y < 4) (b : length modes ≡ number_of x y) where
    column : column_of (length modes) ≡ x
    unfolding column_of number_of
    column = omega arith

    row : row_of (length modes) ≡ y
    unfolding row_of number_of
    row = omega arith

    block-above : IsTrue (block_samples w picture slice constrained modes).above → IsTrue (above_there (available w picture slice constrained) y)
    unfolding block_samples
    block-above t = above-of (with_modes slice modes) x y hx (rw (column, row) at t)

    block-left : IsTrue (block_samples w picture slice constrained modes).left → IsTrue (left_there (available w picture slice constrained) x)
    unfolding block_samples
    block-left t = beside-of (with_modes slice modes) x y hy (rw (column, row) at t)

    block-corner : IsTrue (block_samples w picture slice constrained modes).corner → IsTrue (corner_there (available w picture slice constrained) x y)
    unfolding block_samples
    block-corner t = corner-at (with_modes slice modes) x y hx hy (rw (column, row) at t)

-- ---- the whole macroblock

possible-4x4 : (w : ℕ) (slice : SliceContext) (picture : List CodedMacroblock) (modes : List Intra4x4PredMode) → 0 < w → length modes ≡ 16 →
    read.HaveSides w slice picture modes → IsPossibleLuma (Blocks modes) (available w picture slice.number slice.constrained_intra)
unfolding number_of
possible-4x4 w slice picture modes some long have x y hx hy =
    let b = number_of x y in
    let small : b < length modes = omega arith in
    let is : mode_at modes x y ≡ get_or modes b Vertical = get_or_default modes b Dc Vertical small in
    let taken : length (take b modes) ≡ b = length-taken modes b (omega arith) in
    let n = slice.number in
    let c = slice.constrained_intra in
    rw is (fits-4x4 (get_or modes b Vertical) (block_samples w picture n c (take b modes)) (sides4_of (available w picture n c) x y)
    (block-above w picture n c some (take b modes) x y hx hy taken) (block-left w picture n c some (take b modes) x y hx hy taken)
    (block-corner w picture n c some (take b modes) x y hx hy taken) (have b small))

possible-chroma : (w : ℕ) (slice : SliceContext) (picture : List CodedMacroblock) (mode : IntraChromaPredMode) → read.HasChromaSides w slice picture mode →
    IsTrue (is_possible_chroma mode (sides_of (available w picture slice.number slice.constrained_intra)))
unfolding available
possible-chroma w slice picture mode h = h.sides

possible-16x16 : (w : ℕ) (slice : SliceContext) (picture : List CodedMacroblock) (mode : Intra16x16PredMode) →
    IsTrue (is_possible16 mode (macroblock_samples w picture slice.number slice.constrained_intra)) →
    IsTrue (is_possible16 mode (sides_of (available w picture slice.number slice.constrained_intra)))
unfolding available
possible-16x16 w slice picture mode h = h

pub possible-as-read : (w : ℕ) (slice : SliceContext) (picture : List CodedMacroblock) (place : ℕ → ℕ) (p : coded.Prediction) → 0 < w →
    read.IsPossible w slice picture p → IsPossible (prediction_of place p) (used_by p (available w picture slice.number slice.constrained_intra))
unfolding prediction_of used_by
possible-as-read w slice picture place (coded.Intra4x4 modes chroma) some h =
    (possible-4x4 w slice picture modes some h.0 h.1, possible-chroma w slice picture chroma h.2)
possible-as-read w slice picture place (coded.Intra16x16 mode chroma) some h =
    (possible-16x16 w slice picture mode h.0, possible-chroma w slice picture chroma h.1)
possible-as-read w slice picture place (coded.Pcm samples) some h = tt
possible-as-read w slice picture place (coded.Inter motions) some h = tt

-- ---- what is given is allowed

pub given-allowed : (w : ℕ) (slice : SliceContext) (picture : List CodedMacroblock) (place : ℕ → ℕ) (weights : List (Option Weights)) (offset : ℤ)
    (m : CodedMacroblock) (c r : ℕ) → length picture ≡ r * w + c → c < w → m.slice ≡ slice.number → read.IsPossible w slice picture m.prediction →
    IsAllowed (given w picture place (slice_settings weights slice.constrained_intra offset) m) w c r
unfolding given
given-allowed w slice picture place weights offset m c r e k n h = record {
  within = used-within m.prediction (available w picture m.slice slice.constrained_intra) w c r (within w picture m.slice slice.constrained_intra c r e k);
  possible = rw n (possible-as-read w slice picture place m.prediction (omega arith) h);
}
