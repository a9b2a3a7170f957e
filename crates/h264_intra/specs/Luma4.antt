-- Prediction of a 4x4 luma block (8.3.1.2). To be read beside the standard.
use Rattle.std.specs.Prelude.{◌<◌, ◌≡◌, ℕ, ◌+◌, ◌-◌, ◌*◌, ◌/◌, ◌%◌, ◌≤◌, Bool, true, ◌==◌, ◌&&◌, if◌then◌else◌, nat_lt, List, [], slice_index, unwrap_or}
use Rattle.std.specs.Prelude.{is_some, IsTrue}
pub use Rattle.h264_intra.specs.declared.sides.Sides4.{Sides4}
use Rattle.h264_intra.specs.Filters.{f3, f2, total, mean}
use Rattle.h264_intra.specs.declared.luma4.Neighbours4.{Neighbours4}
use Rattle.h264_intra.specs.declared.luma4.Intra4x4PredMode.{Intra4x4PredMode}
use Rattle.h264_intra.specs.declared.luma4.Intra4x4PredMode.TheVariants.{Vertical, Horizontal, Dc, DiagonalDownLeft, DiagonalDownRight, VerticalRight}
use Rattle.h264_intra.specs.declared.luma4.Intra4x4PredMode.TheVariants.{HorizontalDown, VerticalLeft, HorizontalUp}

-- ---- modes by number (table 8-2)

abbrev pub number4 : Intra4x4PredMode → ℕ
number4 Vertical = 0
number4 Horizontal = 1
number4 Dc = 2
number4 DiagonalDownLeft = 3
number4 DiagonalDownRight = 4
number4 VerticalRight = 5
number4 HorizontalDown = 6
number4 VerticalLeft = 7
number4 HorizontalUp = 8

-- the mode of a number; one above 8, which no mode has, counts as 8
abbrev pub mode4_of : ℕ → Intra4x4PredMode
mode4_of k =
    if k == 0 then Vertical else if k == 1 then Horizontal else if k == 2 then Dc else if k == 3 then DiagonalDownLeft
    else if k == 4 then DiagonalDownRight else if k == 5 then VerticalRight else if k == 6 then HorizontalDown
    else if k == 7 then VerticalLeft else HorizontalUp

-- ---- the nine modes, over the samples p (8.3.1.2.1 to 8.3.1.2.9)

abbrev pub vertical : (ℕ → ℕ → ℕ) → ℕ → ℕ → ℕ
vertical p x y = p (x + 1) 0

abbrev pub horizontal : (ℕ → ℕ → ℕ) → ℕ → ℕ → ℕ
horizontal p x y = p 0 (y + 1)

abbrev pub diagonal_down_left : (ℕ → ℕ → ℕ) → ℕ → ℕ → ℕ
diagonal_down_left p x y =
    if x + y == 6 then (p 7 0 + 3 * p 8 0 + 2) / 4
    else f3 (p (x + y + 1) 0) (p (x + y + 2) 0) (p (x + y + 3) 0)

abbrev pub diagonal_down_right : (ℕ → ℕ → ℕ) → ℕ → ℕ → ℕ
diagonal_down_right p x y =
    if nat_lt y x then f3 (p (x - y - 1) 0) (p (x - y) 0) (p (x - y + 1) 0)
    else if nat_lt x y then f3 (p 0 (y - x - 1)) (p 0 (y - x)) (p 0 (y - x + 1))
    else f3 (p 1 0) (p 0 0) (p 0 1)

-- zVR is 2 * x - y
abbrev pub vertical_right : (ℕ → ℕ → ℕ) → ℕ → ℕ → ℕ
vertical_right p x y =
    let k = x + 1 - y / 2 in
    if nat_lt (2 * x + 1) y then f3 (p 0 y) (p 0 (y - 1)) (p 0 (y - 2))
    else if nat_lt (2 * x) y then f3 (p 0 1) (p 0 0) (p 1 0)
    else if (2 * x - y) % 2 == 0 then f2 (p (k - 1) 0) (p k 0)
    else f3 (p (k - 2) 0) (p (k - 1) 0) (p k 0)

-- zHD is 2 * y - x
abbrev pub horizontal_down : (ℕ → ℕ → ℕ) → ℕ → ℕ → ℕ
horizontal_down p x y =
    let k = y + 1 - x / 2 in
    if nat_lt (2 * y + 1) x then f3 (p x 0) (p (x - 1) 0) (p (x - 2) 0)
    else if nat_lt (2 * y) x then f3 (p 0 1) (p 0 0) (p 1 0)
    else if (2 * y - x) % 2 == 0 then f2 (p 0 (k - 1)) (p 0 k)
    else f3 (p 0 (k - 2)) (p 0 (k - 1)) (p 0 k)

abbrev pub vertical_left : (ℕ → ℕ → ℕ) → ℕ → ℕ → ℕ
vertical_left p x y =
    let k = x + 1 + y / 2 in
    if y % 2 == 0 then f2 (p k 0) (p (k + 1) 0)
    else f3 (p k 0) (p (k + 1) 0) (p (k + 2) 0)

-- zHU is x + 2 * y
abbrev pub horizontal_up : (ℕ → ℕ → ℕ) → ℕ → ℕ → ℕ
horizontal_up p x y =
    let k = y + 1 + x / 2 in
    if nat_lt 5 (x + 2 * y) then p 0 4
    else if x + 2 * y == 5 then (p 0 3 + 3 * p 0 4 + 2) / 4
    else if (x + 2 * y) % 2 == 0 then f2 (p 0 k) (p 0 (k + 1))
    else f3 (p 0 k) (p 0 (k + 1)) (p 0 (k + 2))

-- ---- the samples that there are

-- where the samples above and to the right are not available, the last one above stands for them
abbrev pub filled : Sides4 → (ℕ → ℕ → ℕ) → ℕ → ℕ → ℕ
filled s p x y = if s.above_right then p x y else if y == 0 && nat_lt 4 x then p 4 0 else p x y

abbrev pub dc : Sides4 → (ℕ → ℕ → ℕ) → ℕ
dc s p = mean 4 s.left s.above (total 4 (λ k. p 0 (k + 1))) (total 4 (λ k. p (k + 1) 0))

-- whether there are the sides that a mode needs (8.3.1.2)
abbrev pub is_possible4 : Intra4x4PredMode → Sides4 → Bool
is_possible4 Vertical s = s.above
is_possible4 Horizontal s = s.left
is_possible4 Dc s = true
is_possible4 DiagonalDownLeft s = s.above
is_possible4 DiagonalDownRight s = s.above && s.left && s.corner
is_possible4 VerticalRight s = s.above && s.left && s.corner
is_possible4 HorizontalDown s = s.above && s.left && s.corner
is_possible4 VerticalLeft s = s.above
is_possible4 HorizontalUp s = s.left

-- a mode over samples that are filled, where flat is the value of DC
abbrev pub directed : Intra4x4PredMode → ℕ → (ℕ → ℕ → ℕ) → ℕ → ℕ → ℕ
directed Vertical flat p x y = vertical p x y
directed Horizontal flat p x y = horizontal p x y
directed Dc flat p x y = flat
directed DiagonalDownLeft flat p x y = diagonal_down_left p x y
directed DiagonalDownRight flat p x y = diagonal_down_right p x y
directed VerticalRight flat p x y = vertical_right p x y
directed HorizontalDown flat p x y = horizontal_down p x y
directed VerticalLeft flat p x y = vertical_left p x y
directed HorizontalUp flat p x y = horizontal_up p x y

-- the predicted sample at column x of row y
unfoldable pub predicted4 : Intra4x4PredMode → Sides4 → (ℕ → ℕ → ℕ) → ℕ → ℕ → ℕ
predicted4 mode s p x y = directed mode (dc s p) (filled s p) x y

-- ---- the neighbours that the code is given

abbrev pub sides4 : Neighbours4 → Sides4
sides4 n = record { left = is_some n.left; above = is_some n.above; above_right = is_some n.above_right; corner = is_some n.corner }

abbrev pub around4 : Neighbours4 → ℕ → ℕ → ℕ
around4 n x y =
    if y == 0 then
    if x == 0 then unwrap_or n.corner 0
    else if nat_lt 4 x then slice_index (unwrap_or n.above_right []) (x - 5)
    else slice_index (unwrap_or n.above []) (x - 1)
    else slice_index (unwrap_or n.left []) (y - 1)

-- ---- the samples in one row: the left side from below up, the corner, and above from left to right

abbrev pub from_border : List ℕ → ℕ → ℕ → ℕ
from_border b x y = slice_index b (4 + x - y)

-- two functions agree on the samples round a 4x4 block
pub record SameRound4 (p q : ℕ → ℕ → ℕ) : Type 0 where
  pub row : (k : ℕ) → k ≤ 8 → p k 0 ≡ q k 0
  pub column : (k : ℕ) → k ≤ 4 → p 0 k ≡ q 0 k

-- two functions agree on the sides of a 4x4 block that are available
pub record SameSides4 (s : Sides4) (p q : ℕ → ℕ → ℕ) : Type 0 where
  pub left : IsTrue s.left → (k : ℕ) → k < 4 → p 0 (k + 1) ≡ q 0 (k + 1)
  pub above : IsTrue s.above → (k : ℕ) → k < 4 → p (k + 1) 0 ≡ q (k + 1) 0
  pub above_right : IsTrue s.above_right → (k : ℕ) → k < 4 → p (k + 5) 0 ≡ q (k + 5) 0
  pub corner : IsTrue s.corner → p 0 0 ≡ q 0 0
