use Rattle.std.proofs.Common.{◌≡◌, ℕ, ◌+◌, ◌-◌, ◌/◌, ◌<◌, arith, refl, ◌∙◌, List}
use Rattle.std.proofs.lemmas.Bool.Decides.{nat_tests}
use Rattle.h264_intra.specs.Filters.{HasSamples}
use Rattle.h264_intra.specs.Luma4.{diagonal_down_left, diagonal_down_right, vertical_right, horizontal_down, vertical_left, horizontal_up, directed, dc}
use Rattle.h264_intra.specs.Luma4.{filled, from_border, predicted4, Sides4, SameRound4}
use Rattle.h264_intra.specs.declared.luma4.Intra4x4PredMode.{Intra4x4PredMode}
use Rattle.h264_intra.specs.declared.luma4.Intra4x4PredMode.TheVariants.{Vertical, Horizontal, Dc, DiagonalDownLeft, DiagonalDownRight, VerticalRight}
use Rattle.h264_intra.specs.declared.luma4.Intra4x4PredMode.TheVariants.{HorizontalDown, VerticalLeft, HorizontalUp}

diagonal_down_left_same : (p q : ℕ → ℕ → ℕ) (x y : ℕ) → x < 4 → y < 4 → SameRound4 p q → diagonal_down_left p x y ≡ diagonal_down_left q x y
diagonal_down_left_same p q x y a b h =
    grind (arith, nat_tests, h.row 7, h.row 8, h.row (x + y + 1), h.row (x + y + 2), h.row (x + y + 3))

diagonal_down_right_same : (p q : ℕ → ℕ → ℕ) (x y : ℕ) → x < 4 → y < 4 → SameRound4 p q → diagonal_down_right p x y ≡ diagonal_down_right q x y
diagonal_down_right_same p q x y a b h =
    grind (
      arith,
      nat_tests,
      h.row 0,
      h.row 1,
      h.column 1,
      h.row (x - y - 1),
      h.row (x - y),
      h.row (x - y + 1),
      h.column (y - x - 1),
      h.column (y - x),
      h.column (y - x + 1),
    )

vertical_right_same : (p q : ℕ → ℕ → ℕ) (x y : ℕ) → x < 4 → y < 4 → SameRound4 p q → vertical_right p x y ≡ vertical_right q x y
vertical_right_same p q x y a b h =
    let k = x + 1 - y / 2 in
    grind (arith, nat_tests, h.row 0, h.row 1, h.row (k - 2), h.row (k - 1), h.row k, h.column 1, h.column y, h.column (y - 1), h.column (y - 2))

horizontal_down_same : (p q : ℕ → ℕ → ℕ) (x y : ℕ) → x < 4 → y < 4 → SameRound4 p q → horizontal_down p x y ≡ horizontal_down q x y
horizontal_down_same p q x y a b h =
    let k = y + 1 - x / 2 in
    grind (arith, nat_tests, h.row 0, h.row 1, h.row x, h.row (x - 1), h.row (x - 2), h.column 1, h.column (k - 2), h.column (k - 1), h.column k)

vertical_left_same : (p q : ℕ → ℕ → ℕ) (x y : ℕ) → x < 4 → y < 4 → SameRound4 p q → vertical_left p x y ≡ vertical_left q x y
vertical_left_same p q x y a b h =
    let k = x + 1 + y / 2 in
    grind (arith, nat_tests, h.row k, h.row (k + 1), h.row (k + 2))

horizontal_up_same : (p q : ℕ → ℕ → ℕ) (x y : ℕ) → x < 4 → y < 4 → SameRound4 p q → horizontal_up p x y ≡ horizontal_up q x y
horizontal_up_same p q x y a b h =
    let k = y + 1 + x / 2 in
    grind (arith, nat_tests, h.column 3, h.column 4, h.column k, h.column (k + 1), h.column (k + 2))

-- a mode depends on the samples round the block alone
pub directed_same : (mode : Intra4x4PredMode) (flat : ℕ) (p q : ℕ → ℕ → ℕ) (x y : ℕ) → x < 4 → y < 4 → SameRound4 p q →
    directed mode flat p x y ≡ directed mode flat q x y
directed_same Vertical flat p q x y a b h = h.row (x + 1) (omega arith)
directed_same Horizontal flat p q x y a b h = h.column (y + 1) (omega arith)
directed_same Dc flat p q x y a b h = refl
directed_same DiagonalDownLeft flat p q x y a b h = diagonal_down_left_same p q x y a b h
directed_same DiagonalDownRight flat p q x y a b h = diagonal_down_right_same p q x y a b h
directed_same VerticalRight flat p q x y a b h = vertical_right_same p q x y a b h
directed_same HorizontalDown flat p q x y a b h = horizontal_down_same p q x y a b h
directed_same VerticalLeft flat p q x y a b h = vertical_left_same p q x y a b h
directed_same HorizontalUp flat p q x y a b h = horizontal_up_same p q x y a b h

-- what the code filled, from the samples in one row, is the prediction
pub predicted_from : (mode : Intra4x4PredMode) (s : Sides4) (p : ℕ → ℕ → ℕ) (b out : List ℕ) →
    SameRound4 (from_border b) (filled s p) → HasSamples 4 out (directed mode (dc s p) (from_border b)) → HasSamples 4 out (predicted4 mode s p)
unfolding predicted4
predicted_from mode s p b out same has = record {
  each = λ x y i j. has.each x y i j ∙ directed_same mode (dc s p) (from_border b) (filled s p) x y i j same;
}
