use Rattle.h264_intra.specs.Luma4.{sides4, around4}
use Rattle.h264_intra.specs.declared.luma4.Intra4x4PredMode.TheVariants.{Vertical, Horizontal, Dc, DiagonalDownLeft, DiagonalDownRight, VerticalRight}
use Rattle.h264_intra.specs.declared.luma4.Intra4x4PredMode.TheVariants.{HorizontalDown, VerticalLeft, HorizontalUp}
use Rattle.h264_intra.proofs.Same4.{predicted_from}
use Rattle.h264_intra.proofs.luma4.predict4.Goals as goal

pub returns-in-Vertical : goal.returns-in-Vertical
returns-in-Vertical c =
    let n = c.args.neighbours.now in λ possible.
    rw c.in-Vertical.is (predicted_from Vertical (sides4 n) (around4 n) c.border-b.result c.fill.result c.border-b.ensures c.fill.ensures)

pub returns-in-Horizontal : goal.returns-in-Horizontal
returns-in-Horizontal c =
    let n = c.args.neighbours.now in λ possible.
    rw c.in-Horizontal.is (predicted_from Horizontal (sides4 n) (around4 n) c.border-b.result c.fill-in-Horizontal.result c.border-b.ensures
    c.fill-in-Horizontal.ensures)

pub returns-in-Dc : goal.returns-in-Dc
returns-in-Dc c =
    let n = c.args.neighbours.now in λ possible.
    rw c.in-Dc.is (predicted_from Dc (sides4 n) (around4 n) c.border-b.result c.fill-in-Dc.result c.border-b.ensures
    (rw c.mean_of_sides.ensures at c.fill-in-Dc.ensures))

pub returns-in-DiagonalDownLeft : goal.returns-in-DiagonalDownLeft
returns-in-DiagonalDownLeft c =
    let n = c.args.neighbours.now in λ possible.
    rw c.in-DiagonalDownLeft.is (predicted_from DiagonalDownLeft (sides4 n) (around4 n) c.border-b.result c.fill-in-DiagonalDownLeft.result c.border-b.ensures
    c.fill-in-DiagonalDownLeft.ensures)

pub returns-in-DiagonalDownRight : goal.returns-in-DiagonalDownRight
returns-in-DiagonalDownRight c =
    let n = c.args.neighbours.now in λ possible.
    rw c.in-DiagonalDownRight.is (predicted_from DiagonalDownRight (sides4 n) (around4 n) c.border-b.result c.fill-in-DiagonalDownRight.result
    c.border-b.ensures c.fill-in-DiagonalDownRight.ensures)

pub returns-in-VerticalRight : goal.returns-in-VerticalRight
returns-in-VerticalRight c =
    let n = c.args.neighbours.now in λ possible.
    rw c.in-VerticalRight.is (predicted_from VerticalRight (sides4 n) (around4 n) c.border-b.result c.fill-in-VerticalRight.result c.border-b.ensures
    c.fill-in-VerticalRight.ensures)

pub returns-in-HorizontalDown : goal.returns-in-HorizontalDown
returns-in-HorizontalDown c =
    let n = c.args.neighbours.now in λ possible.
    rw c.in-HorizontalDown.is (predicted_from HorizontalDown (sides4 n) (around4 n) c.border-b.result c.fill-in-HorizontalDown.result c.border-b.ensures
    c.fill-in-HorizontalDown.ensures)

pub returns-in-VerticalLeft : goal.returns-in-VerticalLeft
returns-in-VerticalLeft c =
    let n = c.args.neighbours.now in λ possible.
    rw c.in-VerticalLeft.is (predicted_from VerticalLeft (sides4 n) (around4 n) c.border-b.result c.fill-in-VerticalLeft.result c.border-b.ensures
    c.fill-in-VerticalLeft.ensures)

pub returns-in-HorizontalUp : goal.returns-in-HorizontalUp
returns-in-HorizontalUp c =
    let n = c.args.neighbours.now in λ possible.
    rw c.in-HorizontalUp.is (predicted_from HorizontalUp (sides4 n) (around4 n) c.border-b.result c.fill-in-HorizontalUp.result c.border-b.ensures
    c.fill-in-HorizontalUp.ensures)
