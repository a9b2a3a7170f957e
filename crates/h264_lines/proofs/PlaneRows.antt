-- The rows of a plane, one after another, are its samples.
use Rattle.std.proofs.Common.{◌≡◌, ℕ, zero, suc, ◌+◌, ◌*◌, ◌≤◌, List, ◌++◌, length, take, drop, slice_index, refl, ap, ap₂, ◌∙◌, arith}
use Rattle.std.specs.List.{range_with_len, flat_map}
use Rattle.std.proofs.Math.Seq.{take-add}
use Rattle.std.proofs.lemmas.List.{drop-drop, length-drop, length-take, get_or-take, get_or-drop}
use Rattle.h264_plane.specs.Rows.{row_of, rows_of}
use Rattle.h264_plane.specs.Samples.{Samples, at}
use Rattle.h264_plane.proofs.Rows.{is_row}
use Rattle.h264_lines.proofs.Counted.{flat_shift}

-- one row
one_row : (xs : List ℕ) (w a start : ℕ) → start ≡ a * w → start + w ≤ length xs → take w (drop start xs) ≡ row_of w (λ x. slice_index xs (a * w + x))
one_row xs w a start e room =
    is_row _ w _ (let d = length-drop start xs in let t = length-take w (drop start xs) in omega (arith, d, t))
    (λ x p. get_or-take w (drop start xs) x 0 p ∙ get_or-drop start xs x 0 ∙ ap (λ i. slice_index xs (i + x)) e)

-- n rows from row a on
rows_from : (xs : List ℕ) (w a n start size : ℕ) → start ≡ a * w → size ≡ n * w → start + size ≤ length xs →
    take size (drop start xs) ≡ flat_map (λ y. row_of w (λ x. slice_index xs (y * w + x))) (range_with_len a n)
rows_from xs w a zero start size e f room = let none : size ≡ 0 = omega arith in rw none refl
rows_from xs w a (suc n) start size e f room =
    let more : size ≡ w + n * w = omega arith in
    let next : drop w (drop start xs) ≡ drop (start + w) xs = drop-drop w start xs in
    rw (more, take-add w (n * w) (drop start xs), next)
    (ap₂ (λ l r. l ++ r) (one_row xs w a start e (omega arith)) (rows_from xs w (a + 1) n (start + w) (n * w) (omega arith) refl (omega arith)))

-- the samples from the first of row `top` on, as many as n rows have
pub rows_of_samples : (p : Samples) (top n size : ℕ) → size ≡ n * p.width → top * p.width + size ≤ length p.list →
    take size (drop (top * p.width) p.list) ≡ rows_of p.width n (λ x y. at p x (top + y))
rows_of_samples p top n size e room =
    rows_from p.list p.width top n (top * p.width) size refl e room
    ∙ flat_shift _ _ top 0 n (λ i j q r s. let same : i ≡ top + j = omega arith in ap (λ y. row_of p.width (λ x. at p x y)) same)
