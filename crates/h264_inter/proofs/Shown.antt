-- Samples that are those of the reference picture: the picture's own, where they lie inside it, or a copy's.
use Rattle.std.proofs.Common.{◌≡◌, ℕ, ◌+◌, ◌-◌, ◌<◌, ◌≤◌, List, arith, refl, ap, ◌∙◌, min, ℤ, pos, ◌+ℤ◌, ◌-ℤ◌, ◌≤ℤ◌}
use Rattle.std.proofs.lemmas.Int.{ints}
use Rattle.h264_plane.specs.Samples.{Samples, at}
use Rattle.h264_inter.specs.Reference.{reference, whole, parts, IsCopy, HasBlock}
use Rattle.h264_inter.specs.Luma.{quarter, around, predicted_luma}
use Rattle.h264_inter.specs.Chroma.{eighth, around as around_chroma, predicted_chroma}
use Rattle.h264_inter.specs.declared.vector.MotionVector.{MotionVector}
use Rattle.h264_inter.proofs.Same.{SameWindow, quarter_same}
use Rattle.h264_inter.proofs.Eighths.{eighth_same}

-- the samples s from column m and row n on are those of the reference picture p from column `left` and row `top` on
pub record ShowsReference (p : Samples) (left top : ℤ) (columns rows : ℕ) (s : Samples) (m n : ℕ) : Type 0 where
  pub each : (u v : ℕ) → u < columns → v < rows → at s (m + u) (n + v) ≡ reference p.width p.height (at p) (left +ℤ pos u) (top +ℤ pos v)

-- a sample inside the picture is that of the reference picture
pub inside : (p : Samples) (x y : ℕ) (a b : ℤ) → x < p.width → y < p.height → a ≡ pos x → b ≡ pos y → at p x y ≡ reference p.width p.height (at p) a b
unfolding reference
inside p x y a b q r e f =
    let column : min x (p.width - 1) ≡ x = omega arith in
    let row : min y (p.height - 1) ≡ y = omega arith in
    rw (e, f, column, row) refl

-- places that lie inside a size
pub span_inside : (n count size width : ℕ) (z : ℤ) → pos n ≡ z → (z +ℤ pos count) ≤ℤ pos size → size ≡ width → n + count ≤ width
span_inside n count size width z e p q = omega (arith, ints, e, p, q)

-- the picture's own samples
pub picture_shows : (p : Samples) (left top : ℤ) (columns rows m n : ℕ) → m + columns ≤ p.width → n + rows ≤ p.height → pos m ≡ left → pos n ≡ top →
    ShowsReference p left top columns rows p m n
picture_shows p left top columns rows m n wide tall l t = record {
  each = λ u v q r.
      let column : left +ℤ pos u ≡ pos (m + u) = omega (arith, ints, l) in
      let row : top +ℤ pos v ≡ pos (n + v) = omega (arith, ints, t) in
      inside p (m + u) (n + v) _ _ (omega arith) (omega arith) column row;
}

-- those of a copy
pub copy_shows : (p : Samples) (a b left top : ℤ) (columns rows : ℕ) (area : Samples) → IsCopy p a b columns rows area → a ≡ left → b ≡ top →
    ShowsReference p left top columns rows area 0 0
copy_shows p a b left top columns rows area copy l t = record {
  each = λ u v q r.
      let column : 0 + u ≡ u = omega arith in
      let row : 0 + v ≡ v = omega arith in
      rw (← l, ← t, column, row) (copy.each u v q r);
}

-- a block of whole samples inside the picture
pub whole_is : (p : Samples) (mv : MotionVector) (w h x y m n : ℕ) (out : List ℕ) → m + w ≤ p.width → n + h ≤ p.height →
    pos m ≡ pos x +ℤ whole 2 mv.x → pos n ≡ pos y +ℤ whole 2 mv.y → parts 4 mv.x ≡ 0 → parts 4 mv.y ≡ 0 →
    HasBlock w h out (λ u v. at p (m + u) (n + v)) → HasBlock w h out (λ u v. predicted_luma p.width p.height (at p) mv (x + u) (y + v))
unfolding predicted_luma quarter
whole_is p mv w h x y m n out wide tall l t i j block = record {
  each = λ u v a b.
      let column : pos (x + u) +ℤ whole 2 mv.x +ℤ pos 2 -ℤ pos 2 ≡ pos (m + u) = omega (arith, ints, l) in
      let row : pos (y + v) +ℤ whole 2 mv.y +ℤ pos 2 -ℤ pos 2 ≡ pos (n + v) = omega (arith, ints, t) in
      rw (i, j) (block.each u v a b ∙ inside p (m + u) (n + v) _ _ (omega arith) (omega arith) column row);
}

-- a window of them
window_is : (p s : Samples) (a b : ℤ) (w h x y u v m n : ℕ) → ShowsReference p (pos x +ℤ a -ℤ pos 2) (pos y +ℤ b -ℤ pos 2) (w + 5) (h + 5) s m n → u < w →
    v < h →
    SameWindow (λ i j. at s (m + u + i) (n + v + j)) (around p.width p.height (at p) (pos (x + u) +ℤ a) (pos (y + v) +ℤ b))
window_is p s a b w h x y u v m n shown f g = record {
  each = λ i j q r.
      let from : m + u + i ≡ m + (u + i) = omega arith in
      let down : n + v + j ≡ n + (v + j) = omega arith in
      let column : pos x +ℤ a -ℤ pos 2 +ℤ pos (u + i) ≡ pos (x + u) +ℤ a +ℤ pos i -ℤ pos 2 = omega (arith, ints) in
      let row : pos y +ℤ b -ℤ pos 2 +ℤ pos (v + j) ≡ pos (y + v) +ℤ b +ℤ pos j -ℤ pos 2 = omega (arith, ints) in
      ap (λ k. at s k (n + v + j)) from ∙ ap (λ k. at s (m + (u + i)) k) down ∙ shown.each (u + i) (v + j) (omega arith) (omega arith)
      ∙ ap (λ z. reference p.width p.height (at p) z (pos y +ℤ b -ℤ pos 2 +ℤ pos (v + j))) column
      ∙ ap (λ z. reference p.width p.height (at p) (pos (x + u) +ℤ a +ℤ pos i -ℤ pos 2) z) row;
}

-- a block at the quarter place of its vector
pub luma_is : (p s : Samples) (mv : MotionVector) (w h x y m n i j : ℕ) (out : List ℕ) →
    ShowsReference p (pos x +ℤ whole 2 mv.x -ℤ pos 2) (pos y +ℤ whole 2 mv.y -ℤ pos 2) (w + 5) (h + 5) s m n → i ≡ parts 4 mv.x → j ≡ parts 4 mv.y →
    HasBlock w h out (λ u v. quarter i j (λ a b. at s (m + u + a) (n + v + b))) →
    HasBlock w h out (λ u v. predicted_luma p.width p.height (at p) mv (x + u) (y + v))
unfolding predicted_luma
luma_is p s mv w h x y m n i j out shown across down block = record {
  each = λ u v q r.
      block.each u v q r ∙ quarter_same i j _ _ (window_is p s (whole 2 mv.x) (whole 2 mv.y) w h x y u v m n shown q r)
      ∙ ap (λ k. quarter k j (around p.width p.height (at p) (pos (x + u) +ℤ whole 2 mv.x) (pos (y + v) +ℤ whole 2 mv.y))) across
      ∙ ap (λ k. quarter (parts 4 mv.x) k (around p.width p.height (at p) (pos (x + u) +ℤ whole 2 mv.x) (pos (y + v) +ℤ whole 2 mv.y))) down;
}

-- a sample of chroma
chroma_sample_is : (p s : Samples) (a b : ℤ) (w h x y u v m n i j : ℕ) → ShowsReference p (pos x +ℤ a) (pos y +ℤ b) (w + 1) (h + 1) s m n →
    u < w → v < h → i < 2 → j < 2 → at s (m + u + i) (n + v + j) ≡ around_chroma p.width p.height (at p) (pos (x + u) +ℤ a) (pos (y + v) +ℤ b) i j
chroma_sample_is p s a b w h x y u v m n i j shown f g q r =
    let from : m + u + i ≡ m + (u + i) = omega arith in
    let down : n + v + j ≡ n + (v + j) = omega arith in
    let column : pos x +ℤ a +ℤ pos (u + i) ≡ pos (x + u) +ℤ a +ℤ pos i = omega (arith, ints) in
    let row : pos y +ℤ b +ℤ pos (v + j) ≡ pos (y + v) +ℤ b +ℤ pos j = omega (arith, ints) in
    ap (λ k. at s k (n + v + j)) from ∙ ap (λ k. at s (m + (u + i)) k) down ∙ shown.each (u + i) (v + j) (omega arith) (omega arith)
    ∙ ap (λ z. reference p.width p.height (at p) z (pos y +ℤ b +ℤ pos (v + j))) column
    ∙ ap (λ z. reference p.width p.height (at p) (pos (x + u) +ℤ a +ℤ pos i) z) row

-- a block at the eighth place of its vector
pub chroma_is : (p s : Samples) (mv : MotionVector) (w h x y m n i j : ℕ) (out : List ℕ) →
    ShowsReference p (pos x +ℤ whole 3 mv.x) (pos y +ℤ whole 3 mv.y) (w + 1) (h + 1) s m n → i ≡ parts 8 mv.x → j ≡ parts 8 mv.y →
    HasBlock w h out (λ u v. eighth i j (λ a b. at s (m + u + a) (n + v + b))) →
    HasBlock w h out (λ u v. predicted_chroma p.width p.height (at p) mv (x + u) (y + v))
unfolding predicted_chroma
chroma_is p s mv w h x y m n i j out shown across down block = record {
  each = λ u v q r.
      let same = λ (a b : ℕ) (k : a < 2) (l : b < 2). chroma_sample_is p s (whole 3 mv.x) (whole 3 mv.y) w h x y u v m n a b shown q r k l in
      block.each u v q r
      ∙ eighth_same i j _ _ (same 0 0 (omega arith) (omega arith)) (same 1 0 (omega arith) (omega arith)) (same 0 1 (omega arith) (omega arith))
      (same 1 1 (omega arith) (omega arith))
      ∙ ap (λ e. eighth e j (around_chroma p.width p.height (at p) (pos (x + u) +ℤ whole 3 mv.x) (pos (y + v) +ℤ whole 3 mv.y))) across
      ∙ ap (λ e. eighth (parts 8 mv.x) e (around_chroma p.width p.height (at p) (pos (x + u) +ℤ whole 3 mv.x) (pos (y + v) +ℤ whole 3 mv.y))) down;
}
