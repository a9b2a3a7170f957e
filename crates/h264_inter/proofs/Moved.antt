-- Windows of rows, what they stand for and how they move down, and the quarter places that are made of them.
use Rattle.std.proofs.Common.{◌≡◌, ◌≢◌, ℕ, ◌+◌, ◌*◌, ◌<◌, Bool, true, false, List, get_or, arith, inl, inr, ap, ◌∙◌, refl, pos, ◌+ℤ◌, ◌-ℤ◌}
use Rattle.std.proofs.lemmas.Bool.{cases_lt}
use Rattle.std.proofs.lemmas.Bool.Decides.{nat_tests}
use Rattle.h264_plane.specs.Samples.{Samples, at}
use Rattle.h264_inter.specs.Luma.{quarter, mean, half, central, taps, across, down, middle, six}
use Rattle.h264_inter.specs.Rows.{IsRow, IsHeld, LastFive, AllSix, LastFiveOfBoth, AllSixOfBoth, AreUpTo, IsPair, ArePairs, partner, rows_at}
use Rattle.h264_inter.specs.declared.window.Pair.{Pair}
use Rattle.h264_inter.specs.declared.window.Pairs.{Pairs}
use Rattle.h264_inter.specs.declared.window.Window.{Window}
use Rattle.h264_inter.specs.declared.window.Windows.{Windows}
use Rattle.std.specs.Int.{int_shr}
use Rattle.h264_plane.specs.Clip.{clip1}
use Rattle.h264_inter.proofs.SixTaps.{sums_lane}
use Rattle.h264_inter.proofs.Strips.{lower}

-- one row by another place that it is counted from
row_from : (b : Bool) (p : Samples) (x c y z r s : ℕ) (l : List ℕ) → y + r ≡ z + s → IsRow b p (rows_at x c y) r l → IsRow b p (rows_at x c z) s l
row_from true p x c y z r s l e h = record {
  each = λ u q. h.each u q ∙ ap (λ n. six (λ i. pos (at p (x + u + i) n)) +ℤ pos 2550) e;
  small = h.small;
}
row_from false p x c y z r s l e h = record {
  each = λ u q. h.each u q ∙ ap (λ n. at p (x + u + c) n) e;
  small = h.small;
}

held_from : (b : Bool) (p : Samples) (x c y z r s : ℕ) (l : List ℕ) → y + r ≡ z + s → IsHeld b p (rows_at x c y) r l → IsHeld b p (rows_at x c z) s l
held_from true p x c y z r s l e h = row_from true p x c y z r s l e h
held_from false p x c y z r s l e h = record {
  each = λ u q.
      let below : y + (r + 1) ≡ z + (s + 1) = omega (arith, e) in
      h.each u q ∙ ap (λ n. at p (x + u + c) n + at p (x + u + c) (y + (r + 1))) e ∙ ap (λ n. at p (x + u + c) (z + s) + at p (x + u + c) n) below;
  small = h.small;
}

moved : (b : Bool) (p : Samples) (x c y z : ℕ) (w : Window) → y + 1 ≡ z → AllSix b p (rows_at x c y) w → LastFive b p (rows_at x c z) w
moved b p x c y z w e h = record {
  f = held_from b p x c y z 1 0 w.f (omega arith) h.f;
  g = held_from b p x c y z 2 1 w.g (omega arith) h.g;
  h = held_from b p x c y z 3 2 w.h (omega arith) h.h;
  i = held_from b p x c y z 4 3 w.i (omega arith) h.i;
  j = row_from b p x c y z 5 4 w.j (omega arith) h.j;
}

-- the windows of a row before the next one
pub both_moved : (b : Bool) (width : ℕ) (p : Samples) (x c y z : ℕ) (w : Windows) → y + 1 ≡ z → AllSixOfBoth b width p (rows_at x c y) w →
    LastFiveOfBoth b width p (rows_at x c z) w
both_moved b width p x c y z w e h = record {
  left = moved b p x c y z w.left e h.left;
  right = λ more. moved b p (x + 8) c y z w.right e (h.right more);
}

-- the same windows by another number of their row
pub both_at : (b : Bool) (width : ℕ) (p : Samples) (x c y z : ℕ) (w : Windows) → y ≡ z → LastFiveOfBoth b width p (rows_at x c y) w →
    LastFiveOfBoth b width p (rows_at x c z) w
both_at b width p x c y z w e h = rw (← e) h

-- how large the numbers of a window are
pub values_up_to : (p : Samples) (x c y : ℕ) (w : Window) → AllSix true p (rows_at x c y) w → AreUpTo 13260 w
values_up_to p x c y w s = record {
  e = s.e.small;
  f = s.f.small;
  g = s.g.small;
  h = s.h.small;
  i = s.i.small;
  j = s.j.small;
}

pub sums_up_to : (p : Samples) (x c y : ℕ) (w : Window) → AllSix false p (rows_at x c y) w → AreUpTo 510 w
sums_up_to p x c y w s = record {
  e = s.e.small;
  f = s.f.small;
  g = s.g.small;
  h = s.h.small;
  i = s.i.small;
  j = λ u q. (omega (arith, s.j.small u q));
}

-- pairs of a row by another place that it is counted from
pair_from : (p : Samples) (x y z r s : ℕ) (l : Pair) → y + r ≡ z + s → IsPair p x y r l → IsPair p x z s l
pair_from p x y z r s l e h = record {
  a = row_from false p x 0 y z r s l.a e h.a;
  b = row_from false p x 1 y z r s l.b e h.b;
}

pub pairs_from : (width : ℕ) (p : Samples) (x y z r s : ℕ) (l : Pairs) → y + r ≡ z + s → ArePairs width p x y r l → ArePairs width p x z s l
pairs_from width p x y z r s l e h = record {
  left = pair_from p x y z r s l.left e h.left;
  right = λ more. pair_from p (x + 8) y z r s l.right e (h.right more);
}

-- a sample between two rows, from sums of two
pub below_is : (p : Samples) (x c y u : ℕ) (w : Window) → AllSix false p (rows_at x c y) w → u < 8 →
    clip1 (int_shr (pos (get_or w.e u 0 + get_or w.i u 0 + 16) -ℤ pos (6 * (get_or w.f u 0 + get_or w.g u 0 + get_or w.h u 0))) 5 +ℤ pos (get_or w.g u 0))
    ≡ half (six (λ i. pos (at p (x + u + c) (y + i))))
below_is p x c y u w s q =
    rw (s.e.each u q, s.f.each u q, s.g.each u q, s.h.each u q, s.i.each u q) (
    sums_lane (at p (x + u + c) (y + 0)) (at p (x + u + c) (y + 1)) (at p (x + u + c) (y + 2)) (at p (x + u + c) (y + 3)) (at p (x + u + c) (y + 4))
    (at p (x + u + c) (y + 5))
    )

-- j, from values across
pub middle_is : (p : Samples) (x c y u : ℕ) (w : Window) → AllSix true p (rows_at x c y) w → u < 8 →
    central (taps (pos (get_or w.e u 0) -ℤ pos 2550) (pos (get_or w.f u 0) -ℤ pos 2550) (pos (get_or w.g u 0) -ℤ pos 2550)
    (pos (get_or w.h u 0) -ℤ pos 2550) (pos (get_or w.i u 0) -ℤ pos 2550) (pos (get_or w.j u 0) -ℤ pos 2550))
    ≡ central (middle (λ i j. at p (x + u + i) (y + j)))
unfolding middle across
middle_is p x c y u w s q =
    rw (
      lower (get_or w.e u 0) (six (λ i. pos (at p (x + u + i) (y + 0)))) (s.e.each u q),
      lower (get_or w.f u 0) (six (λ i. pos (at p (x + u + i) (y + 1)))) (s.f.each u q),
      lower (get_or w.g u 0) (six (λ i. pos (at p (x + u + i) (y + 2)))) (s.g.each u q),
      lower (get_or w.h u 0) (six (λ i. pos (at p (x + u + i) (y + 3)))) (s.h.each u q),
      lower (get_or w.i u 0) (six (λ i. pos (at p (x + u + i) (y + 4)))) (s.i.each u q),
      lower (get_or w.j u 0) (six (λ i. pos (at p (x + u + i) (y + 5)))) (s.j.each u q),
    ) refl

-- the partner of a place
pub partner_left : (x : ℕ) → x ≢ 3 → partner x ≡ 2
unfolding partner
partner_left x e = grind (arith, nat_tests)

pub partner_right : (x : ℕ) → x ≡ 3 → partner x ≡ 3
unfolding partner
partner_right x e = rw e refl

-- ---- the places that are made of samples between two rows, without j

pub place_d : (x y h r : ℕ) (g : ℕ → ℕ → ℕ) → x ≡ 0 → y ≡ 1 → r ≡ mean (g 2 2) h → h ≡ half (down g 2) → r ≡ quarter x y g
unfolding quarter
place_d x y h r g a b e p = rw (a, b, e, p) refl

pub place_h : (x y h : ℕ) (g : ℕ → ℕ → ℕ) → x ≡ 0 → y ≡ 2 → h ≡ half (down g 2) → h ≡ quarter x y g
unfolding quarter
place_h x y h g a b p = rw (a, b, p) refl

pub place_n : (x y h r : ℕ) (g : ℕ → ℕ → ℕ) → x ≡ 0 → y ≡ 3 → r ≡ mean (g 2 3) h → h ≡ half (down g 2) → r ≡ quarter x y g
unfolding quarter
place_n x y h r g a b e p = rw (a, b, e, p) refl

place_e : (x y b h r : ℕ) (g : ℕ → ℕ → ℕ) → x ≡ 1 → y ≡ 1 → r ≡ mean b h → b ≡ half (across g 2) → h ≡ half (down g 2) → r ≡ quarter x y g
unfolding quarter
place_e x y b h r g i j e p q = rw (i, j, e, p, q) refl

place_g : (x y b m r : ℕ) (g : ℕ → ℕ → ℕ) → x ≡ 3 → y ≡ 1 → r ≡ mean b m → b ≡ half (across g 2) → m ≡ half (down g 3) → r ≡ quarter x y g
unfolding quarter
place_g x y b m r g i j e p q = rw (i, j, e, p, q) refl

-- e and g
pub place_e_or_g : (x y c b h r : ℕ) (g : ℕ → ℕ → ℕ) → x < 4 → x ≢ 0 → x ≢ 2 → y ≡ 1 → c ≡ partner x → r ≡ mean b h → b ≡ half (across g 2) →
    h ≡ half (down g c) → r ≡ quarter x y g
place_e_or_g x y c b h r g few some other j column e p q =
    elim (cases_lt x 2) [
      | inl l ↦
          let one : x ≡ 1 = omega arith in
          place_e x y b h r g one j e p (q ∙ ap (λ n. half (down g n)) (column ∙ partner_left x (omega arith)))
      | inr l ↦
          let three : x ≡ 3 = omega arith in
          place_g x y b h r g three j e p (q ∙ ap (λ n. half (down g n)) (column ∙ partner_right x three))
    ]

pub place_p : (x y h s r : ℕ) (g : ℕ → ℕ → ℕ) → x ≡ 1 → y ≡ 3 → r ≡ mean h s → h ≡ half (down g 2) → s ≡ half (across g 3) → r ≡ quarter x y g
unfolding quarter
place_p x y h s r g i j e p q = rw (i, j, e, p, q) refl

pub place_r : (x y s m r : ℕ) (g : ℕ → ℕ → ℕ) → x ≡ 3 → y ≡ 3 → r ≡ mean s m → s ≡ half (across g 3) → m ≡ half (down g 3) → r ≡ quarter x y g
unfolding quarter
place_r x y s m r g i j e p q = rw (i, j, e, p, q) refl
