-- Lines of a vertical edge that are written as one block of the plane, row by row.
use Rattle.std.proofs.Common.{◌≡◌, ◌⊎◌, ℕ, suc, ◌+◌, ◌-◌, ◌*◌, ◌<◌, ◌≤◌, true, false, cond, ◌&&◌, nat_le, nat_lt, ◌==◌, List, slice_index, arith, sym, ap}
use Rattle.std.proofs.Common.{◌∙◌, ⊎_elim, inl, inr}
use Rattle.std.proofs.lemmas.Bool.Decides.{nat_tests}
use Rattle.std.proofs.lemmas.Bool.{cases_eq, cases_lt}
use Rattle.std.proofs.Math.Nat.{mul-le-mul_right}
use Rattle.h264_plane.specs.Samples.{Samples, at, look, ShowsSamples, with_block}
use Rattle.h264_deblock.specs.Line.{filtered, Line}
use Rattle.h264_deblock.specs.Edge.{taps, replaced}
use Rattle.h264_deblock.specs.Rows.{line_of, HasLine, AreWritten}
use Rattle.h264_deblock.specs.Inner.{AreNearestWritten}
use Rattle.h264_deblock.specs.declared.inner.Nearest.{Nearest}
use Rattle.h264_deblock.specs.declared.rows.Rows.{Rows}
use Rattle.h264_deblock.proofs.Lines.{far, lines_at, lines_beyond, inside_or_not}
use Rattle.h264_deblock.proofs.Local.{outer, replaced_inner}

block_test : (w h x y u v : ℕ) → x ≤ u → u < x + w → y ≤ v → v < y + h → (nat_le x u && nat_lt u (x + w) && nat_le y v && nat_lt v (y + h)) ≡ true
block_test w h x y u v a b c d = grind (arith, nat_tests)

block_at : (w h x y : ℕ) (block : List ℕ) (s : ℕ → ℕ → ℕ) (u v c : ℕ) → c < w → u ≡ x + c → y ≤ v → v < y + h →
    with_block w h x y block s u v ≡ slice_index block (w * (v - y) + c)
unfolding with_block
block_at w h x y block s u v c few e a b =
    let place : u - x ≡ c = omega arith in
    rw (block_test w h x y u v (omega arith) (omega arith) a b) (ap (λ z. slice_index block (w * (v - y) + z)) place)

block_beside : (w h x y : ℕ) (block : List ℕ) (s : ℕ → ℕ → ℕ) (u v : ℕ) → (u < x) ⊎ (x + w ≤ u) → with_block w h x y block s u v ≡ s u v
unfolding with_block
block_beside w h x y block s u v away = grind (arith, nat_tests)

block_beyond : (w h x y : ℕ) (block : List ℕ) (s : ℕ → ℕ → ℕ) (u v : ℕ) → (v < y) ⊎ (y + h ≤ v) → with_block w h x y block s u v ≡ s u v
unfolding with_block
block_beyond w h x y block s u v away = grind (arith, nat_tests)

beside_eight : (x w : ℕ) → 4 ≤ x → (w + 4 ≡ x → ⊥) → (w + 3 ≡ x → ⊥) → (w + 2 ≡ x → ⊥) → (w + 1 ≡ x → ⊥) → (w ≡ x → ⊥) → (w ≡ x + 1 → ⊥) → (w ≡ x + 2 → ⊥) →
    (w ≡ x + 3 → ⊥) → (w < x - 4) ⊎ (x - 4 + 8 ≤ w)
beside_eight x w b n0 n1 n2 n3 n4 n5 n6 n7 = ⊎_elim (λ i. inl i) (λ i. inr (omega arith)) (cases_lt w (x - 4))

-- the samples of a line in a row of the block, where the first and the last stay
line_here : (x y : ℕ) (block : List ℕ) (l : Line) (s : ℕ → ℕ → ℕ) (w v : ℕ) → 4 ≤ x → y ≤ v → v < y + 16 → HasLine block (8 * (v - y)) l →
    l.p3 ≡ s (x - 4) v → l.q3 ≡ s (x + 3) v → with_block 8 16 (x - 4) y block s w v ≡ replaced l x (λ z. s z v) w
line_here x y block l s w v b low high is e3 f3 =
    ⊎_elim (λ i. let at_w : w ≡ x - 4 = omega arith in
    block_at 8 16 (x - 4) y block s w v 0 (omega arith) (omega arith) low high ∙ is.p3 ∙ e3 ∙ ap (λ z. s z v) (sym at_w) ∙ (grind (arith, nat_tests)))
    (λ n0. ⊎_elim (λ i. block_at 8 16 (x - 4) y block s w v 1 (omega arith) (omega arith) low high ∙ is.p2 ∙ (grind (arith, nat_tests)))
    (λ n1. ⊎_elim (λ i. block_at 8 16 (x - 4) y block s w v 2 (omega arith) (omega arith) low high ∙ is.p1 ∙ (grind (arith, nat_tests)))
    (λ n2. ⊎_elim (λ i. block_at 8 16 (x - 4) y block s w v 3 (omega arith) (omega arith) low high ∙ is.p0 ∙ (grind (arith, nat_tests)))
    (λ n3. ⊎_elim (λ i. block_at 8 16 (x - 4) y block s w v 4 (omega arith) (omega arith) low high ∙ is.q0 ∙ (grind (arith, nat_tests)))
    (λ n4. ⊎_elim (λ i. block_at 8 16 (x - 4) y block s w v 5 (omega arith) (omega arith) low high ∙ is.q1 ∙ (grind (arith, nat_tests)))
    (λ n5. ⊎_elim (λ i. block_at 8 16 (x - 4) y block s w v 6 (omega arith) (omega arith) low high ∙ is.q2 ∙ (grind (arith, nat_tests)))
    (λ n6. ⊎_elim (λ i. block_at 8 16 (x - 4) y block s w v 7 (omega arith) (omega arith) low high ∙ is.q3 ∙ f3 ∙ ap (λ z. s z v) (sym i) ∙
    (grind (arith, nat_tests)))
    (λ n7. block_beside 8 16 (x - 4) y block s w v (beside_eight x w b n0 n1 n2 n3 n4 n5 n6 n7) ∙ (grind (arith, nat_tests)))
    (cases_eq w (x + 3))) (cases_eq w (x + 2))) (cases_eq w (x + 1))) (cases_eq w x)) (cases_eq (w + 1) x)) (cases_eq (w + 2) x)) (cases_eq (w + 3) x))
    (cases_eq (w + 4) x)

-- the lines of an edge of luma
pub lines_written : (p q : Samples) (x y : ℕ) (block : List ℕ) (r : Rows) → 4 ≤ x → ((n : ℕ) → n < 16 → HasLine block (8 * n) (line_of r n)) →
    ShowsSamples p q (with_block 8 16 (x - 4) y block (at p)) → AreWritten true p q y x r
lines_written p q x y block r b has put = record {
  lines = λ k lines. record {
    width = put.width;
    height = put.height;
    samples = λ u w i j. put.samples w u j i ∙ ⊎_elim
        (λ here.
        let n = u - y in
        let small : n < 16 = omega (arith, here.0, here.1) in
        let place : y + n ≡ u = omega (arith, here.0) in
        let is : line_of r n ≡ filtered false (k n) (taps (look true p u) x) = lines n small ∙ ap (λ z. filtered false (k n) (taps (look true p z) x)) place in
        let ends = far (k n) (taps (look true p u) x) in
        line_here x y block (line_of r n) (at p) w u b here.0 here.1 (has n small) (ap (λ m. m.p3) is ∙ ends.0) (ap (λ m. m.q3) is ∙ ends.1)
        ∙ ap (λ m. replaced m x (look true p u) w) is ∙ sym (lines_at false k 16 y x (look true p) u w here.0 here.1))
        (λ away. block_beyond 8 16 (x - 4) y block (at p) w u away ∙ sym (lines_beyond false k 16 y x (look true p) u w away))
        (inside_or_not y 16 u);
  };
}

-- the two samples of a line of chroma in a row of the block
pair_here : (x y : ℕ) (block : List ℕ) (a d : ℕ) (s : ℕ → ℕ → ℕ) (w v : ℕ) → 4 ≤ x → y ≤ v → v < y + 8 →
    slice_index block (2 * (v - y) + 0) ≡ a → slice_index block (2 * (v - y) + 1) ≡ d →
    with_block 2 8 (x - 1) y block s w v ≡ cond (w + 1 == x) a (cond (w == x) d (s w v))
pair_here x y block a d s w v b low high e0 e1 =
    ⊎_elim (λ i. block_at 2 8 (x - 1) y block s w v 0 (omega arith) (omega arith) low high ∙ e0 ∙ (grind (arith, nat_tests)))
    (λ n0. ⊎_elim (λ i. block_at 2 8 (x - 1) y block s w v 1 (omega arith) (omega arith) low high ∙ e1 ∙ (grind (arith, nat_tests)))
    (λ n1. block_beside 2 8 (x - 1) y block s w v (⊎_elim (λ i. inl i) (λ i. inr (omega arith)) (cases_lt w (x - 1))) ∙ (grind (arith, nat_tests)))
    (cases_eq w x)) (cases_eq (w + 1) x)

-- the lines of an edge of chroma
pub pairs_written : (p q : Samples) (x y : ℕ) (block : List ℕ) (r : Nearest) → 4 ≤ x →
    ((n : ℕ) → n < 8 → slice_index block (2 * n + 0) ≡ slice_index r.p0 n) → ((n : ℕ) → n < 8 → slice_index block (2 * n + 1) ≡ slice_index r.q0 n) →
    ShowsSamples p q (with_block 2 8 (x - 1) y block (at p)) → AreNearestWritten true p q y x r
pairs_written p q x y block r b first second put = record {
  lines = λ k near. record {
    width = put.width;
    height = put.height;
    samples = λ u w i j. put.samples w u j i ∙ ⊎_elim
        (λ here.
        let n = u - y in
        let small : n < 8 = omega (arith, here.0, here.1) in
        let place : y + n ≡ u = omega (arith, here.0) in
        let l = filtered true (k n) (taps (look true p u) x) in
        let same : filtered true (k n) (taps (look true p (y + n)) x) ≡ l = ap (λ z. filtered true (k n) (taps (look true p z) x)) place in
        pair_here x y block l.p0 l.q0 (at p) w u b here.0 here.1 (first n small ∙ near.p0 n small ∙ ap (λ m. m.p0) same)
        (second n small ∙ near.q0 n small ∙ ap (λ m. m.q0) same)
        ∙ sym (replaced_inner l (look true p u) x w b (outer (k n) (taps (look true p u) x)))
        ∙ sym (lines_at true k 8 y x (look true p) u w here.0 here.1))
        (λ away. block_beyond 2 8 (x - 1) y block (at p) w u away ∙ sym (lines_beyond true k 8 y x (look true p) u w away))
        (inside_or_not y 8 u);
  };
}

-- so many samples of a row lie inside
pub row_inside : (width height y v x n : ℕ) → y + v < height → x + n ≤ width → (y + v) * width + x + n ≤ height * width
row_inside width height y v x n below fits =
    let rows : suc (y + v) * width ≤ height * width = mul-le-mul_right width (let r : suc (y + v) ≤ height = omega arith in r) in
    omega arith
