use Rattle.std.proofs.Common.{◌≡◌, ◌≢◌, ℕ, ◌+◌, ◌-◌, ◌*◌, ◌<◌, refl, sym, ap, ◌∙◌, arith, List, slice_index, ℤ, pos, ◌+ℤ◌, ◌-ℤ◌, ◌*ℤ◌, add-one, eqb}
use Rattle.std.proofs.lemmas.Bool.{ne_eqb, cond-false}
use Rattle.h264_intra.specs.Sides.{with_corner}
use Rattle.h264_intra.specs.Slope.{total_z, difference, gradient}

pub total_none : (f : ℕ → ℤ) → total_z 0 f ≡ pos 0
unfolding total_z
total_none f = refl

pub total_more : (n : ℕ) (f : ℕ → ℤ) → total_z (n + 1) f ≡ total_z n f +ℤ f n
unfolding total_z
total_more n f = rw add-one refl

-- a sample of a side by its place with the corner
pub with_corner_at : (corner : ℕ) (side : List ℕ) (j k : ℕ) → j ≡ k + 1 → with_corner corner side j ≡ slice_index side k
with_corner_at corner side j k e =
    let other : j ≢ 0 = omega arith in
    let place : j - 1 ≡ k = omega arith in
    cond-false (eqb j 0) corner (slice_index side (j - 1)) (ne_eqb j 0 other) ∙ ap (slice_index side) place

-- one more difference, and the last one, at the corner
pub gradient_more : (half k corner : ℕ) (side : List ℕ) (s w : ℤ) → k + 1 < half → s ≡ total_z k (difference half (with_corner corner side)) →
    w ≡ pos (k + 1) *ℤ (pos (slice_index side (half + k)) -ℤ pos (slice_index side (half - 2 - k))) →
    s +ℤ w ≡ total_z (k + 1) (difference half (with_corner corner side))
gradient_more half k corner side s w p e f =
    let q = with_corner corner side in
    let upper : q (half + 1 + k) ≡ slice_index side (half + k) = with_corner_at corner side (half + 1 + k) (half + k) (omega arith) in
    let lower : q (half - 1 - k) ≡ slice_index side (half - 2 - k) = with_corner_at corner side (half - 1 - k) (half - 2 - k) (omega arith) in
    let d : w ≡ difference half q k = f ∙ ap (λ a. pos (k + 1) *ℤ (pos a -ℤ pos (slice_index side (half - 2 - k)))) (sym upper)
    ∙ ap (λ b. pos (k + 1) *ℤ (pos (q (half + 1 + k)) -ℤ pos b)) (sym lower) in
    ap (λ a. a +ℤ w) e ∙ ap (λ b. total_z k (difference half q) +ℤ b) d ∙ sym (total_more k (difference half q))

pub gradient_last : (half corner n : ℕ) (side : List ℕ) (s w : ℤ) → n + 1 ≡ half → s ≡ total_z n (difference half (with_corner corner side)) →
    w ≡ pos half *ℤ (pos (slice_index side (2 * half - 1)) -ℤ pos corner) →
    s +ℤ w ≡ gradient half (with_corner corner side)
gradient_last half corner n side s w p e f =
    let q = with_corner corner side in
    let upper : q (half + 1 + n) ≡ slice_index side (2 * half - 1) = with_corner_at corner side (half + 1 + n) (2 * half - 1) (omega arith) in
    let lower : q (half - 1 - n) ≡ corner = ap q (let z : half - 1 - n ≡ 0 = omega arith in z) in
    let d : w ≡ difference half q n = f ∙ ap (λ a. pos half *ℤ (pos a -ℤ pos corner)) (sym upper)
    ∙ ap (λ b. pos half *ℤ (pos (q (half + 1 + n)) -ℤ pos b)) (sym lower) ∙ ap (λ k. pos k *ℤ (pos (q (half + 1 + n)) -ℤ pos (q (half - 1 - n)))) (sym p) in
    ap (λ a. a +ℤ w) e ∙ ap (λ b. total_z n (difference half q) +ℤ b) d ∙ sym (total_more n (difference half q)) ∙ ap (λ k. total_z k (difference half q)) p
