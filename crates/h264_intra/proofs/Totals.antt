use Rattle.std.proofs.Common.{◌≡◌, ◌≢◌, ℕ, zero, suc, ◌+◌, ◌-◌, ◌*◌, ◌<◌, refl, sym, ap, ◌∙◌, arith, List, [], slice_index, add-one, Option, unwrap_or, eqb}
use Rattle.std.proofs.lemmas.Bool.{ne_eqb, cond-false}
use Rattle.h264_intra.specs.Filters.{total}
use Rattle.h264_intra.specs.Sides.{beside, with_corner}
use Rattle.h264_intra.proofs.Gradient.{with_corner_at}

pub sum_none : (f : ℕ → ℕ) → 0 ≡ total 0 f
unfolding total
sum_none f = refl

pub sum_more : (n : ℕ) (f : ℕ → ℕ) (s x : ℕ) → s ≡ total n f → x ≡ f n → s + x ≡ total (n + 1) f
unfolding total
sum_more n f s x p q = rw (add-one, p, q) refl

-- two sums of the same numbers
pub total_same : (n : ℕ) (f g : ℕ → ℕ) → ((k : ℕ) → k < n → f k ≡ g k) → total n f ≡ total n g
unfolding total
total_same zero f g same = refl
total_same (suc n) f g same = rw (total_same n f g (λ k p. same k (omega arith)), same n (omega arith)) refl

-- the samples round a macroblock, by the lists of its sides
pub beside_row : (l a : Option (List ℕ)) (c : Option ℕ) (j k : ℕ) → j ≡ k + 1 → beside l a c j 0 ≡ slice_index (unwrap_or a []) k
beside_row l a c j k e = with_corner_at (unwrap_or c 0) (unwrap_or a []) j k e

pub beside_column : (l a : Option (List ℕ)) (c : Option ℕ) (j k : ℕ) → j ≡ k + 1 → beside l a c 0 j ≡ slice_index (unwrap_or l []) k
beside_column l a c j k e =
    let other : j ≢ 0 = omega arith in
    let place : j - 1 ≡ k = omega arith in
    cond-false (eqb j 0) (with_corner (unwrap_or c 0) (unwrap_or a []) 0) (slice_index (unwrap_or l []) (j - 1)) (ne_eqb j 0 other) ∙
    ap (slice_index (unwrap_or l [])) place

-- the sum of a side, and of half a side
pub left_total : (n : ℕ) (l a : Option (List ℕ)) (c : Option ℕ) → total n (λ k. slice_index (unwrap_or l []) k) ≡ total n (λ k. beside l a c 0 (k + 1))
left_total n l a c = total_same n _ _ (λ k p. sym (beside_column l a c (k + 1) k refl))

pub above_total : (n : ℕ) (l a : Option (List ℕ)) (c : Option ℕ) → total n (λ k. slice_index (unwrap_or a []) k) ≡ total n (λ k. beside l a c (k + 1) 0)
above_total n l a c = total_same n _ _ (λ k p. sym (beside_row l a c (k + 1) k refl))

pub left_part : (j : ℕ) (l a : Option (List ℕ)) (c : Option ℕ) → total 4 (λ k. slice_index (unwrap_or l []) (4 * j + k)) ≡
    total 4 (λ k. beside l a c 0 (4 * j + k + 1))
left_part j l a c = total_same 4 _ _ (λ k p. sym (beside_column l a c (4 * j + k + 1) (4 * j + k) refl))

pub above_part : (i : ℕ) (l a : Option (List ℕ)) (c : Option ℕ) → total 4 (λ k. slice_index (unwrap_or a []) (4 * i + k)) ≡
    total 4 (λ k. beside l a c (4 * i + k + 1) 0)
above_part i l a c = total_same 4 _ _ (λ k p. sym (beside_row l a c (4 * i + k + 1) (4 * i + k) refl))
