use Rattle.std.proofs.Common.{◌≡◌, ◌↔◌, ◌+◌, ◌*◌, ◌/◌, ◌%◌, ◌^◌, ℤ, ℕ, refl, sym, ap, ◌∙◌, arith, pos, negsuc, neg_ℤ, ◌*ℤ◌, ◌+ℤ◌, ◌-ℤ◌, true, false, List, []}
use Rattle.std.proofs.Common.{get_or, Result, Ok, Err, MatchResult, IfOk, IsOk, IsTrue}
use Rattle.std.proofs.lemmas.Int.{ints}
use Rattle.std.proofs.lemmas.Bool.{false≢true}
use Rattle.std.specs.Int.{int_shr}
use Rattle.h264_scale.specs.Residual.{fits16, norm_adjust}
use Rattle.h264_scale.specs.Dc.{hadamard2, product2, chroma_coefficient, f2_of, scaled_dc2, dc2_at, dc2_fits, all_entries2, HasEntries2}
use Rattle.h264_scale.specs.Fours.{four_fits, matrix_four, corners, dc2_scaled, dc2_four, four_dc_fits, four_dc, row_then, factor_at}
use Rattle.h264_scale.specs.declared.fours.Four.{Four}
use Rattle.h264_scale.specs.declared.transform.TransformRange.{TransformRange}
use Rattle.h264_plane.proofs.Below.{below_2}
use Rattle.h264_scale.proofs.Scaled.{times_times}
use Rattle.h264_scale.proofs.Products.{one_times, less_times, times_one, times_less, shr_multiple, and_is}
use Rattle.h264_scale.proofs.Within.{four_of}

-- ---- the sums are the product of matrices

sum00 : (a b c d : ℤ) → (a +ℤ b) +ℤ (c +ℤ d) ≡ (pos 1 *ℤ a +ℤ pos 1 *ℤ c) *ℤ pos 1 +ℤ (pos 1 *ℤ b +ℤ pos 1 *ℤ d) *ℤ pos 1
sum00 a b c d = rw (one_times a, one_times b, one_times c, one_times d, times_one (a +ℤ c), times_one (b +ℤ d)) (omega (arith, ints))

sum01 : (a b c d : ℤ) → (a -ℤ b) +ℤ (c -ℤ d) ≡ (pos 1 *ℤ a +ℤ pos 1 *ℤ c) *ℤ pos 1 +ℤ (pos 1 *ℤ b +ℤ pos 1 *ℤ d) *ℤ negsuc 0
sum01 a b c d = rw (one_times a, one_times b, one_times c, one_times d, times_one (a +ℤ c), times_less (b +ℤ d)) (omega (arith, ints))

sum10 : (a b c d : ℤ) → (a +ℤ b) -ℤ (c +ℤ d) ≡ (pos 1 *ℤ a +ℤ negsuc 0 *ℤ c) *ℤ pos 1 +ℤ (pos 1 *ℤ b +ℤ negsuc 0 *ℤ d) *ℤ pos 1
sum10 a b c d = rw (one_times a, one_times b, less_times c, less_times d, times_one (a +ℤ neg_ℤ c), times_one (b +ℤ neg_ℤ d)) (omega (arith, ints))

sum11 : (a b c d : ℤ) → (a -ℤ b) -ℤ (c -ℤ d) ≡ (pos 1 *ℤ a +ℤ negsuc 0 *ℤ c) *ℤ pos 1 +ℤ (pos 1 *ℤ b +ℤ negsuc 0 *ℤ d) *ℤ negsuc 0
sum11 a b c d = rw (one_times a, one_times b, less_times c, less_times d, times_one (a +ℤ neg_ℤ c), times_less (b +ℤ neg_ℤ d)) (omega (arith, ints))

corners_are : (m : ℕ → ℕ → ℤ) → corners (matrix_four m) ≡ matrix_four (product2 (product2 hadamard2 m) hadamard2)
corners_are m =
    let a = m 0 0 in let b = m 0 1 in let c = m 1 0 in let d = m 1 1 in
    four_of (sum00 a b c d) (sum01 a b c d) (sum10 a b c d) (sum11 a b c d)

-- ---- the two forms of the scaling are one

scaled2_is : (qp : ℕ) (z : ℤ) → scaled_dc2 qp z ≡ dc2_scaled (factor_at qp 0 0) z
unfolding scaled_dc2
scaled2_is qp z =
    let v = norm_adjust (qp % 6) 0 0 in
    let factors : 16 * v * 2 ^ (qp / 6) ≡ v * 2 ^ (qp / 6) * 16 = omega arith in
    ap (λ y. int_shr y 5) (times_times z (16 * v) (2 ^ (qp / 6)) ∙ ap (λ k. z *ℤ pos k) factors ∙ sym (times_times z (v * 2 ^ (qp / 6)) 16))
    ∙ shr_multiple (z *ℤ pos (v * 2 ^ (qp / 6))) 1 4

-- ---- by fours and by entries

dc2_four_is : (qp : ℕ) (m : ℕ → ℕ → ℤ) → dc2_four (factor_at qp 0 0) (matrix_four m) ≡ matrix_four (λ i j. scaled_dc2 qp (m i j))
dc2_four_is qp m = four_of (sym (scaled2_is qp (m 0 0))) (sym (scaled2_is qp (m 0 1))) (sym (scaled2_is qp (m 1 0))) (sym (scaled2_is qp (m 1 1)))

plain_dc2 : (levels : List ℤ) (qp : ℕ) → matrix_four (λ i j. scaled_dc2 qp (f2_of levels i j)) ≡ matrix_four (dc2_at levels qp)
unfolding dc2_at
plain_dc2 levels qp = refl

scaled_four_at : (levels : List ℤ) (qp : ℕ) → dc2_four (factor_at qp 0 0) (corners (matrix_four (chroma_coefficient levels))) ≡ matrix_four (dc2_at levels qp)
scaled_four_at levels qp =
    ap (dc2_four (factor_at qp 0 0)) (corners_are (chroma_coefficient levels)) ∙ dc2_four_is qp (f2_of levels) ∙ plain_dc2 levels qp

four_fits_is : (m : ℕ → ℕ → ℤ) → four_fits (matrix_four m) ≡ all_entries2 fits16 m
unfolding four_fits
four_fits_is m = refl

dc2_fits_is : (levels : List ℤ) (qp : ℕ) → four_dc_fits (factor_at qp 0 0) (matrix_four (chroma_coefficient levels)) ≡ dc2_fits levels qp
unfolding four_dc_fits dc2_fits
dc2_fits_is levels qp =
    and_is (ap four_fits (corners_are (chroma_coefficient levels)) ∙ four_fits_is (f2_of levels))
    (ap four_fits (scaled_four_at levels qp) ∙ four_fits_is (dc2_at levels qp))

four_entries : (m : ℕ → ℕ → ℤ) → HasEntries2 (row_then (matrix_four m) []) m
four_entries m =
    let r = row_then (matrix_four m) [] in
    record {
      each = λ i j p q. below_2 (λ k. get_or r (2 * k + j) (pos 0) ≡ m k j)
          (below_2 (λ k. get_or r (2 * 0 + k) (pos 0) ≡ m 0 k) refl refl j q)
          (below_2 (λ k. get_or r (2 * 1 + k) (pos 0) ≡ m 1 k) refl refl j q)
          i p;
    }

dc2_list_is : (levels : List ℤ) (qp : ℕ) → four_dc (factor_at qp 0 0) (matrix_four (chroma_coefficient levels)) ≡ row_then (matrix_four (dc2_at levels qp)) []
unfolding four_dc
dc2_list_is levels qp = ap (λ v. row_then v []) (scaled_four_at levels qp)

dc2_entries : (levels : List ℤ) (qp : ℕ) → HasEntries2 (four_dc (factor_at qp 0 0) (matrix_four (chroma_coefficient levels))) (dc2_at levels qp)
dc2_entries levels qp = rw (dc2_list_is levels qp) (four_entries (dc2_at levels qp))

-- what the transform of the coefficients answers
abbrev pub Dc2Answers : Result (List ℤ) TransformRange → List ℤ → ℕ → Type 0
Dc2Answers r levels qp = (IsOk r ↔ IsTrue (dc2_fits levels qp)) × IfOk r (λ l. HasEntries2 l (dc2_at levels qp))

pub dc2_answers : (r : Result (List ℤ) TransformRange) (v : Four) (factor qp : ℕ) (levels : List ℤ) → v ≡ matrix_four (chroma_coefficient levels) →
    factor ≡ factor_at qp 0 0 →
    MatchResult r (λ l. (four_dc_fits factor v ≡ true) × (l ≡ four_dc factor v)) (λ _. four_dc_fits factor v ≡ false) → Dc2Answers r levels qp
dc2_answers (Ok l) v factor qp levels e f h =
    let fits : dc2_fits levels qp ≡ true = sym (dc2_fits_is levels qp) ∙ ap (four_dc_fits (factor_at qp 0 0)) (sym e) ∙ ap (λ k. four_dc_fits k v) (sym f) ∙
    h.0 in
    ((λ _. fits, λ _. refl), rw (h.1, f, e) (dc2_entries levels qp))
dc2_answers (Err x) v factor qp levels e f h =
    let fits : dc2_fits levels qp ≡ false = sym (dc2_fits_is levels qp) ∙ ap (four_dc_fits (factor_at qp 0 0)) (sym e) ∙ ap (λ k. four_dc_fits k v) (sym f) ∙
    h in
    ((λ q. absurd (false≢true q), λ q. absurd (false≢true (sym fits ∙ q))), tt)
