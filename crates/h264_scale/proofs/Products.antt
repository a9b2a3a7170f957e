use Rattle.std.proofs.Common.{◌≡◌, ◌↔◌, ⊎_elim, ◌+◌, ◌-◌, ◌*◌, ◌/◌, ◌%◌, ◌^◌, ℤ, ℕ, suc, ◌<◌, ◌≤◌, refl, sym, ap, ◌∙◌, arith, pos, negsuc, neg_ℤ, ◌*ℤ◌, ◌+ℤ◌}
use Rattle.std.proofs.Common.{◌-ℤ◌, Bool, true, false, ◌&&◌, nat_le, List, get_or, Result, Ok, Err, MatchResult, IfOk, IsOk, IsTrue}
use Rattle.std.proofs.lemmas.Int.{ints}
use Rattle.std.proofs.lemmas.Nat.{pow-add, pow_pos, div-mul-add, shr-shr, shl-shr}
use Rattle.std.proofs.lemmas.Bool.{cases_Bool, cases_lt, cond-true, cond-false, leb-true, leb-false, false≢true}
use Rattle.std.specs.Int.{int_shr}
use lib.Signed.{shr_z}
use Rattle.h264_scale.specs.Residual.{coefficient, norm_adjust, HasEntries}
use Rattle.h264_scale.specs.Dc.{hadamard, product4, f16_of, scaled_dc16, dc16_at, dc16_fits}
use Rattle.h264_scale.specs.Fours.{four, block_of, block_fits, transposed, summed, hadamard_block, dc_scaled, dc_block, rows_of, block_dc_fits, block_dc}
use Rattle.h264_scale.specs.Fours.{factor_at}
use Rattle.h264_scale.specs.declared.fours.Block.{Block}
use Rattle.h264_scale.specs.declared.transform.TransformRange.{TransformRange}
use Rattle.h264_plane.proofs.Below.{below_4}
use Rattle.h264_scale.proofs.Scaled.{times_times, shr_times}
use Rattle.h264_scale.proofs.Blocks.{rows_of_block, block_is, block_fits_is}
use Rattle.h264_scale.proofs.Within.{four_of}

-- ---- the sums are the product of matrices

pub one_times : (z : ℤ) → pos 1 *ℤ z ≡ z
one_times (pos n) = omega (arith, ints)
one_times (negsuc n) = omega (arith, ints)

pub less_times : (z : ℤ) → negsuc 0 *ℤ z ≡ neg_ℤ z
less_times (pos n) = omega (arith, ints)
less_times (negsuc n) = omega (arith, ints)

pub times_one : (z : ℤ) → z *ℤ pos 1 ≡ z
times_one (pos n) = omega (arith, ints)
times_one (negsuc n) = omega (arith, ints)

pub times_less : (z : ℤ) → z *ℤ negsuc 0 ≡ neg_ℤ z
times_less (pos n) = omega (arith, ints)
times_less (negsuc n) = omega (arith, ints)

column0 : (a b c d : ℤ) → (a +ℤ b) +ℤ (c +ℤ d) ≡ pos 1 *ℤ a +ℤ pos 1 *ℤ b +ℤ pos 1 *ℤ c +ℤ pos 1 *ℤ d
column0 a b c d = rw (one_times a, one_times b, one_times c, one_times d) (omega (arith, ints))

column1 : (a b c d : ℤ) → (a +ℤ b) -ℤ (c +ℤ d) ≡ pos 1 *ℤ a +ℤ pos 1 *ℤ b +ℤ negsuc 0 *ℤ c +ℤ negsuc 0 *ℤ d
column1 a b c d = rw (one_times a, one_times b, less_times c, less_times d) (omega (arith, ints))

column2 : (a b c d : ℤ) → (a -ℤ b) -ℤ (c -ℤ d) ≡ pos 1 *ℤ a +ℤ negsuc 0 *ℤ b +ℤ negsuc 0 *ℤ c +ℤ pos 1 *ℤ d
column2 a b c d = rw (one_times a, less_times b, less_times c, one_times d) (omega (arith, ints))

column3 : (a b c d : ℤ) → (a -ℤ b) +ℤ (c -ℤ d) ≡ pos 1 *ℤ a +ℤ negsuc 0 *ℤ b +ℤ pos 1 *ℤ c +ℤ negsuc 0 *ℤ d
column3 a b c d = rw (one_times a, less_times b, one_times c, less_times d) (omega (arith, ints))

row0 : (a b c d : ℤ) → (a +ℤ b) +ℤ (c +ℤ d) ≡ a *ℤ pos 1 +ℤ b *ℤ pos 1 +ℤ c *ℤ pos 1 +ℤ d *ℤ pos 1
row0 a b c d = rw (times_one a, times_one b, times_one c, times_one d) (omega (arith, ints))

row1 : (a b c d : ℤ) → (a +ℤ b) -ℤ (c +ℤ d) ≡ a *ℤ pos 1 +ℤ b *ℤ pos 1 +ℤ c *ℤ negsuc 0 +ℤ d *ℤ negsuc 0
row1 a b c d = rw (times_one a, times_one b, times_less c, times_less d) (omega (arith, ints))

row2 : (a b c d : ℤ) → (a -ℤ b) -ℤ (c -ℤ d) ≡ a *ℤ pos 1 +ℤ b *ℤ negsuc 0 +ℤ c *ℤ negsuc 0 +ℤ d *ℤ pos 1
row2 a b c d = rw (times_one a, times_less b, times_less c, times_one d) (omega (arith, ints))

row3 : (a b c d : ℤ) → (a -ℤ b) +ℤ (c -ℤ d) ≡ a *ℤ pos 1 +ℤ b *ℤ negsuc 0 +ℤ c *ℤ pos 1 +ℤ d *ℤ negsuc 0
row3 a b c d = rw (times_one a, times_less b, times_one c, times_less d) (omega (arith, ints))

columns_are : (m : ℕ → ℕ → ℤ) → summed (block_of m) ≡ block_of (product4 hadamard m)
columns_are m =
    rows_of_block
    (four_of (column0 (m 0 0) (m 1 0) (m 2 0) (m 3 0)) (column0 (m 0 1) (m 1 1) (m 2 1) (m 3 1)) (column0 (m 0 2) (m 1 2) (m 2 2) (m 3 2))
    (column0 (m 0 3) (m 1 3) (m 2 3) (m 3 3)))
    (four_of (column1 (m 0 0) (m 1 0) (m 2 0) (m 3 0)) (column1 (m 0 1) (m 1 1) (m 2 1) (m 3 1)) (column1 (m 0 2) (m 1 2) (m 2 2) (m 3 2))
    (column1 (m 0 3) (m 1 3) (m 2 3) (m 3 3)))
    (four_of (column2 (m 0 0) (m 1 0) (m 2 0) (m 3 0)) (column2 (m 0 1) (m 1 1) (m 2 1) (m 3 1)) (column2 (m 0 2) (m 1 2) (m 2 2) (m 3 2))
    (column2 (m 0 3) (m 1 3) (m 2 3) (m 3 3)))
    (four_of (column3 (m 0 0) (m 1 0) (m 2 0) (m 3 0)) (column3 (m 0 1) (m 1 1) (m 2 1) (m 3 1)) (column3 (m 0 2) (m 1 2) (m 2 2) (m 3 2))
    (column3 (m 0 3) (m 1 3) (m 2 3) (m 3 3)))

rows_are : (m : ℕ → ℕ → ℤ) → transposed (summed (transposed (block_of m))) ≡ block_of (product4 m hadamard)
rows_are m =
    let row : (a b c d : ℤ) → four ((a +ℤ b) +ℤ (c +ℤ d)) ((a +ℤ b) -ℤ (c +ℤ d)) ((a -ℤ b) -ℤ (c -ℤ d)) ((a -ℤ b) +ℤ (c -ℤ d))
    ≡ four (a *ℤ pos 1 +ℤ b *ℤ pos 1 +ℤ c *ℤ pos 1 +ℤ d *ℤ pos 1) (a *ℤ pos 1 +ℤ b *ℤ pos 1 +ℤ c *ℤ negsuc 0 +ℤ d *ℤ negsuc 0)
    (a *ℤ pos 1 +ℤ b *ℤ negsuc 0 +ℤ c *ℤ negsuc 0 +ℤ d *ℤ pos 1) (a *ℤ pos 1 +ℤ b *ℤ negsuc 0 +ℤ c *ℤ pos 1 +ℤ d *ℤ negsuc 0) =
    λ a b c d. four_of (row0 a b c d) (row1 a b c d) (row2 a b c d) (row3 a b c d) in
    rows_of_block (row (m 0 0) (m 0 1) (m 0 2) (m 0 3)) (row (m 1 0) (m 1 1) (m 1 2) (m 1 3)) (row (m 2 0) (m 2 1) (m 2 2) (m 2 3))
    (row (m 3 0) (m 3 1) (m 3 2) (m 3 3))

pub hadamard_is : (m : ℕ → ℕ → ℤ) → hadamard_block (block_of m) ≡ block_of (product4 (product4 hadamard m) hadamard)
hadamard_is m = ap (λ b. transposed (summed (transposed b))) (columns_are m) ∙ rows_are (product4 hadamard m)

-- ---- the two forms of the scaling are one

-- a shift of a multiple
pub shr_multiple : (z : ℤ) (j k : ℕ) → int_shr (z *ℤ pos (2 ^ k)) (k + j) ≡ int_shr z j
shr_multiple (pos n) j k = ap pos (sym (shr-shr (n * 2 ^ k) k j) ∙ ap (λ i. i / 2 ^ j) (shl-shr n k))
shr_multiple (negsuc n) j k =
    let more : negsuc n *ℤ pos (2 ^ k) ≡ negsuc (n * 2 ^ k + (2 ^ k - 1)) = omega (arith, ints, pow_pos k) in
    let whole : (n * 2 ^ k + (2 ^ k - 1)) / 2 ^ k ≡ n = div-mul-add n (2 ^ k) (2 ^ k - 1) (omega (arith, pow_pos k)) in
    ap (λ z. int_shr z (k + j)) more ∙ ap negsuc (sym (shr-shr (n * 2 ^ k + (2 ^ k - 1)) k j) ∙ ap (λ i. i / 2 ^ j) whole)

high : (q v : ℕ) (z : ℤ) → 6 ≤ q → z *ℤ pos (16 * v) *ℤ pos (2 ^ (q - 6)) ≡ dc_scaled (v * 2 ^ q) z
high q v z p =
    let e : 2 ^ q ≡ 2 ^ 6 * 2 ^ (q - 6) = ap (λ k. 2 ^ k) (let f : q ≡ 6 + (q - 6) = omega arith in f) ∙ pow-add 2 6 (q - 6) in
    let parts : 16 * v * 2 ^ (q - 6) * 4 ≡ v * (2 ^ 6 * 2 ^ (q - 6)) = omega arith in
    let same : 16 * v * 2 ^ (q - 6) * 4 ≡ v * 2 ^ q = parts ∙ ap (λ k. v * k) (sym e) in
    let w = 16 * v * 2 ^ (q - 6) in
    times_times z (16 * v) (2 ^ (q - 6)) ∙ sym (shr_times (z *ℤ pos w) 4 2 (omega arith))
    ∙ ap (λ y. shr_z (y +ℤ pos 2) 4) (times_times z w 4 ∙ ap (λ k. z *ℤ pos k) same)

-- products of sums
times_above : (a j n : ℕ) → pos (j * n) ≡ negsuc a *ℤ pos n +ℤ pos ((suc a + j) * n)
times_above a j n = omega (arith, ints)

times_below : (k j n : ℕ) → negsuc j *ℤ pos n ≡ negsuc (k + j) *ℤ pos n +ℤ pos (k * n)
times_below k j n = omega (arith, ints)

plus_times : (x : ℤ) (k n : ℕ) → (x +ℤ pos k) *ℤ pos n ≡ x *ℤ pos n +ℤ pos (k * n)
plus_times (pos a) k n = omega (arith, ints)
plus_times (negsuc a) k n = ⊎_elim
    (λ (below : k < suc a).
    let same : k + (a - k) ≡ a = omega arith in
    let sum : negsuc a +ℤ pos k ≡ negsuc (a - k) = omega (arith, ints) in
    ap (λ y. y *ℤ pos n) sum ∙ times_below k (a - k) n ∙ ap (λ i. negsuc i *ℤ pos n +ℤ pos (k * n)) same)
    (λ (above : suc a ≤ k).
    let same : suc a + (k - suc a) ≡ k = omega arith in
    let sum : negsuc a +ℤ pos k ≡ pos (k - suc a) = omega (arith, ints) in
    ap (λ y. y *ℤ pos n) sum ∙ times_above a (k - suc a) n ∙ ap (λ i. negsuc a *ℤ pos n +ℤ pos (i * n)) same)
    (cases_lt k (suc a))

low : (q v : ℕ) (z : ℤ) → q < 6 → int_shr (z *ℤ pos (16 * v) +ℤ pos (2 ^ (5 - q))) (6 - q) ≡ dc_scaled (v * 2 ^ q) z
low q v z p =
    let round : 2 ^ (5 - q) * 2 ^ q ≡ 32 = sym (pow-add 2 (5 - q) q) ∙ ap (λ k. 2 ^ k) (let f : 5 - q + q ≡ 5 = omega arith in f) in
    let places : q + (6 - q) ≡ 6 = omega arith in
    let first = z *ℤ pos (16 * v) +ℤ pos (2 ^ (5 - q)) in
    let second = z *ℤ pos (v * 2 ^ q) +ℤ pos 2 in
    let factors : 16 * v * 2 ^ q ≡ v * 2 ^ q * 16 = omega arith in
    let left : first *ℤ pos (2 ^ q) ≡ z *ℤ pos (16 * v * 2 ^ q) +ℤ pos 32 =
    plus_times (z *ℤ pos (16 * v)) (2 ^ (5 - q)) (2 ^ q) ∙ ap (λ y. y +ℤ pos (2 ^ (5 - q) * 2 ^ q)) (times_times z (16 * v) (2 ^ q))
    ∙ ap (λ k. z *ℤ pos (16 * v * 2 ^ q) +ℤ pos k) round in
    let right : second *ℤ pos 16 ≡ z *ℤ pos (v * 2 ^ q * 16) +ℤ pos 32 =
    plus_times (z *ℤ pos (v * 2 ^ q)) 2 16 ∙ ap (λ y. y +ℤ pos 32) (times_times z (v * 2 ^ q) 16) in
    sym (shr_multiple first (6 - q) q) ∙ ap (λ k. int_shr (first *ℤ pos (2 ^ q)) k) places ∙
    ap (λ y. int_shr y 6) (left ∙ ap (λ k. z *ℤ pos k +ℤ pos 32) factors ∙ sym right)
    ∙ shr_multiple second 2 4

pub scaled16_is : (qp : ℕ) (z : ℤ) → scaled_dc16 qp z ≡ dc_scaled (factor_at qp 0 0) z
unfolding scaled_dc16
scaled16_is qp z = ⊎_elim
    (λ (e : nat_le 36 qp ≡ true). cond-true (nat_le 36 qp) _ _ e ∙ high (qp / 6) (norm_adjust (qp % 6) 0 0) z (omega (arith, leb-true 36 qp e)))
    (λ (e : nat_le 36 qp ≡ false). cond-false (nat_le 36 qp) _ _ e ∙ low (qp / 6) (norm_adjust (qp % 6) 0 0) z (omega (arith, leb-false 36 qp e)))
    (cases_Bool (nat_le 36 qp))

-- ---- Intra 16x16, by matrices and by entries

dc_block_is : (qp : ℕ) (m : ℕ → ℕ → ℤ) → dc_block (factor_at qp 0 0) (block_of m) ≡ block_of (λ i j. scaled_dc16 qp (m i j))
dc_block_is qp m = block_is (λ i j. dc_scaled (factor_at qp 0 0) (m i j)) (λ i j. scaled_dc16 qp (m i j)) (λ i j p q. sym (scaled16_is qp (m i j)))

plain_dc : (levels : List ℤ) (qp : ℕ) → block_of (λ i j. scaled_dc16 qp (f16_of levels i j)) ≡ block_of (dc16_at levels qp)
unfolding dc16_at
plain_dc levels qp = refl

scaled_block_at : (levels : List ℤ) (qp : ℕ) → dc_block (factor_at qp 0 0) (hadamard_block (block_of (coefficient levels))) ≡ block_of (dc16_at levels qp)
scaled_block_at levels qp =
    ap (dc_block (factor_at qp 0 0)) (hadamard_is (coefficient levels)) ∙ dc_block_is qp (f16_of levels) ∙ plain_dc levels qp

pub and_is : {a b c d : Bool} → a ≡ c → b ≡ d → (a && b) ≡ (c && d)
and_is p q = rw (p, q) refl

dc_fits_is : (levels : List ℤ) (qp : ℕ) → block_dc_fits (factor_at qp 0 0) (block_of (coefficient levels)) ≡ dc16_fits levels qp
unfolding block_dc_fits dc16_fits
dc_fits_is levels qp =
    and_is (ap block_fits (hadamard_is (coefficient levels)) ∙ block_fits_is (f16_of levels))
    (ap block_fits (scaled_block_at levels qp) ∙ block_fits_is (dc16_at levels qp))

rows_entries : (m : ℕ → ℕ → ℤ) → HasEntries (rows_of (block_of m)) m
rows_entries m =
    let r = rows_of (block_of m) in
    record {
      each = λ i j p q. below_4 (λ k. get_or r (4 * k + j) (pos 0) ≡ m k j)
          (below_4 (λ k. get_or r (4 * 0 + k) (pos 0) ≡ m 0 k) refl refl refl refl j q)
          (below_4 (λ k. get_or r (4 * 1 + k) (pos 0) ≡ m 1 k) refl refl refl refl j q)
          (below_4 (λ k. get_or r (4 * 2 + k) (pos 0) ≡ m 2 k) refl refl refl refl j q)
          (below_4 (λ k. get_or r (4 * 3 + k) (pos 0) ≡ m 3 k) refl refl refl refl j q)
          i p;
    }

dc_list_is : (levels : List ℤ) (qp : ℕ) → block_dc (factor_at qp 0 0) (block_of (coefficient levels)) ≡ rows_of (block_of (dc16_at levels qp))
unfolding block_dc
dc_list_is levels qp = ap rows_of (scaled_block_at levels qp)

dc_entries : (levels : List ℤ) (qp : ℕ) → HasEntries (block_dc (factor_at qp 0 0) (block_of (coefficient levels))) (dc16_at levels qp)
dc_entries levels qp = rw (dc_list_is levels qp) (rows_entries (dc16_at levels qp))

-- what the transform of the coefficients answers
abbrev pub DcAnswers : Result (List ℤ) TransformRange → List ℤ → ℕ → Type 0
DcAnswers r levels qp = (IsOk r ↔ IsTrue (dc16_fits levels qp)) × IfOk r (λ l. HasEntries l (dc16_at levels qp))

pub dc_answers : (r : Result (List ℤ) TransformRange) (b : Block) (factor qp : ℕ) (levels : List ℤ) → b ≡ block_of (coefficient levels) →
    factor ≡ factor_at qp 0 0 →
    MatchResult r (λ l. (block_dc_fits factor b ≡ true) × (l ≡ block_dc factor b)) (λ _. block_dc_fits factor b ≡ false) → DcAnswers r levels qp
dc_answers (Ok l) b factor qp levels e f h =
    let fits : dc16_fits levels qp ≡ true = sym (dc_fits_is levels qp) ∙ ap (block_dc_fits (factor_at qp 0 0)) (sym e) ∙ ap (λ k. block_dc_fits k b) (sym f) ∙
    h.0 in
    ((λ _. fits, λ _. refl), rw (h.1, f, e) (dc_entries levels qp))
dc_answers (Err x) b factor qp levels e f h =
    let fits : dc16_fits levels qp ≡ false = sym (dc_fits_is levels qp) ∙ ap (block_dc_fits (factor_at qp 0 0)) (sym e) ∙
    ap (λ k. block_dc_fits k b) (sym f) ∙ h in
    ((λ q. absurd (false≢true q), λ q. absurd (false≢true (sym fits ∙ q))), tt)
