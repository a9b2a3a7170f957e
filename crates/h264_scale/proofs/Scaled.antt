use Rattle.std.proofs.Common.{◌≡◌, ⊎_elim, ◌+◌, ◌-◌, ◌*◌, ◌/◌, ◌%◌, ◌^◌, ℤ, ℕ, zero, suc, ◌<◌, ◌≤◌, refl, sym, ap, ◌∙◌, arith, pos, negsuc, neg_ℤ, ◌*ℤ◌, ◌+ℤ◌}
use Rattle.std.proofs.Common.{true, false, nat_le}
use Rattle.std.proofs.lemmas.Int.{ints}
use Rattle.std.proofs.lemmas.Nat.{pow-add, pow_pos, div-mul-add}
use Rattle.std.proofs.lemmas.Bool.{cases_Bool, cond-true, cond-false, leb-true, leb-false}
use Rattle.std.specs.Int.{int_shr}
use lib.Signed.{shr_z}
use Rattle.h264_scale.specs.Residual.{scaled, norm_adjust}
use Rattle.h264_scale.specs.Fours.{factor_at}

-- ---- products

neg_times : (k n : ℕ) → neg_ℤ (pos k) *ℤ pos n ≡ neg_ℤ (pos (k * n))
neg_times zero n = omega (arith, ints)
neg_times (suc k) n = refl

pub times_times : (z : ℤ) (m n : ℕ) → z *ℤ pos m *ℤ pos n ≡ z *ℤ pos (m * n)
times_times (pos a) m n = ap pos (omega arith)
times_times (negsuc a) m n =
    let e : suc a * m * n ≡ suc a * (m * n) = omega arith in
    neg_times (suc a * m) n ∙ ap (λ k. neg_ℤ (pos k)) e

-- a multiple and less than one more of it, shifted back
pub shr_times : (z : ℤ) (m k : ℕ) → k < m → shr_z (z *ℤ pos m +ℤ pos k) m ≡ z
shr_times (pos n) m k p = ap pos (div-mul-add n m k p)
shr_times (negsuc n) m k p =
    let e : negsuc n *ℤ pos m +ℤ pos k ≡ negsuc (n * m + (m - k - 1)) = omega (arith, ints) in
    rw e (ap negsuc (div-mul-add n m (m - k - 1) (omega arith)))

-- ---- the two forms of the scaling, of sixteen times v and of v itself, are one

high : (q v : ℕ) (c : ℤ) → 4 ≤ q → c *ℤ pos (16 * v) *ℤ pos (2 ^ (q - 4)) ≡ c *ℤ pos (v * 2 ^ q)
high q v c p =
    let e : 2 ^ q ≡ 2 ^ 4 * 2 ^ (q - 4) = ap (λ k. 2 ^ k) (let f : q ≡ 4 + (q - 4) = omega arith in f) ∙ pow-add 2 4 (q - 4) in
    let parts : 16 * v * 2 ^ (q - 4) ≡ v * (2 ^ 4 * 2 ^ (q - 4)) = omega arith in
    let same : 16 * v * 2 ^ (q - 4) ≡ v * 2 ^ q = parts ∙ ap (λ k. v * k) (sym e) in
    times_times c (16 * v) (2 ^ (q - 4)) ∙ ap (λ k. c *ℤ pos k) same

low : (q v : ℕ) (c : ℤ) → q < 4 → int_shr (c *ℤ pos (16 * v) +ℤ pos (2 ^ (3 - q))) (4 - q) ≡ c *ℤ pos (v * 2 ^ q)
low q v c p =
    let e : 2 ^ q * 2 ^ (4 - q) ≡ 2 ^ 4 = sym (pow-add 2 q (4 - q)) ∙ ap (λ k. 2 ^ k) (let f : q + (4 - q) ≡ 4 = omega arith in f) in
    let half : 2 ^ (4 - q) ≡ 2 ^ (3 - q) * 2 = ap (λ k. 2 ^ k) (let f : 4 - q ≡ (3 - q) + 1 = omega arith in f) ∙ pow-add 2 (3 - q) 1 in
    let parts : v * 2 ^ q * 2 ^ (4 - q) ≡ v * (2 ^ q * 2 ^ (4 - q)) = omega arith in
    let whole : v * 2 ^ 4 ≡ 16 * v = omega arith in
    let same : 16 * v ≡ v * 2 ^ q * 2 ^ (4 - q) = sym (parts ∙ ap (λ k. v * k) e ∙ whole) in
    ap (λ k. int_shr (c *ℤ pos k +ℤ pos (2 ^ (3 - q))) (4 - q)) same
    ∙ ap (λ z. int_shr (z +ℤ pos (2 ^ (3 - q))) (4 - q)) (sym (times_times c (v * 2 ^ q) (2 ^ (4 - q))))
    ∙ shr_times (c *ℤ pos (v * 2 ^ q)) (2 ^ (4 - q)) (2 ^ (3 - q)) (let p : 2 ^ (3 - q) < 2 ^ (4 - q) = omega (arith, pow_pos (3 - q)) in p)

pub scaled_is : (qp i j : ℕ) (c : ℤ) → scaled qp i j c ≡ c *ℤ pos (factor_at qp i j)
unfolding scaled
scaled_is qp i j c = ⊎_elim
    (λ (e : nat_le 24 qp ≡ true). cond-true (nat_le 24 qp) _ _ e ∙ high (qp / 6) (norm_adjust (qp % 6) i j) c (omega (arith, leb-true 24 qp e)))
    (λ (e : nat_le 24 qp ≡ false). cond-false (nat_le 24 qp) _ _ e ∙ low (qp / 6) (norm_adjust (qp % 6) i j) c (omega (arith, leb-false 24 qp e)))
    (cases_Bool (nat_le 24 qp))
