-- The sizes of scaled coefficients, by those of their levels.
use Rattle.std.proofs.Common.{◌≡◌, ◌↔◌, ℕ, ℤ, zero, suc, unsigned_abs, ◌+◌, ◌*◌, ◌≤◌, refl, sym, ap, ◌∙◌, arith, pos, negsuc, neg_ℤ, ◌*ℤ◌}
use Rattle.std.proofs.Common.{Bool, true, false, IsTrue, List, get_or}
use Rattle.std.proofs.lemmas.Nat.{mul-le}
use Rattle.h264_scale.specs.Residual.{residual_fits, scaled, d_of, d_with_dc}
use Rattle.h264_scale.specs.Fours.{factor_at, block_of, IsSmall}
use Rattle.h264_scale.specs.Lanes.{size_below}
use Rattle.h264_scale.proofs.Blocks.{plain_fits}
use Rattle.h264_scale.proofs.Scaled.{scaled_is}
use Rattle.h264_scale.proofs.Small.{small_fits}

-- two tests, each of which is met where the other is
pub told : (a b : Bool) → (IsTrue a ↔ IsTrue b) → a ≡ b
told true true h = refl
told true false h = sym (h.0 refl)
told false true h = h.1 refl
told false false h = refl

-- ---- one coefficient

neg_size : (k : ℕ) → unsigned_abs (neg_ℤ (pos k)) ≡ k
neg_size zero = refl
neg_size (suc k) = refl

product_size : (z : ℤ) (f : ℕ) → unsigned_abs (z *ℤ pos f) ≡ unsigned_abs z * f
product_size (pos n) f = refl
product_size (negsuc n) f = neg_size (suc n * f)

scaled_size : (qp i j g : ℕ) (c : ℤ) → ((i j : ℕ) → factor_at qp i j ≤ g) → unsigned_abs (scaled qp i j c) ≤ unsigned_abs c * g
scaled_size qp i j g c most =
    let e = ap unsigned_abs (scaled_is qp i j c) ∙ product_size c (factor_at qp i j) in
    let m = mul-le (unsigned_abs c) (factor_at qp i j) (unsigned_abs c) g (omega arith) (most i j) in
    omega arith

-- ---- a block

small_block : (d : ℕ → ℕ → ℤ) → IsSmall (block_of d) → residual_fits d ≡ true
small_block d h = sym (plain_fits d) ∙ small_fits (block_of d) h

module _ (qp g : ℕ) (most : (i j : ℕ) → factor_at qp i j ≤ g) where
  pub few_fit : (l : List ℤ) → size_below 16 l * g ≤ 32735 → residual_fits (d_of l qp) ≡ true
  unfolding size_below
  few_fit l h =
      let at = λ (i j k : ℕ). scaled_size qp i j g (get_or l k (pos 0)) most in
      let a = at 0 0 0 in let b = at 0 1 1 in let c = at 1 0 2 in let d = at 2 0 3 in
      let e = at 1 1 4 in let f = at 0 2 5 in let m = at 0 3 6 in let n = at 1 2 7 in
      let o = at 2 1 8 in let p = at 3 0 9 in let q = at 3 1 10 in let r = at 2 2 11 in
      let s = at 1 3 12 in let t = at 2 3 13 in let u = at 3 2 14 in let v = at 3 3 15 in
      small_block (d_of l qp) (omega arith)

  pub few_fit_with_dc : (dc : ℤ) (l : List ℤ) → unsigned_abs dc + size_below 15 l * g ≤ 32735 → residual_fits (d_with_dc dc l qp) ≡ true
  unfolding size_below
  few_fit_with_dc dc l h =
      let at = λ (i j k : ℕ). scaled_size qp i j g (get_or l k (pos 0)) most in
      let b = at 0 1 0 in let c = at 1 0 1 in let d = at 2 0 2 in
      let e = at 1 1 3 in let f = at 0 2 4 in let m = at 0 3 5 in let n = at 1 2 6 in
      let o = at 2 1 7 in let p = at 3 0 8 in let q = at 3 1 9 in let r = at 2 2 10 in
      let s = at 1 3 11 in let t = at 2 3 12 in let u = at 3 2 13 in let v = at 3 3 14 in
      small_block (d_with_dc dc l qp) (omega arith)
