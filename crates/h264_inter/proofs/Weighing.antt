-- Weighted samples.
use Rattle.std.proofs.Common.{◌≡◌, ℕ, zero, suc, ◌+◌, ◌*◌, ◌^◌, ◌<◌, ◌≤◌, min, rules, w16, of_z, to_z, FitsSigned, unsigned_abs, ℤ, pos, negsuc, ◌+ℤ◌, ◌*ℤ◌}
use Rattle.std.proofs.Common.{◌≤ℤ◌, ap, ◌∙◌, arith}
use Rattle.std.proofs.lemmas.Int.{to_z-of_z, fits_signed_from_abs}
use Rattle.std.proofs.lemmas.Nat.{div-mul-add, pow_pos}
use Rattle.h264_base.specs.declared.weight.Weight.{Weight}
use Rattle.h264_plane.specs.Clip.{clip1}
use Rattle.h264_inter.specs.Weighted.{scaled, weighted, IsPlain, IsInRange}

-- a sample times 2 ^ d, scaled
scaled-power : (d p : ℕ) → scaled d (pos (p * 2 ^ d)) ≡ pos p
scaled-power zero p = ap pos (let e : p * 2 ^ 0 ≡ p = omega arith in e)
scaled-power (suc d) p =
    let some = pow_pos d in
    ap pos (div-mul-add p (2 ^ suc d) (2 ^ d) (omega arith))

-- a plain weight leaves a sample as it is
pub plain-weighted : (w : Weight) (p : ℕ) → p < 256 → IsPlain w → weighted w p ≡ p
unfolding weighted
plain-weighted w p s h =
    rw (h.weight, h.offset) (ap (λ z. clip1 (z +ℤ pos 0)) (scaled-power w.log2_weight_denom p) ∙ (let e : min (p + 0) 255 ≡ p = omega arith in e))

same_of : (z : ℤ) → unsigned_abs z ≤ 32640 → to_z w16 (of_z w16 z) ≡ z
same_of z h = to_z-of_z w16 z (fits_signed_from_abs w16 z (omega (arith, h)))

offset_fits : (o : ℤ) → negsuc 127 ≤ℤ o → o ≤ℤ pos 127 → FitsSigned w16 o
offset_fits o p q = search rules

sum_fits : (z o : ℤ) → unsigned_abs z ≤ 32640 → negsuc 127 ≤ℤ o → o ≤ℤ pos 127 → FitsSigned w16 (z +ℤ o)
sum_fits z o h p q = search rules

-- the weighted sample, from what is made on the way
pub weighted-of : (w : Weight) (p : ℕ) (product value : ℤ) → IsInRange w → product ≡ pos p *ℤ to_z w16 (of_z w16 w.weight) → unsigned_abs product ≤ 32640 →
    value ≡ scaled w.log2_weight_denom (to_z w16 (of_z w16 product)) → unsigned_abs value ≤ 32640 →
    clip1 (to_z w16 (of_z w16 (to_z w16 (of_z w16 value) +ℤ to_z w16 (of_z w16 w.offset)))) ≡ weighted w p
unfolding weighted
weighted-of w p product value r e s f t =
    let o = to_z-of_z w16 w.offset (offset_fits w.offset r.offset_low r.offset_high) in
    let m : product ≡ pos p *ℤ w.weight = e ∙ ap (λ z. pos p *ℤ z) (same_of w.weight (let b = r.weight in omega arith)) in
    let v : value ≡ scaled w.log2_weight_denom (pos p *ℤ w.weight) = f ∙ ap (scaled w.log2_weight_denom) (same_of product s ∙ m) in
    rw (same_of value t, o) (ap clip1 (to_z-of_z w16 (value +ℤ w.offset) (sum_fits value w.offset t r.offset_low r.offset_high)) ∙
    ap (λ z. clip1 (z +ℤ w.offset)) v)
