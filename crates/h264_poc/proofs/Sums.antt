-- Sums of offsets, and counts that are far out of range.
use Rattle.std.proofs.Common.{◌≡◌, ℕ, ◌+◌, ◌-◌, ◌<◌, ◌^◌, ◌⊎◌, inl, inr, Bool, true, false, None, List, [], ◌∷◌, ◌++◌, take, length, get_or, ℤ, pos, neg_ℤ}
use Rattle.std.proofs.Common.{◌+ℤ◌, ◌≤ℤ◌, ◌<ℤ◌, ◌*ℤ◌, refl, ap, arith}
use Rattle.std.proofs.lemmas.List.{take_more}
use Rattle.std.specs.Prelude.{int_le}
use Rattle.std.proofs.lemmas.Int.{ints, by_lt_z, to_z_pos, to_z-of_z}
use Rattle.std.specs.Int.{w32, w64}
use mir.Val.{SFits, to_z, of_z}
use Rattle.h264_poc.specs.declared.cycle.Deltas.{Deltas}
use Rattle.h264_poc.specs.declared.within.FieldCounts.{FieldCounts}
use Rattle.h264_poc.specs.Within.{count_within}
use Rattle.h264_poc.specs.Cycle.{sum_of, with_non_ref, counts_from, IsFar}

pub sum_of-append : (xs ys : List ℤ) → sum_of (xs ++ ys) ≡ sum_of xs +ℤ sum_of ys
sum_of-append [] ys = omega (arith, ints)
sum_of-append (x ∷ xs) ys = let e = sum_of-append xs ys in omega (arith, ints)

pub sum_of-more : (xs : List ℤ) (i : ℕ) → i < length xs → sum_of (take (i + 1) xs) ≡ sum_of (take i xs) +ℤ get_or xs i (pos 0)
sum_of-more xs i h = let e = ap sum_of (take_more xs i (pos 0) h) in let f = sum_of-append (take i xs) (get_or xs i (pos 0) ∷ []) in omega (arith, ints)

-- a product that does not fit is far, whatever is added
pub far-product : (z s : ℤ) → (SFits w64 z → ⊥) → neg_ℤ (pos (2 ^ 39)) ≤ℤ s → s ≤ℤ pos (2 ^ 39) → IsFar (z +ℤ s)
far-product z s n low high = by_lt_z (pos (2 ^ 48)) z (λ h. inr (omega (arith, ints)))
    (λ h. by_lt_z z (neg_ℤ (pos (2 ^ 48))) (λ k. inl (omega (arith, ints))) (λ k. absurd (n (omega (arith, ints)))))

out-below : (f : FieldCounts) → f.top <ℤ neg_ℤ (pos (2 ^ 31)) → count_within f ≡ None
out-below f h = let low : int_le (neg_ℤ (pos (2 ^ 31))) f.top ≡ false = grind (arith, ints) in rw low refl

out-above : (f : FieldCounts) → pos (2 ^ 31 - 1) <ℤ f.top → count_within f ≡ None
out-above f h =
    let low : int_le (neg_ℤ (pos (2 ^ 31))) f.top ≡ true = grind (arith, ints) in
    let high : int_le f.top (pos (2 ^ 31 - 1)) ≡ false = grind (arith, ints) in
    rw (low, high) refl

-- from such a count no count in range follows
far-from : (expected t a b : ℤ) → ((expected +ℤ a) <ℤ neg_ℤ (pos (2 ^ 31))) ⊎ (pos (2 ^ 31 - 1) <ℤ (expected +ℤ a)) →
    count_within (counts_from expected t a b) ≡ None
far-from expected t a b (inl h) = out-below (counts_from expected t a b) h
far-from expected t a b (inr h) = out-above (counts_from expected t a b) h

pub far-count : (base : ℤ) (reference : Bool) (d : Deltas) → SFits w32 d.offset_for_non_ref_pic → SFits w32 d.top → IsFar base →
    count_within (counts_from (with_non_ref base reference d.offset_for_non_ref_pic) d.offset_for_top_to_bottom_field d.top d.bottom) ≡ None
far-count base true d f g (inl h) = far-from base d.offset_for_top_to_bottom_field d.top d.bottom (inl (omega (arith, ints)))
far-count base true d f g (inr h) = far-from base d.offset_for_top_to_bottom_field d.top d.bottom (inr (omega (arith, ints)))
far-count base false d f g (inl h) = far-from (base +ℤ d.offset_for_non_ref_pic) d.offset_for_top_to_bottom_field d.top d.bottom (inl (omega (arith, ints)))
far-count base false d f g (inr h) = far-from (base +ℤ d.offset_for_non_ref_pic) d.offset_for_top_to_bottom_field d.top d.bottom (inr (omega (arith, ints)))

-- counts by their fields
pub same-counts : (a b c d : ℤ) → a ≡ c → b ≡ d → (let f : FieldCounts = record { top = a; bottom = b } in f) ≡ record { top = c; bottom = d }
same-counts a b c d e f = cc

-- a sum that fits, as the code computes it
pub added-fits : (x y : ℤ) → neg_ℤ (pos (2 ^ 49)) ≤ℤ x → x ≤ℤ pos (2 ^ 49) → neg_ℤ (pos (2 ^ 49)) ≤ℤ y → y ≤ℤ pos (2 ^ 49) →
    to_z w64 (of_z w64 (to_z w64 (of_z w64 x) +ℤ to_z w64 (of_z w64 y))) ≡ x +ℤ y
added-fits x y a b c d = omega (arith, ints)

pub multiplied-fits : (q : ℕ) (s : ℤ) → q < 2 ^ 63 → SFits w64 s → to_z w64 q *ℤ to_z w64 (of_z w64 s) ≡ pos q *ℤ s
multiplied-fits q s h f = rw (to_z_pos w64 q h, to_z-of_z w64 s f) refl
