-- Lanes of 16 bits, and what the transform makes of them.
use Rattle.std.proofs.Common.{◌≡◌, ◌↔◌, ℕ, ℤ, zero, suc, min, unsigned_abs, inl, inr, ◌+◌, ◌*◌, ◌/◌, ◌%◌, ◌^◌, ◌<◌, ◌≤◌, refl, ap, ◌∙◌, arith, pos, negsuc}
use Rattle.std.proofs.Common.{neg_ℤ, ◌+ℤ◌, ◌-ℤ◌, ◌*ℤ◌, Bool, true, false, ◌&&◌, ◌==◌, if◌then◌else◌, List, [], ◌∷◌, map, length, get_or, slice_index, to_z}
use Rattle.std.proofs.Common.{of_z, w16, w32, FitsSigned}
use Rattle.std.proofs.lemmas.Int.{ints, to_z-of_z, wrapping_add_is, wrapping_sub_is, wrapping_mul_is, int_wrap_fits}
use Rattle.std.proofs.lemmas.Nat.{mul-le}
use Rattle.std.proofs.Math.Pow.{pow_mono}
use Rattle.std.specs.Int.{int_wrapping_add, int_wrapping_sub, int_wrapping_mul}
use lib.Signed.{shr_z}
use borrow.Author.Differences.{up, down}
use Rattle.h264_scale.specs.Residual.{AreIn, norm_adjust, v0, v1, v2}
use Rattle.h264_scale.specs.Fours.{size, IsShort, IsShortFour, IsShortBlock, IsWithin, AreWithin, block_of, half, rounded, rounded_row, rounded_block}
use Rattle.h264_scale.specs.Fours.{factor_at}
use Rattle.h264_scale.specs.Lanes.{lanes, by_place, size_below, with_first, AreWide}
use Rattle.h264_scale.proofs.Within.{half_low, half_high}
use Rattle.h264_scale.specs.declared.fours.Four.{Four}
use Rattle.h264_scale.specs.declared.fours.Block.{Block}
use Rattle.h264_scale.proofs.Rounded.{cons_is, all_cons, all_none}
use Rattle.h264_plane.proofs.Below.{below_4}
use Rattle.h264_scale.proofs.Small.{in_own}
use Rattle.std.proofs.lemmas.Bool.{cases_lt}
use Rattle.h264_plane.specs.Clip.{IsIn}
use Rattle.h264_plane.proofs.Bounds.{in_more}

fits_of : (z : ℤ) → IsShort z → FitsSigned w16 z
fits_of (pos n) h = record { sfits = omega (arith, ints, h.high) }
fits_of (negsuc n) h = record { sfits = omega (arith, ints, h.low) }

pub short_of : (z : ℤ) → FitsSigned w16 z → IsShort z
short_of (pos n) h = let s = h.sfits in record { low = omega (arith, ints); high = omega (arith, ints) }
short_of (negsuc n) h = let s = h.sfits in record { low = omega (arith, ints); high = omega (arith, ints) }

-- numbers in lanes of 16 bits
pub kept : (z : ℤ) → IsShort z → to_z w16 (of_z w16 z) ≡ z
kept z h = to_z-of_z w16 z (fits_of z h)

pub sum_kept : (x y : ℤ) → IsShort x → IsShort y → IsShort (x +ℤ y) → int_wrapping_add w16 x y ≡ x +ℤ y
sum_kept x y p q h = wrapping_add_is w16 x y (fits_of x p) (fits_of y q) ∙ int_wrap_fits w16 (x +ℤ y) (fits_of (x +ℤ y) h)

pub difference_kept : (x y : ℤ) → IsShort x → IsShort y → IsShort (x -ℤ y) → int_wrapping_sub w16 x y ≡ x -ℤ y
difference_kept x y p q h = wrapping_sub_is w16 x y (fits_of x p) (fits_of y q) ∙ int_wrap_fits w16 (x -ℤ y) (fits_of (x -ℤ y) h)

pub passed : (v : List ℤ) (x : Four) → v ≡ lanes x → IsShortFour x → map (to_z w16) (map (of_z w16) v) ≡ lanes x
passed v x p h = rw p (cons_is (kept x.a h.a) (cons_is (kept x.b h.b) (cons_is (kept x.c h.c) (cons_is (kept x.d h.d) refl))))

short_half : (z : ℤ) → IsShort z → IsShort (shr_z z 2)
short_half z h = record { low = omega (arith, ints, half_low, half_high, h.low, h.high); high = omega (arith, ints, half_low, half_high, h.low, h.high) }

pub short_half_four : (v : Four) → IsShortFour v → IsShortFour (half v)
short_half_four v h = record { a = short_half v.a h.a; b = short_half v.b h.b; c = short_half v.c h.c; d = short_half v.d h.d }

-- a last value, rounded
sixty_low : (z : ℤ) → up (shr_z z 64) * 64 + down z ≤ up z + down (shr_z z 64) * 64
sixty_low (pos n) = omega arith
sixty_low (negsuc n) = omega arith

sixty_high : (z : ℤ) → up z + down (shr_z z 64) * 64 ≤ up (shr_z z 64) * 64 + down z + 63
sixty_high (pos n) = omega arith
sixty_high (negsuc n) = omega arith

short_sixty : (z : ℤ) → IsShort z → IsShort (shr_z z 64)
short_sixty z h = record { low = omega (arith, ints, sixty_low, sixty_high, h.low, h.high); high = omega (arith, ints, sixty_low, sixty_high, h.low, h.high) }

pub rounded_kept : (h : ℤ) → IsIn 32735 h → to_z w16 (of_z w16 (shr_z (int_wrapping_add w16 h (pos 32)) 64)) ≡ rounded h
rounded_kept h p =
    let short : IsShort h = record { low = omega (arith, ints); high = omega (arith, ints) } in
    let more : IsShort (h +ℤ pos 32) = record { low = omega (arith, ints); high = omega (arith, ints) } in
    let few : IsShort (pos 32) = record { low = omega (arith, ints); high = omega (arith, ints) } in
    let sum = sum_kept h (pos 32) short few more in
    ap (λ z. to_z w16 (of_z w16 (shr_z z 64))) sum ∙ kept (rounded h) (short_sixty (h +ℤ pos 32) more)

rounded_in : (h : ℤ) → IsIn 32735 h → IsIn 512 (rounded h)
rounded_in h p = record {
  low = omega (arith, ints, sixty_low (h +ℤ pos 32), sixty_high (h +ℤ pos 32), p.low, p.high);
  high = omega (arith, ints, sixty_low (h +ℤ pos 32), sixty_high (h +ℤ pos 32), p.low, p.high);
}

rounded_row_in : (v : Four) (l : List ℤ) → IsWithin 32735 v → AreIn 512 l → AreIn 512 (rounded_row v l)
rounded_row_in v l h p = all_cons (rounded_in v.a h.a) (all_cons (rounded_in v.b h.b) (all_cons (rounded_in v.c h.c) (all_cons (rounded_in v.d h.d) p)))

pub rounded_block_in : (x : Block) → AreWithin 32735 x → AreIn 512 (rounded_block x)
rounded_block_in x h = rounded_row_in x.r0 _ h.r0 (rounded_row_in x.r1 _ h.r1 (rounded_row_in x.r2 _ h.r2 (rounded_row_in x.r3 _ h.r3 all_none)))

-- entries by place of the scan, and as a matrix
pub size_of_places : (m : ℕ → ℕ → ℤ) (l : List ℤ) → l ≡ by_place m → size_below 16 l ≡ size (block_of m)
unfolding size_below
size_of_places m l p = rw p (omega arith)

in_size : (n k : ℕ) (l : List ℤ) → k < n → unsigned_abs (get_or l k (pos 0)) ≤ size_below n l
unfolding size_below
in_size zero k l p = absurd (let f : ⊥ = omega arith in f)
in_size (suc n) k l p = elim (cases_lt k n) [
  | inl less ↦ let h = in_size n k l less in omega arith
  | inr last ↦ let e : k ≡ n = omega arith in rw e (omega arith)
]

pub places_in : (l : List ℤ) → size_below 16 l ≤ 32735 → (k : ℕ) → k < 16 → IsIn 32735 (get_or l k (pos 0))
places_in l h k p = let s = in_size 16 k l p in in_more _ 32735 _ (omega arith) (in_own (get_or l k (pos 0)))

-- the sum of numbers of which those of more than 16 bits count as 2 ^ 15
unfoldable pub clipped_below : ℕ → List ℤ → ℕ
clipped_below zero l = 0
clipped_below (suc n) l = clipped_below n l + min (unsigned_abs (get_or l n (pos 0))) 32768

pub clipped_few : (n : ℕ) (l : List ℤ) → clipped_below n l ≤ n * 32768
unfolding clipped_below
clipped_few zero l = omega arith
clipped_few (suc n) l = let h = clipped_few n l in omega arith

clipped_less : (n : ℕ) (l : List ℤ) → clipped_below n l ≤ size_below n l
unfolding clipped_below size_below
clipped_less zero l = omega arith
clipped_less (suc n) l = let h = clipped_less n l in omega arith

clipped_same : (n : ℕ) (l : List ℤ) → clipped_below n l ≤ 32735 → clipped_below n l ≡ size_below n l
unfolding clipped_below size_below
clipped_same zero l h = refl
clipped_same (suc n) l h = let s = clipped_same n l (omega arith) in omega arith

pub clipped_is : (n : ℕ) (l : List ℤ) → (clipped_below n l ≤ 32735) ↔ (size_below n l ≤ 32735)
clipped_is n l = (λ h. let s = clipped_same n l h in omega arith, λ h. let s = clipped_less n l in omega arith)

by_place_same : (f g : ℕ → ℕ → ℤ) → ((i j : ℕ) → i < 4 → j < 4 → f i j ≡ g i j) → by_place f ≡ by_place g
by_place_same f g h =
    let at = λ (i j : ℕ) (p : i < 4) (q : j < 4). h i j p q in
    cons_is (at 0 0 (omega arith) (omega arith))
    (cons_is (at 0 1 (omega arith) (omega arith)) (cons_is (at 1 0 (omega arith) (omega arith)) (cons_is (at 2 0 (omega arith) (omega arith)) (
    cons_is (at 1 1 (omega arith) (omega arith))
    (cons_is (at 0 2 (omega arith) (omega arith)) (cons_is (at 0 3 (omega arith) (omega arith)) (cons_is (at 1 2 (omega arith) (omega arith)) (
    cons_is (at 2 1 (omega arith) (omega arith))
    (cons_is (at 3 0 (omega arith) (omega arith)) (cons_is (at 3 1 (omega arith) (omega arith)) (cons_is (at 2 2 (omega arith) (omega arith)) (
    cons_is (at 1 3 (omega arith) (omega arith))
    (cons_is (at 2 3 (omega arith) (omega arith))
    (cons_is (at 3 2 (omega arith) (omega arith)) (cons_is (at 3 3 (omega arith) (omega arith)) refl)))))))))))))))

short_entry : (m : ℕ → ℕ → ℤ) → IsShortBlock (block_of m) → (i j : ℕ) → i < 4 → j < 4 → IsShort (m i j)
short_entry m h i j p q = below_4 (λ k. IsShort (m k j))
    (below_4 (λ k. IsShort (m 0 k)) h.r0.a h.r0.b h.r0.c h.r0.d j q)
    (below_4 (λ k. IsShort (m 1 k)) h.r1.a h.r1.b h.r1.c h.r1.d j q)
    (below_4 (λ k. IsShort (m 2 k)) h.r2.a h.r2.b h.r2.c h.r2.d j q)
    (below_4 (λ k. IsShort (m 3 k)) h.r3.a h.r3.b h.r3.c h.r3.d j q) i p

pub passed_places : (m : ℕ → ℕ → ℤ) (l : List ℤ) → l ≡ by_place m → IsShortBlock (block_of m) → map (to_z w16) (map (of_z w16) l) ≡ by_place m
passed_places m l p h = rw p (by_place_same (λ i j. to_z w16 (of_z w16 (m i j))) m (λ i j d e. kept (m i j) (short_entry m h i j d e)))

-- a list by its numbers
abbrev pub listed : ℕ → (ℕ → ℤ) → List ℤ
listed zero f = []
listed (suc n) f = f 0 ∷ listed n (λ k. f (suc k))

listed_is : (l : List ℤ) → l ≡ listed (length l) (λ k. get_or l k (pos 0))
listed_is [] = refl
listed_is (x ∷ l) = cons_is refl (listed_is l)

pub listed_as : (n : ℕ) (l : List ℤ) → length l ≡ n → l ≡ listed n (λ k. get_or l k (pos 0))
listed_as n l e = listed_is l ∙ ap (λ m. listed m (λ k. get_or l k (pos 0))) e

-- numbers in lanes of 32 bits
in_wide : (k : ℕ) → k ≤ 2147483647 → FitsSigned w32 (pos k)
in_wide k h = record { sfits = omega arith }

short_wide : (z : ℤ) → IsShort z → FitsSigned w32 z
short_wide (pos n) h = record { sfits = omega (arith, ints, h.high) }
short_wide (negsuc n) h = record { sfits = omega (arith, ints, h.low) }

neg_wide : (k : ℕ) → k ≤ 2147483648 → FitsSigned w32 (neg_ℤ (pos k))
neg_wide zero h = record { sfits = omega arith }
neg_wide (suc k) h = record { sfits = omega (arith, h) }

product_wide : (z : ℤ) (f : ℕ) → IsShort z → f ≤ 7424 → FitsSigned w32 (z *ℤ pos f)
product_wide (pos n) f h p =
    let low : n ≤ 32767 = omega (arith, ints, h.high) in
    let most = mul-le n f 32767 7424 low p in
    record { sfits = omega (arith, most) }
product_wide (negsuc n) f h p =
    let low : suc n ≤ 32768 = omega (arith, ints, h.low) in
    let most = mul-le (suc n) f 32768 7424 low p in
    neg_wide (suc n * f) (omega (arith, most))

pub product_kept : (z : ℤ) (f : ℕ) → IsShort z → f ≤ 7424 → int_wrapping_mul w32 (to_z w16 (of_z w16 z)) (pos f) ≡ z *ℤ pos f
product_kept z f h p =
    ap (λ x. int_wrapping_mul w32 x (pos f)) (kept z h)
    ∙ wrapping_mul_is w32 z (pos f) (short_wide z h) (in_wide f (omega (arith, p)))
    ∙ int_wrap_fits w32 (z *ℤ pos f) (product_wide z f h p)

small_wide : (z : ℤ) → IsIn 32735 z → to_z w32 (of_z w32 z) ≡ z
small_wide z h = let short : IsShort z = record { low = omega (arith, ints); high = omega (arith, ints) } in to_z-of_z w32 z (short_wide z short)

-- small numbers, in lanes of 16 bits
pub narrow_fits : (z : ℤ) → IsIn 32735 z → FitsSigned w16 (to_z w32 (of_z w32 z))
narrow_fits z h = let short : IsShort z = record { low = omega (arith, ints); high = omega (arith, ints) } in rw (small_wide z h) (fits_of z short)

pub narrow_kept : (z : ℤ) → IsIn 32735 z → to_z w16 (of_z w16 (to_z w32 (of_z w32 z))) ≡ z
narrow_kept z h = let short : IsShort z = record { low = omega (arith, ints); high = omega (arith, ints) } in
    ap (λ x. to_z w16 (of_z w16 x)) (small_wide z h) ∙ kept z short

-- lists of which each number is kept
pub listed_same : (n : ℕ) (f g : ℕ → ℤ) → ((k : ℕ) → k < n → f k ≡ g k) → listed n f ≡ listed n g
listed_same zero f g h = refl
listed_same (suc n) f g h = cons_is (h 0 (omega arith)) (listed_same n (λ k. f (suc k)) (λ k. g (suc k)) (λ k p. h (suc k) (omega arith)))

-- a factor of the scaling
v_small : (m : ℕ) → m < 6 → (slice_index v0 m ≤ 29) × (slice_index v1 m ≤ 29) × (slice_index v2 m ≤ 29)
v_small zero p = (omega arith, omega arith, omega arith)
v_small (suc zero) p = (omega arith, omega arith, omega arith)
v_small (suc (suc zero)) p = (omega arith, omega arith, omega arith)
v_small (suc (suc (suc zero))) p = (omega arith, omega arith, omega arith)
v_small (suc (suc (suc (suc zero)))) p = (omega arith, omega arith, omega arith)
v_small (suc (suc (suc (suc (suc zero))))) p = (omega arith, omega arith, omega arith)
v_small (suc (suc (suc (suc (suc (suc m)))))) p = absurd (let f : ⊥ = omega arith in f)

either_small : (b : Bool) (x y n : ℕ) → x ≤ n → y ≤ n → (if b then x else y) ≤ n
either_small true x y n p q = p
either_small false x y n p q = q

pub factor_small : (qp i j : ℕ) → qp ≤ 51 → factor_at qp i j ≤ 7424
factor_small qp i j p =
    let v = v_small (qp % 6) (omega arith) in
    let norm : norm_adjust (qp % 6) i j ≤ 29 = either_small _ _ _ 29 v.0 (either_small _ _ _ 29 v.1 v.2) in
    let power : 2 ^ (qp / 6) ≤ 2 ^ 8 = pow_mono (let q : qp / 6 ≤ 8 = omega arith in q) in
    mul-le _ _ 29 256 norm power

-- the products of entries, by place of the scan
pub products_kept : (qp : ℕ) (m : ℕ → ℕ → ℤ) → qp ≤ 51 → IsShortBlock (block_of m) →
    by_place (λ i j. int_wrapping_mul w32 (to_z w16 (of_z w16 (m i j))) (pos (factor_at qp i j))) ≡ by_place (λ i j. m i j *ℤ pos (factor_at qp i j))
products_kept qp m p h = by_place_same _ _ (λ i j d e. product_kept (m i j) (factor_at qp i j) (short_entry m h i j d e) (factor_small qp i j p))

pub products_wide : (qp : ℕ) (m : ℕ → ℕ → ℤ) → qp ≤ 51 → IsShortBlock (block_of m) → AreWide (λ i j. m i j *ℤ pos (factor_at qp i j))
products_wide qp m p h i j d e = product_wide (m i j) (factor_at qp i j) (short_entry m h i j d e) (factor_small qp i j p)

-- entries of 32 bits, passed on
pub kept_wide : (m : ℕ → ℕ → ℤ) → AreWide m → by_place (λ i j. to_z w32 (of_z w32 (m i j))) ≡ by_place m
kept_wide m h = by_place_same (λ i j. to_z w32 (of_z w32 (m i j))) m (λ i j d e. to_z-of_z w32 _ (h i j d e))

pub passed_wide : (m : ℕ → ℕ → ℤ) (l : List ℤ) → l ≡ by_place m → AreWide m → map (to_z w32) (map (of_z w32) l) ≡ by_place m
passed_wide m l e h = rw e (kept_wide m h)

pub passed_products : (qp : ℕ) (m : ℕ → ℕ → ℤ) (l : List ℤ) → l ≡ by_place (λ i j. m i j *ℤ pos (factor_at qp i j)) → qp ≤ 51 → IsShortBlock (block_of m) →
    map (to_z w32) (map (of_z w32) l) ≡ by_place (λ i j. m i j *ℤ pos (factor_at qp i j))
passed_products qp m l e p h = passed_wide _ l e (products_wide qp m p h)

pub first_wide : (z : ℤ) (m : ℕ → ℕ → ℤ) → IsShort z → AreWide m → AreWide (with_first z m)
first_wide z m p h i j d e = either (i == 0 && j == 0)
  where
    either : (b : Bool) → FitsSigned w32 (if b then z else m i j)
    either true = short_wide z p
    either false = h i j d e
