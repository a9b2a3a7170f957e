-- Two rows of four samples side by side, and their sums with a residual.
use Rattle.std.proofs.Common.{◌≡◌, ◌⊎◌, inl, inr, ℕ, suc, ◌+◌, ◌*◌, ◌%◌, ◌^◌, ◌<◌, ◌≤◌, List, map, length, slice_index, get_or, drop, get_or-take}
use Rattle.std.proofs.Common.{get_or-drop, ◌++◌, [], ◌∷◌, ℤ, pos, negsuc, ◌+ℤ◌, arith, ap, ◌∙◌, w8, w16, of_z, to_z, FitsSigned, Fits, T, nat_abs}
use Rattle.std.proofs.Common.{unsigned_abs}
use Rattle.std.proofs.lemmas.Int.{ints, fits_signed_from_abs}
use Rattle.std.proofs.lemmas.List.{get_or-append_right}
use Rattle.std.proofs.lemmas.Simd.{get_or-chunk, length-chunk}
use borrow.Rule.Slice.PartMut.{mid_of}
use lib.Lanes.{Each1, pick_l, zip2, chunk}
use lib.Signed.{non_neg}
use mir.Val.{bits}
use Rattle.h264_plane.specs.Clip.{clip1, IsIn}
use Rattle.h264_inter.proofs.SignedLanes.{Lane, natural_lane, signed_lane, sum_lane, sample_lane, clipped_of, handed}
use Rattle.h264_plane.proofs.Below.{below_4}

pub second_beside : (a b : List ℕ) → length a ≡ 4 → (n : ℕ) → n < 4 →
    slice_index (pick_l 0 (a ++ b) (0 ∷ 1 ∷ 2 ∷ 3 ∷ 4 ∷ 5 ∷ 6 ∷ 7 ∷ [])) (4 + n) ≡ slice_index b n
second_beside a b e =
    below_4 _
    (get_or-append_right a b 4 4 0 e (omega arith)) (get_or-append_right a b 4 5 0 e (omega arith)) (get_or-append_right a b 4 6 0 e (omega arith))
    (get_or-append_right a b 4 7 0 e (omega arith))

-- ---- sums of eight samples and a residual

-- as a check sees them
abbrev pub sums_of : List ℕ → List ℤ → List ℕ
sums_of a r = clipped_of (zip2 (λ x y. (x + y) % 2 ^ bits w16) (map (λ x. x) a) (map (of_z w16) r))

abbrev pub sum_at : List ℕ → List ℤ → ℕ → ℕ
sum_at a r k = clip1 (pos (get_or a k 0) +ℤ get_or r k (pos 0))

abs_small : (z : ℤ) → IsIn 512 z → unsigned_abs z ≤ 512
abs_small (pos n) h = omega (arith, ints, h.high)
abs_small (negsuc n) h = omega (arith, ints, h.low)

small_fits : (z : ℤ) → IsIn 512 z → FitsSigned w16 z
small_fits z h = fits_signed_from_abs w16 z (omega (arith, abs_small z h))

sum_fits : (n : ℕ) (z : ℤ) → n < 256 → IsIn 512 z → FitsSigned w16 (pos n +ℤ z)
sum_fits n z p h = fits_signed_from_abs w16 (pos n +ℤ z) (omega (arith, ints, p, abs_small z h))

pub sums_lane : (a : List ℕ) (r : List ℤ) (k : ℕ) → length a ≡ 8 → length r ≡ 8 → k < 8 → get_or a k 0 < 256 → IsIn 512 (get_or r k (pos 0)) →
    Lane w16 (sums_of a r) k (pos (sum_at a r k))
sums_lane a r k ea er p h s =
    sample_lane _ k _ (sum_lane w16 _ _ k _ _ (natural_lane w16 a k ea p (omega (arith, h))) (signed_lane w16 r k er p (small_fits _ s)) (sum_fits _ _ h s))

each_of : (P : ℕ → Type 0) (xs : List ℕ) → ((k : ℕ) → k < length xs → P (get_or xs k 0)) → Each1 P xs
each_of P [] h = tt
each_of P (x ∷ xs) h = (h 0 (omega arith), each_of P xs (λ k p. h (suc k) (omega (arith, p))))

byte : (z : ℤ) → clip1 z < 256
byte (pos n) = omega arith
byte (negsuc n) = omega arith

pub all_bytes : (xs : List ℕ) (f : ℕ → ℤ) → length xs ≡ 8 → ((k : ℕ) → k < 8 → Lane w16 xs k (pos (clip1 (f k)))) →
    Each1 (λ m. T (non_neg (to_z w16 m)) × Fits w8 (nat_abs (to_z w16 m))) xs
all_bytes xs f e h = each_of (λ m. T (non_neg (to_z w16 m)) × Fits w8 (nat_abs (to_z w16 m))) xs (λ k p.
    (let q : k < 8 = omega (arith, p, e) in let l = h k q in rw (l.read) (tt, record { fits = byte (f k) })))

-- the numbers of a residual are handed on
abbrev pub handed_on : List ℤ → List ℤ
handed_on r = map (to_z w16) (map (of_z w16) (chunk 0 8 r))

pub handed_small : (r : List ℤ) (k : ℕ) → length r ≡ 8 → k < 8 → IsIn 512 (get_or r k (pos 0)) → get_or (handed_on r) k (pos 0) ≡ get_or r k (pos 0)
handed_small r k e p h =
    let place : 0 + k ≡ k = omega arith in
    handed w16 (chunk 0 8 r) k (get_or r k (pos 0)) (omega (arith, length-chunk 0 8 r (omega (arith, e)), p))
    (get_or-chunk 0 8 r k (pos 0) p ∙ ap (λ n. get_or r n (pos 0)) place) (small_fits _ h)

-- ---- parts of lists

pub part_at : {A : Type 0} (start n : ℕ) (l : List A) (k : ℕ) (d : A) → k < n → get_or (mid_of start n l) k d ≡ get_or l (start + k) d
part_at start n l k d p = get_or-take n (drop start l) k d p ∙ get_or-drop start l k d

-- ---- four rows

pub rows_added : (place across : ℕ) (old own new : List ℕ) (r : List ℤ) → 4 ≤ across →
    ((i : ℕ) → i < 4 → slice_index own (place + i) ≡ clip1 (pos (slice_index old (place + i)) +ℤ get_or r i (pos 0))) →
    ((i : ℕ) → i < 4 → slice_index own (place + across + i) ≡ clip1 (pos (slice_index old (place + across + i)) +ℤ get_or r (4 + i) (pos 0))) →
    ((k : ℕ) → (k < place) ⊎ (place + 4 ≤ k) → (k < place + across) ⊎ (place + across + 4 ≤ k) → slice_index own k ≡ slice_index old k) →
    ((i : ℕ) → i < 4 → slice_index new (place + 2 * across + i) ≡ clip1 (pos (slice_index own (place + 2 * across + i)) +ℤ get_or r (8 + i) (pos 0))) →
    ((i : ℕ) → i < 4 → slice_index new (place + 3 * across + i) ≡ clip1 (pos (slice_index own (place + 3 * across + i)) +ℤ get_or r (12 + i) (pos 0))) →
    ((k : ℕ) → (k < place + 2 * across) ⊎ (place + 2 * across + 4 ≤ k) → (k < place + 3 * across) ⊎ (place + 3 * across + 4 ≤ k) →
    slice_index new k ≡ slice_index own k) →
    (i j : ℕ) → i < 4 → j < 4 → slice_index new (place + across * j + i) ≡
    clip1 (pos (slice_index old (place + across * j + i)) +ℤ get_or r (4 * j + i) (pos 0))
rows_added place across old own new r wide first second kept third fourth kept' i j p q =
    let at : ℕ → ℕ = λ j. place + across * j + i in
    below_4 (λ j. slice_index new (place + across * j + i) ≡ clip1 (pos (slice_index old (place + across * j + i)) +ℤ get_or r (4 * j + i) (pos 0)))
    (let e : at 0 ≡ place + i = omega arith in
    let n : 4 * 0 + i ≡ i = omega arith in
    rw (e, n) (kept' (place + i) (inl (omega (arith, wide, p))) (inl (omega (arith, wide, p))) ∙ first i p))
    (let e : at 1 ≡ place + across + i = omega arith in
    let n : 4 * 1 + i ≡ 4 + i = omega arith in
    rw (e, n) (kept' (place + across + i) (inl (omega (arith, wide, p))) (inl (omega (arith, wide, p))) ∙ second i p))
    (let e : at 2 ≡ place + 2 * across + i = omega arith in
    let n : 4 * 2 + i ≡ 8 + i = omega arith in
    rw (e, n) (third i p ∙ ap (λ z. clip1 (pos z +ℤ get_or r (8 + i) (pos 0)))
    (kept (place + 2 * across + i) (inr (omega (arith, wide))) (inr (omega (arith, wide))))))
    (let e : at 3 ≡ place + 3 * across + i = omega arith in
    let n : 4 * 3 + i ≡ 12 + i = omega arith in
    rw (e, n) (fourth i p ∙ ap (λ z. clip1 (pos z +ℤ get_or r (12 + i) (pos 0)))
    (kept (place + 3 * across + i) (inr (omega (arith, wide))) (inr (omega (arith, wide))))))
    j q
