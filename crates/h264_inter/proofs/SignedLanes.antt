-- Vectors of eight signed numbers, as a check sees them: a list of their bits, of which one lane has a known value.
use Rattle.std.proofs.Common.{◌≡◌, ℕ, ◌+◌, ◌-◌, ◌*◌, ◌%◌, ◌^◌, ◌<◌, ◌≤◌, Bool, false, true, cond, ◌++◌, ◌∷◌, [], List, map, map-id, length, get_or, replicate}
use Rattle.std.proofs.Common.{refl, sym, ap, ◌∙◌, arith, ltb, T, nat_abs, unsigned_abs, w8, w16, w32, ℤ, pos, negsuc, ◌+ℤ◌, ◌-ℤ◌, ◌*ℤ◌, to_z, of_z}
use Rattle.std.proofs.Common.{FitsSigned, inl, inr}
use Rattle.std.proofs.Math.Facts.{sfits_widen}
use Rattle.std.proofs.lemmas.Simd.{get_or-zip2, get_or-replicate, length-zip2, tops_compared, get_or-sel_l, length-sel_l, pick_l_left, Each1-from_get_or}
use Rattle.std.proofs.lemmas.Grind.{common_steps}
use Rattle.std.proofs.lemmas.Int.{ints, to_z-of_z, of_z-to_z, wrapping_add_is, wrapping_sub_is, wrapping_mul_is, int_wrap_fits, fits_signed_from_abs}
use Rattle.std.proofs.lemmas.Int.{unsigned_abs-mul}
use Rattle.std.proofs.Math.Nat.{mod-lt}
use Rattle.std.proofs.lemmas.Nat.{pow_pos, mul-le}
use Rattle.std.proofs.lemmas.Bool.{cases_lt}
use Rattle.std.proofs.lemmas.List.{length-map, get_or-map, get_or_past}
use lib.Lanes.{Each1, zip2, sel_l, top, pick_l, all_below}
use lib.Signed.{lt_z, shr_z, non_neg}
use mir.Syntax.{Width}
use mir.Val.{bits, hbits, Fits}
use Rattle.h264_plane.specs.Clip.{clip1}
use Rattle.h264_plane.proofs.Below.{below_8}
use Rattle.h264_plane.proofs.Lanes.{swizzled}

-- lane k of a vector of eight has the value z
pub record Lane (w : Width) (xs : List ℕ) (k : ℕ) (z : ℤ) : Type 0 where
  pub long : length xs ≡ 8
  pub inside : k < 8
  pub read : to_z w (get_or xs k 0) ≡ z
  pub bits : get_or xs k 0 ≡ of_z w z
  pub fits : FitsSigned w z

lane : (w : Width) (xs : List ℕ) (k : ℕ) (z : ℤ) → length xs ≡ 8 → k < 8 → FitsSigned w z → get_or xs k 0 ≡ of_z w z → Lane w xs k z
lane w xs k z e p f h = record { long = e; inside = p; read = ap (to_z w) h ∙ to_z-of_z w z f; bits = h; fits = f }

-- ---- where lanes come from

pub signed_lane : (w : Width) (a : List ℤ) (k : ℕ) → length a ≡ 8 → k < 8 → FitsSigned w (get_or a k (pos 0)) → Lane w (map (of_z w) a) k (get_or a k (pos 0))
signed_lane w a k e p f = lane w (map (of_z w) a) k (get_or a k (pos 0)) (length-map _ _ ∙ e) p f (get_or-map (of_z w) a k (pos 0) 0 (omega (arith, e)))

pub natural_lane : (w : Width) (v : List ℕ) (k : ℕ) → length v ≡ 8 → k < 8 → get_or v k 0 < 2 ^ hbits w → Lane w (map (λ x. x) v) k (pos (get_or v k 0))
natural_lane w v k e p h = lane w (map (λ x. x) v) k (pos (get_or v k 0)) (length-map _ _ ∙ e) p (record { sfits = h })
    (ap (λ (l : List ℕ). get_or l k 0) (map-id v))

pub same_lane : (w : Width) (z : ℤ) (k : ℕ) → k < 8 → FitsSigned w z → Lane w (map (of_z w) (replicate 8 z)) k z
same_lane w z k p f =
    lane w (map (of_z w) (replicate 8 z)) k z refl p f (get_or-map (of_z w) (replicate 8 z) k (pos 0) 0 p ∙ ap (of_z w) (get_or-replicate 8 k z (pos 0) p))

-- ---- what operations make of them

pub recast_lane : (w y : Width) (xs : List ℕ) (k : ℕ) (z : ℤ) → Lane w xs k z → FitsSigned y z → Lane y (map (λ m. of_z y (to_z w m)) xs) k z
recast_lane w y xs k z x f =
    lane y (map (λ m. of_z y (to_z w m)) xs) k z (length-map _ _ ∙ x.long) x.inside f
    (get_or-map (λ m. of_z y (to_z w m)) xs k 0 0 (omega (arith, x.long, x.inside)) ∙ ap (of_z y) x.read)

both : (w : Width) (f : ℕ → ℕ → ℕ) (xs ys : List ℕ) (k : ℕ) (x y : ℤ) → Lane w xs k x → Lane w ys k y → get_or (zip2 f xs ys) k 0 ≡ f (of_z w x) (of_z w y)
both w f xs ys k x y a b =
    get_or-zip2 f xs ys k 0 0 0 (omega (arith, a.long, a.inside)) (omega (arith, b.long, b.inside))
    ∙ ap (λ m. f m (get_or ys k 0)) a.bits ∙ ap (λ m. f (of_z w x) m) b.bits

-- the bits of a result that fits
bits_of : (w : Width) (n : ℕ) (z : ℤ) → n < 2 ^ bits w → to_z w n ≡ z → n ≡ of_z w z
bits_of w n z p h = sym (of_z-to_z w n p) ∙ ap (of_z w) h

left_of : (n w : ℕ) → n % 2 ^ w < 2 ^ w
left_of n w = mod-lt n (pow_pos w)

pub sum_lane : (w : Width) (xs ys : List ℕ) (k : ℕ) (x y : ℤ) → Lane w xs k x → Lane w ys k y → FitsSigned w (x +ℤ y) →
    Lane w (zip2 (λ a b. (a + b) % 2 ^ bits w) xs ys) k (x +ℤ y)
sum_lane w xs ys k x y a b f =
    lane w (zip2 (λ a b. (a + b) % 2 ^ bits w) xs ys) k (x +ℤ y) (length-zip2 _ xs ys (a.long ∙ sym b.long) ∙ a.long) a.inside f
    (both w (λ a b. (a + b) % 2 ^ bits w) xs ys k x y a b ∙ bits_of w _ _ (left_of _ (bits w)) (wrapping_add_is w x y a.fits b.fits ∙ int_wrap_fits w _ f))

pub difference_lane : (w : Width) (xs ys : List ℕ) (k : ℕ) (x y : ℤ) → Lane w xs k x → Lane w ys k y → FitsSigned w (x -ℤ y) →
    Lane w (zip2 (λ a b. (a + (2 ^ bits w - b)) % 2 ^ bits w) xs ys) k (x -ℤ y)
difference_lane w xs ys k x y a b f =
    lane w (zip2 (λ a b. (a + (2 ^ bits w - b)) % 2 ^ bits w) xs ys) k (x -ℤ y) (length-zip2 _ xs ys (a.long ∙ sym b.long) ∙ a.long) a.inside f
    (both w (λ a b. (a + (2 ^ bits w - b)) % 2 ^ bits w) xs ys k x y a b ∙
    bits_of w _ _ (left_of _ (bits w)) (wrapping_sub_is w x y a.fits b.fits ∙ int_wrap_fits w _ f))

pub product_lane : (w : Width) (xs ys : List ℕ) (k : ℕ) (x y : ℤ) → Lane w xs k x → Lane w ys k y → FitsSigned w (x *ℤ y) →
    Lane w (zip2 (λ a b. (a * b) % 2 ^ bits w) xs ys) k (x *ℤ y)
product_lane w xs ys k x y a b f =
    lane w (zip2 (λ a b. (a * b) % 2 ^ bits w) xs ys) k (x *ℤ y) (length-zip2 _ xs ys (a.long ∙ sym b.long) ∙ a.long) a.inside f
    (both w (λ a b. (a * b) % 2 ^ bits w) xs ys k x y a b ∙ bits_of w _ _ (left_of _ (bits w)) (wrapping_mul_is w x y a.fits b.fits ∙ int_wrap_fits w _ f))

shifted_fits : (z : ℤ) → FitsSigned w16 z → FitsSigned w16 (shr_z z 32)
shifted_fits (pos n) h = record { sfits = let s = h.sfits in omega arith }
shifted_fits (negsuc n) h = record { sfits = let s = h.sfits in omega arith }

pub shifted_lane : (xs : List ℕ) (k : ℕ) (x : ℤ) → Lane w16 xs k x →
    Lane w16 (zip2 (λ a b. of_z w16 (shr_z (to_z w16 a) (2 ^ b))) xs (map (of_z w16) (replicate 8 (pos 5)))) k (shr_z x 32)
shifted_lane xs k x a =
    let five : Lane w16 (map (of_z w16) (replicate 8 (pos 5))) k (pos 5) = same_lane w16 (pos 5) k a.inside (record { sfits = omega arith }) in
    lane w16 (zip2 (λ a b. of_z w16 (shr_z (to_z w16 a) (2 ^ b))) xs (map (of_z w16) (replicate 8 (pos 5)))) k (shr_z x 32)
    (length-zip2 _ xs _ (a.long ∙ sym five.long) ∙ a.long) a.inside (shifted_fits x a.fits)
    (both w16 (λ a b. of_z w16 (shr_z (to_z w16 a) (2 ^ b))) xs _ k x (pos 5) a five ∙ ap (λ z. of_z w16 (shr_z z 32)) (to_z-of_z w16 x a.fits))

-- one of two, by a comparison
cond_of : (f : ℤ → ℕ) (b : Bool) (x y : ℤ) → cond b (f x) (f y) ≡ f (cond b x y)
cond_of f true x y = refl
cond_of f false x y = refl

chosen : (w : Width) (xs ys us vs : List ℕ) (k : ℕ) (x y u v : ℤ) → Lane w xs k x → Lane w ys k y → Lane w us k u → Lane w vs k v →
    FitsSigned w (cond (lt_z x y) u v) →
    Lane w (sel_l (map (top (hbits w)) (zip2 (λ a b. cond (lt_z (to_z w a) (to_z w b)) (2 ^ bits w - 1) 0) xs ys)) us vs) k (cond (lt_z x y) u v)
chosen w xs ys us vs k x y u v a b c d f =
    let t = λ (m n : ℕ). lt_z (to_z w m) (to_z w n) in
    let m = zip2 t xs ys in
    let lm : length m ≡ 8 = length-zip2 t xs ys (a.long ∙ sym b.long) ∙ a.long in
    let tops = tops_compared w t xs ys in
    lane w (sel_l (map (top (hbits w)) (zip2 (λ a b. cond (lt_z (to_z w a) (to_z w b)) (2 ^ bits w - 1) 0) xs ys)) us vs) k (cond (lt_z x y) u v)
    (ap (λ n. length (sel_l n us vs)) tops ∙ length-sel_l m us vs (lm ∙ sym c.long) (lm ∙ sym d.long) ∙ lm) a.inside f
    (ap (λ n. get_or (sel_l n us vs) k 0) tops
    ∙ get_or-sel_l m us vs k 0 (omega (arith, lm, a.inside)) (omega (arith, c.long, a.inside)) (omega (arith, d.long, a.inside))
    ∙ ap (λ n. cond n (get_or us k 0) (get_or vs k 0)) (get_or-zip2 t xs ys k 0 0 false (omega (arith, a.long, a.inside)) (omega (arith, b.long, a.inside)))
    ∙ rw (a.read, b.read, c.bits, d.bits) (cond_of (of_z w) (lt_z x y) u v))

either_fits : (w : Width) (b : Bool) (x y : ℤ) → FitsSigned w x → FitsSigned w y → FitsSigned w (cond b x y)
either_fits w true x y f g = f
either_fits w false x y f g = g

pub larger_lane : (w : Width) (xs : List ℕ) (k : ℕ) (x y : ℤ) → Lane w xs k x → FitsSigned w y →
    Lane w (sel_l (map (top (hbits w)) (zip2 (λ a b. cond (lt_z (to_z w a) (to_z w b)) (2 ^ bits w - 1) 0) xs (map (of_z w) (replicate 8 y))))
    (map (of_z w) (replicate 8 y)) xs) k (cond (lt_z x y) y x)
larger_lane w xs k x y a f =
    let b = same_lane w y k a.inside f in
    chosen w xs (map (of_z w) (replicate 8 y)) (map (of_z w) (replicate 8 y)) xs k x y y x a b b a (either_fits w _ _ _ f a.fits)

pub lesser_lane : (w : Width) (xs : List ℕ) (k : ℕ) (x y : ℤ) → Lane w xs k x → FitsSigned w y →
    Lane w (sel_l (map (top (hbits w)) (zip2 (λ a b. cond (lt_z (to_z w a) (to_z w b)) (2 ^ bits w - 1) 0) xs (map (of_z w) (replicate 8 y)))) xs
    (map (of_z w) (replicate 8 y))) k (cond (lt_z x y) x y)
lesser_lane w xs k x y a f =
    let b = same_lane w y k a.inside f in
    chosen w xs (map (of_z w) (replicate 8 y)) xs (map (of_z w) (replicate 8 y)) k x y x y a b a b (either_fits w _ _ _ a.fits f)

-- ---- what is read of them

pub signed_read : (w : Width) (xs : List ℕ) (k : ℕ) (z : ℤ) → Lane w xs k z → get_or (map (to_z w) xs) k (pos 0) ≡ z
signed_read w xs k z x = get_or-map (to_z w) xs k 0 (pos 0) (omega (arith, x.long, x.inside)) ∙ x.read

pub natural_read : (w : Width) (xs : List ℕ) (k n : ℕ) → Lane w xs k (pos n) → get_or (map (λ m. nat_abs (to_z w m)) xs) k 0 ≡ n
natural_read w xs k n x = get_or-map (λ m. nat_abs (to_z w m)) xs k 0 0 (omega (arith, x.long, x.inside)) ∙ ap nat_abs x.read

-- a vector that is handed on
pub handed : (w : Width) (a : List ℤ) (k : ℕ) (z : ℤ) → k < length a → get_or a k (pos 0) ≡ z → FitsSigned w z →
    get_or (map (to_z w) (map (of_z w) a)) k (pos 0) ≡ z
handed w a k z p h f =
    get_or-map (to_z w) (map (of_z w) a) k 0 (pos 0) (omega (arith, p, length-map a (of_z w)))
    ∙ ap (to_z w) (get_or-map (of_z w) a k (pos 0) 0 p ∙ ap (of_z w) h) ∙ to_z-of_z w z f

-- a weight that is handed on: it is not 0, so that there is such a lane
pub weight_handed : (a : List ℤ) (i : ℕ) (z : ℤ) → get_or a i (pos 0) ≡ z → 0 < unsigned_abs z → unsigned_abs z ≤ 64 →
    get_or (map (to_z w8) (map (of_z w8) a)) i (pos 0) ≡ z
weight_handed a i z h p s =
    let inside : i < length a = elim (cases_lt i (length a)) [
      | inl l ↦ l
      | inr g ↦ let none : unsigned_abs z ≡ 0 = ap unsigned_abs (sym h ∙ get_or_past a i (pos 0) g) in omega (arith, none, p)
    ] in
    handed w8 a i z inside h (fits_signed_from_abs w8 z (omega (arith, s)))

-- ---- lists of lanes

pub all_fit : (w y : Width) (xs : List ℕ) (f : ℕ → ℤ) → length xs ≡ 8 → ((k : ℕ) → k < 8 → Lane w xs k (f k)) → ((k : ℕ) → k < 8 → FitsSigned y (f k)) →
    Each1 (λ m. FitsSigned y (to_z w m)) xs
all_fit w y xs f e h g = Each1-from_get_or (λ m. FitsSigned y (to_z w m)) xs 0 (λ k p. (let q : k < 8 = omega (arith, p, e) in rw ((h k q).read) (g k q)))

pub all_natural : (xs : List ℕ) (f : ℕ → ℕ) → length xs ≡ 8 → ((k : ℕ) → k < 8 → Lane w16 xs k (pos (f k))) →
    Each1 (λ m. T (non_neg (to_z w16 m)) × Fits w16 (nat_abs (to_z w16 m))) xs
all_natural xs f e h = Each1-from_get_or (λ m. T (non_neg (to_z w16 m)) × Fits w16 (nat_abs (to_z w16 m))) xs 0 (λ k p.
    (let q : k < 8 = omega (arith, p, e) in let l = h k q in let s = l.fits.sfits in rw (l.read) (tt, record { fits = omega (arith, s) })))

-- ---- limits that change nothing, and those of a sample

above_least : (z : ℤ) → FitsSigned w16 z → cond (lt_z z (negsuc 32767)) (negsuc 32767) z ≡ z
above_least (pos n) f = refl
above_least (negsuc n) f = let s = f.sfits in let e : ltb 32767 n ≡ false = grind arith in rw e refl

below_most : (z : ℤ) → FitsSigned w16 z → cond (lt_z z (pos 32767)) z (pos 32767) ≡ z
below_most (pos n) f = let s = f.sfits in grind arith
below_most (negsuc n) f = refl

as_sample : (z : ℤ) → cond (lt_z (cond (lt_z z (pos 0)) (pos 0) z) (pos 255)) (cond (lt_z z (pos 0)) (pos 0) z) (pos 255) ≡ pos (clip1 z)
as_sample (pos n) = grind arith
as_sample (negsuc n) = refl

-- what the limits make of a vector
abbrev least_of : (w : Width) → ℤ → List ℕ → List ℕ
least_of w z xs = sel_l (map (top (hbits w)) (zip2 (λ a b. cond (lt_z (to_z w a) (to_z w b)) (2 ^ bits w - 1) 0) xs (map (of_z w) (replicate 8 z))))
    (map (of_z w) (replicate 8 z)) xs

abbrev most_of : (w : Width) → ℤ → List ℕ → List ℕ
most_of w z xs = sel_l (map (top (hbits w)) (zip2 (λ a b. cond (lt_z (to_z w a) (to_z w b)) (2 ^ bits w - 1) 0) xs (map (of_z w) (replicate 8 z)))) xs
    (map (of_z w) (replicate 8 z))

abbrev pub held_of : List ℕ → List ℕ
held_of xs = most_of w32 (pos 32767) (least_of w32 (negsuc 32767) xs)

abbrev pub clipped_of : List ℕ → List ℕ
clipped_of xs = most_of w16 (pos 255) (least_of w16 (pos 0) xs)

pub held_lane : (xs : List ℕ) (k : ℕ) (z : ℤ) → Lane w32 xs k z → FitsSigned w16 z →
    Lane w32 (held_of xs) k z
held_lane xs k z x f =
    let a = larger_lane w32 xs k z (negsuc 32767) x (record { sfits = omega arith }) in
    let b = lesser_lane w32 _ k _ (pos 32767) a (record { sfits = omega arith }) in
    rw (sym (below_most z f)) (rw (sym (above_least z f)) b)

pub sample_lane : (xs : List ℕ) (k : ℕ) (z : ℤ) → Lane w16 xs k z → Lane w16 (clipped_of xs) k (pos (clip1 z))
sample_lane xs k z x =
    let a = larger_lane w16 xs k z (pos 0) x (record { sfits = omega arith }) in
    rw (sym (as_sample z)) (lesser_lane w16 _ k _ (pos 255) a (record { sfits = omega arith }))

-- ---- a choice of eight out of sixteen lanes

picked_lane : (a : List ℤ) (ks : List ℕ) (k : ℕ) → length a ≡ 16 → T (all_below 16 ks) → k < length ks → get_or ks k 0 < 16 →
    FitsSigned w8 (get_or a (get_or ks k 0) (pos 0)) →
    get_or (map (to_z w8) (pick_l 0 (map (of_z w8) a ++ map (of_z w8) a) ks)) k (pos 0) ≡ get_or a (get_or ks k 0) (pos 0)
picked_lane a ks k e t p q f =
    let c = map (of_z w8) a in
    let lc : length c ≡ 16 = length-map _ _ ∙ e in
    ap (λ (l : List ℕ). get_or (map (to_z w8) l) k (pos 0)) (pick_l_left 0 c c 16 ks lc t)
    ∙ get_or-map (to_z w8) (map (λ j. get_or c j 0) ks) k 0 (pos 0) (omega (arith, length-map ks (λ j. get_or c j 0)))
    ∙ ap (to_z w8) (get_or-map (λ j. get_or c j 0) ks k 0 0 p ∙ get_or-map (of_z w8) a (get_or ks k 0) (pos 0) 0 (omega (arith, e)))
    ∙ to_z-of_z w8 _ f

abbrev even_places : List ℕ
even_places = 0 ∷ 2 ∷ 4 ∷ 6 ∷ 8 ∷ 10 ∷ 12 ∷ 14 ∷ []

abbrev odd_places : List ℕ
odd_places = 1 ∷ 3 ∷ 5 ∷ 7 ∷ 9 ∷ 11 ∷ 13 ∷ 15 ∷ []

even_place : (k : ℕ) → k < 8 → get_or even_places k 0 ≡ 2 * k
even_place k p = grind (arith, common_steps)

odd_place : (k : ℕ) → k < 8 → get_or odd_places k 0 ≡ 2 * k + 1
odd_place k p = grind (arith, common_steps)

pub even_byte : (v : List ℕ) (k : ℕ) → length v ≡ 16 → k < 8 → get_or (pick_l 0 (v ++ v) even_places) k 0 ≡ get_or v (2 * k) 0
even_byte v k e p = swizzled 16 v even_places k (2 * k) e tt p (even_place k p)

pub odd_byte : (v : List ℕ) (k : ℕ) → length v ≡ 16 → k < 8 → get_or (pick_l 0 (v ++ v) odd_places) k 0 ≡ get_or v (2 * k + 1) 0
odd_byte v k e p = swizzled 16 v odd_places k (2 * k + 1) e tt p (odd_place k p)

pub even_lane : (a : List ℤ) (k : ℕ) → length a ≡ 16 → k < 8 → FitsSigned w8 (get_or a (2 * k) (pos 0)) →
    get_or (map (to_z w8) (pick_l 0 (map (of_z w8) a ++ map (of_z w8) a) even_places)) k (pos 0) ≡ get_or a (2 * k) (pos 0)
even_lane a k e p f =
    let place = even_place k p in
    picked_lane a even_places k e tt p (omega (arith, place, p)) (rw place f) ∙ ap (λ j. get_or a j (pos 0)) place

pub odd_lane : (a : List ℤ) (k : ℕ) → length a ≡ 16 → k < 8 → FitsSigned w8 (get_or a (2 * k + 1) (pos 0)) →
    get_or (map (to_z w8) (pick_l 0 (map (of_z w8) a ++ map (of_z w8) a) odd_places)) k (pos 0) ≡ get_or a (2 * k + 1) (pos 0)
odd_lane a k e p f =
    let place = odd_place k p in
    picked_lane a odd_places k e tt p (omega (arith, place, p)) (rw place f) ∙ ap (λ j. get_or a j (pos 0)) place

-- ---- sums of two products

sum_abs : (x y : ℤ) → unsigned_abs (x +ℤ y) ≤ unsigned_abs x + unsigned_abs y
sum_abs (pos m) (pos n) = omega arith
sum_abs (pos m) (negsuc n) = omega (arith, ints)
sum_abs (negsuc m) (pos n) = omega (arith, ints)
sum_abs (negsuc m) (negsuc n) = omega arith

sum_size : (x y : ℤ) → unsigned_abs x ≤ 16320 → unsigned_abs y ≤ 16320 → FitsSigned w16 (x +ℤ y)
sum_size x y p q = fits_signed_from_abs w16 (x +ℤ y) (omega (arith, sum_abs x y, p, q))

product_size : (n : ℕ) (z : ℤ) → n < 256 → unsigned_abs z ≤ 64 → unsigned_abs (pos n *ℤ z) ≤ 16320
product_size n z p q = omega (arith, unsigned_abs-mul (pos n) z, mul-le n (unsigned_abs z) 255 64 (omega (arith, p)) q)

abbrev pub weighted_of : List ℕ → List ℕ → List ℤ → List ℤ → List ℕ
weighted_of a b f g =
    zip2 (λ x y. (x + y) % 2 ^ bits w32)
    (zip2 (λ x y. (x * y) % 2 ^ bits w32) (map (λ x. x) a) (map (λ m. of_z w32 (to_z w8 m)) (map (of_z w8) f)))
    (zip2 (λ x y. (x * y) % 2 ^ bits w32) (map (λ x. x) b) (map (λ m. of_z w32 (to_z w8 m)) (map (of_z w8) g)))

abbrev pub weighted_at : List ℕ → List ℕ → List ℤ → List ℤ → ℕ → ℤ
weighted_at a b f g k = pos (get_or a k 0) *ℤ get_or f k (pos 0) +ℤ pos (get_or b k 0) *ℤ get_or g k (pos 0)

one_product : (a : List ℕ) (f : List ℤ) (k : ℕ) → length a ≡ 8 → length f ≡ 8 → k < 8 → get_or a k 0 < 256 → unsigned_abs (get_or f k (pos 0)) ≤ 64 →
    Lane w32 (zip2 (λ x y. (x * y) % 2 ^ bits w32) (map (λ x. x) a) (map (λ m. of_z w32 (to_z w8 m)) (map (of_z w8) f))) k
    (pos (get_or a k 0) *ℤ get_or f k (pos 0))
one_product a f k ea ef p la lf =
    product_lane w32 _ _ k _ _ (natural_lane w32 a k ea p (omega (arith, la)))
    (recast_lane w8 w32 _ k _ (signed_lane w8 f k ef p (fits_signed_from_abs w8 _ (omega (arith, lf)))) (fits_signed_from_abs w32 _ (omega (arith, lf))))
    (fits_signed_from_abs w32 _ (omega (arith, product_size (get_or a k 0) (get_or f k (pos 0)) la lf)))

pub weighted_fits : (a b : List ℕ) (f g : List ℤ) (k : ℕ) → get_or a k 0 < 256 → get_or b k 0 < 256 → unsigned_abs (get_or f k (pos 0)) ≤ 64 →
    unsigned_abs (get_or g k (pos 0)) ≤ 64 → FitsSigned w16 (weighted_at a b f g k)
weighted_fits a b f g k la lb lf lg =
    sum_size (pos (get_or a k 0) *ℤ get_or f k (pos 0)) (pos (get_or b k 0) *ℤ get_or g k (pos 0))
    (product_size (get_or a k 0) (get_or f k (pos 0)) la lf) (product_size (get_or b k 0) (get_or g k (pos 0)) lb lg)

pub weighted_lane : (a b : List ℕ) (f g : List ℤ) (k : ℕ) → length a ≡ 8 → length b ≡ 8 → length f ≡ 8 → length g ≡ 8 → k < 8 →
    get_or a k 0 < 256 → get_or b k 0 < 256 → unsigned_abs (get_or f k (pos 0)) ≤ 64 → unsigned_abs (get_or g k (pos 0)) ≤ 64 →
    Lane w32 (held_of (weighted_of a b f g)) k (weighted_at a b f g k)
weighted_lane a b f g k ea eb ef eg p la lb lf lg =
    let fits = weighted_fits a b f g k la lb lf lg in
    held_lane _ k _ (sum_lane w32 _ _ k _ _ (one_product a f k ea ef p la lf) (one_product b g k eb eg p lb lg) (sfits_widen tt fits)) fits

-- a weight that was chosen, handed on
pub weight_is : (a b : List ℤ) (i k : ℕ) (z : ℤ) → i < length a → k < length b → get_or a i (pos 0) ≡ z → unsigned_abs z ≤ 64 →
    (FitsSigned w8 (get_or (map (to_z w8) (map (of_z w8) a)) i (pos 0)) → get_or b k (pos 0) ≡ get_or (map (to_z w8) (map (of_z w8) a)) i (pos 0)) →
    get_or (map (to_z w8) (map (of_z w8) b)) k (pos 0) ≡ z
weight_is a b i k z p q h s of =
    let fits = fits_signed_from_abs w8 z (omega (arith, s)) in
    let given = handed w8 a i z p h fits in
    handed w8 b k z q (of (rw given fits) ∙ given) fits

-- the sum of two products, handed on
pub pair_is : (r : List ℤ) (k m n : ℕ) (f g y z : ℤ) → length r ≡ 8 → k < 8 → m < 256 → n < 256 → f ≡ y → g ≡ z → unsigned_abs y ≤ 64 → unsigned_abs z ≤ 64 →
    get_or r k (pos 0) ≡ pos m *ℤ f +ℤ pos n *ℤ g → get_or (map (to_z w16) (map (of_z w16) r)) k (pos 0) ≡ pos m *ℤ y +ℤ pos n *ℤ z
pair_is r k m n f g y z e p a b h i s t is =
    handed w16 r k (pos m *ℤ y +ℤ pos n *ℤ z) (omega (arith, e, p)) (is ∙ rw (h, i) refl)
    (sum_size (pos m *ℤ y) (pos n *ℤ z) (product_size m y a s) (product_size n z b t))

-- and its size
pub pair_size : (m n : ℕ) (y z : ℤ) → m < 256 → n < 256 → unsigned_abs (pos m *ℤ y +ℤ pos n *ℤ z) ≤ 255 * (unsigned_abs y + unsigned_abs z)
pair_size m n y z a b =
    let first = mul-le m (unsigned_abs y) 255 (unsigned_abs y) (omega (arith, a)) (omega arith) in
    let second = mul-le n (unsigned_abs z) 255 (unsigned_abs z) (omega (arith, b)) (omega arith) in
    omega (arith, sum_abs (pos m *ℤ y) (pos n *ℤ z), unsigned_abs-mul (pos m) y, unsigned_abs-mul (pos n) z, first, second)

-- a vector of small numbers that is handed on
pub small_handed : (a : List ℤ) (k n : ℕ) → length a ≡ 8 → k < 8 → unsigned_abs (get_or a k (pos 0)) ≤ n → n ≤ 10200 →
    get_or (map (to_z w16) (map (of_z w16) a)) k (pos 0) ≡ get_or a k (pos 0)
small_handed a k n e p h l = handed w16 a k (get_or a k (pos 0)) (omega (arith, e, p)) refl (fits_signed_from_abs w16 _ (omega (arith, h, l)))

-- ---- sums and differences, rounded

abbrev pub three_of : List ℤ → List ℤ → List ℤ → List ℕ
three_of a b c =
    clipped_of (zip2 (λ x y. of_z w16 (shr_z (to_z w16 x) (2 ^ y)))
    (zip2 (λ x y. (x + y) % 2 ^ bits w16) (zip2 (λ x y. (x + y) % 2 ^ bits w16) (zip2 (λ x y. (x + y) % 2 ^ bits w16) (map (of_z w16) a) (map (of_z w16) b))
    (map (of_z w16) c)) (map (of_z w16) (replicate 8 (pos 16))))
    (map (of_z w16) (replicate 8 (pos 5))))

abbrev pub three_at : List ℤ → List ℤ → List ℤ → ℕ → ℕ
three_at a b c k = clip1 (shr_z (get_or a k (pos 0) +ℤ get_or b k (pos 0) +ℤ get_or c k (pos 0) +ℤ pos 16) 32)

three_values : (A B C : List ℕ) (k : ℕ) (x y z : ℤ) → Lane w16 A k x → Lane w16 B k y → Lane w16 C k z → unsigned_abs x ≤ 10200 → unsigned_abs y ≤ 10200 →
    unsigned_abs z ≤ 10200 →
    Lane w16 (zip2 (λ x y. (x + y) % 2 ^ bits w16) (zip2 (λ x y. (x + y) % 2 ^ bits w16) (zip2 (λ x y. (x + y) % 2 ^ bits w16) A B) C)
    (map (of_z w16) (replicate 8 (pos 16)))) k (x +ℤ y +ℤ z +ℤ pos 16)
three_values A B C k x y z a b c p q r =
    let one = sum_abs x y in
    let two = sum_abs (x +ℤ y) z in
    let all = sum_abs (x +ℤ y +ℤ z) (pos 16) in
    let sixteen = same_lane w16 (pos 16) k a.inside (record { sfits = omega arith }) in
    sum_lane w16 _ _ k (x +ℤ y +ℤ z) (pos 16)
    (sum_lane w16 _ _ k (x +ℤ y) z (sum_lane w16 A B k x y a b (fits_signed_from_abs w16 (x +ℤ y) (omega (arith, one, p, q)))) c
    (fits_signed_from_abs w16 (x +ℤ y +ℤ z) (omega (arith, one, two, p, q, r))))
    sixteen (fits_signed_from_abs w16 (x +ℤ y +ℤ z +ℤ pos 16) (omega (arith, one, two, all, p, q, r)))

pub three_lane : (a b c : List ℤ) (k : ℕ) → length a ≡ 8 → length b ≡ 8 → length c ≡ 8 → k < 8 →
    unsigned_abs (get_or a k (pos 0)) ≤ 10200 → unsigned_abs (get_or b k (pos 0)) ≤ 10200 → unsigned_abs (get_or c k (pos 0)) ≤ 10200 →
    Lane w16 (three_of a b c) k (pos (three_at a b c k))
three_lane a b c k ea eb ec p x y z =
    let of = λ (l : List ℤ) (e : length l ≡ 8) (s : unsigned_abs (get_or l k (pos 0)) ≤ 10200). signed_lane w16 l k e p
    (fits_signed_from_abs w16 (get_or l k (pos 0)) (omega (arith, s))) in
    sample_lane _ k _ (shifted_lane _ k _ (three_values _ _ _ k _ _ _ (of a ea x) (of b eb y) (of c ec z) x y z))

abbrev pub apart_of : List ℕ → List ℕ → List ℕ → List ℕ
apart_of a b c =
    clipped_of (zip2 (λ x y. (x + y) % 2 ^ bits w16)
    (zip2 (λ x y. of_z w16 (shr_z (to_z w16 x) (2 ^ y))) (zip2 (λ x y. (x + (2 ^ bits w16 - y)) % 2 ^ bits w16) (map (λ x. x) a) (map (λ x. x) b))
    (map (of_z w16) (replicate 8 (pos 5))))
    (map (λ x. x) c))

abbrev pub apart_at : List ℕ → List ℕ → List ℕ → ℕ → ℕ
apart_at a b c k = clip1 (shr_z (pos (get_or a k 0) -ℤ pos (get_or b k 0)) 32 +ℤ pos (get_or c k 0))

difference_size : (m n : ℕ) → m ≤ 16383 → n ≤ 16383 → FitsSigned w16 (pos m -ℤ pos n)
difference_size m n p q = fits_signed_from_abs w16 (pos m -ℤ pos n) (omega (arith, ints, p, q))

-- a 32nd of it is small enough for one more to be added
shifted_size : (z : ℤ) (n : ℕ) → FitsSigned w16 z → n ≤ 16383 → FitsSigned w16 (shr_z z 32 +ℤ pos n)
shifted_size (pos m) n h p = record { sfits = let s = h.sfits in omega arith }
shifted_size (negsuc m) n h p = fits_signed_from_abs w16 (shr_z (negsuc m) 32 +ℤ pos n) (let s = h.sfits in omega (arith, ints, s, p))

pub apart_lane : (a b c : List ℕ) (k : ℕ) → length a ≡ 8 → length b ≡ 8 → length c ≡ 8 → k < 8 → get_or a k 0 ≤ 16383 → get_or b k 0 ≤ 16383 →
    get_or c k 0 ≤ 16383 →
    Lane w16 (apart_of a b c) k (pos (apart_at a b c k))
apart_lane a b c k ea eb ec p x y z =
    let size = difference_size (get_or a k 0) (get_or b k 0) x y in
    let shifted = shifted_lane _ k _ (difference_lane w16 _ _ k _ _ (natural_lane w16 a k ea p (omega (arith, x)))
    (natural_lane w16 b k eb p (omega (arith, y))) size) in
    sample_lane _ k _ (sum_lane w16 _ _ k _ _ shifted (natural_lane w16 c k ec p (omega (arith, z)))
    (shifted_size (pos (get_or a k 0) -ℤ pos (get_or b k 0)) (get_or c k 0) size z))

-- ---- eight pairs

-- a list of one pair eight times
abbrev pub eight_pairs : ℤ → ℤ → List ℤ
eight_pairs y z = y ∷ z ∷ y ∷ z ∷ y ∷ z ∷ y ∷ z ∷ y ∷ z ∷ y ∷ z ∷ y ∷ z ∷ y ∷ z ∷ []

pub pair_of_eight : (y z : ℤ) (k : ℕ) → k < 8 → (get_or (eight_pairs y z) (2 * k) (pos 0) ≡ y) × (get_or (eight_pairs y z) (2 * k + 1) (pos 0) ≡ z)
pair_of_eight y z = below_8 (λ k. (get_or (eight_pairs y z) (2 * k) (pos 0) ≡ y) × (get_or (eight_pairs y z) (2 * k + 1) (pos 0) ≡ z))
    (refl, refl) (refl, refl) (refl, refl) (refl, refl) (refl, refl) (refl, refl) (refl, refl) (refl, refl)
