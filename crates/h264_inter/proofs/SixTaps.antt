-- The filter of six taps, as eight lanes of 16 bits add it up.
use Rattle.std.proofs.Common.{◌≡◌, ℕ, inl, inr, ◌+◌, ◌-◌, ◌*◌, ◌/◌, ◌^◌, ◌<◌, ◌≤◌, refl, sym, ap, ◌∙◌, arith, min, ℤ, pos, negsuc, ◌+ℤ◌, ◌-ℤ◌, ◌*ℤ◌}
use Rattle.std.proofs.lemmas.Int.{ints}
use Rattle.std.proofs.lemmas.Bool.{cases_lt}
use Rattle.h264_inter.specs.Luma.{taps, half, central}
use Rattle.std.specs.Int.{int_shr}
use Rattle.h264_plane.specs.Clip.{clip, clip1}

clip_shr : (k q : ℕ) (z : ℤ) → ((n : ℕ) → z ≡ pos n → q ≡ n / 2 ^ k) → ((n : ℕ) → z ≡ negsuc n → q ≡ 0) → min q 255 ≡ clip 255 (int_shr z k)
clip_shr k q (pos n) f g = ap (λ m. min m 255) (f n refl)
clip_shr k q (negsuc n) f g = ap (λ m. min m 255) (g n refl)

over : (a b c m : ℕ) → a ≤ 26520 → b ≤ 26520 → c ≤ 26520 → m + 5 * b + 81088 ≡ a + 20 * c →
    (((((a + 26520 - b) / 4 + c + 25370 - b) / 4) + c) - 13068) / 64 ≡ m / 1024
over a b c m p q r h = omega (arith, h)

under : (a b c : ℕ) → a ≤ 26520 → b ≤ 26520 → c ≤ 26520 → a + 20 * c < 5 * b + 81088 →
    (((((a + 26520 - b) / 4 + c + 25370 - b) / 4) + c) - 13068) / 64 ≡ 0
under a b c p q r h = omega (arith, h)

-- the sixteenth of the sum, in two steps, the first of which may stop at 0
steps : (a b c : ℕ) → a ≤ 26520 → b ≤ 26520 → c ≤ 26520 →
    min ((((((a + 26520 - b) / 4 + c + 25370 - b) / 4) + c) - 13068) / 64) 255 ≡
    central (pos a -ℤ pos 5100 -ℤ pos 5 *ℤ (pos b -ℤ pos 5100) +ℤ pos 20 *ℤ (pos c -ℤ pos 5100))
steps a b c p q r =
    clip_shr 10 ((((((a + 26520 - b) / 4 + c + 25370 - b) / 4) + c) - 13068) / 64)
    (pos a -ℤ pos 5100 -ℤ pos 5 *ℤ (pos b -ℤ pos 5100) +ℤ pos 20 *ℤ (pos c -ℤ pos 5100) +ℤ pos 512)
    (λ m e. (let h : m + 5 * b + 81088 ≡ a + 20 * c = omega (arith, ints, e) in over a b c m p q r h))
    (λ m e. (let h : a + 20 * c < 5 * b + 81088 = omega (arith, ints, e) in under a b c p q r h))

six_of : (e f g h i j : ℕ) → pos (e + j) -ℤ pos 5100 -ℤ pos 5 *ℤ (pos (f + i) -ℤ pos 5100) +ℤ pos 20 *ℤ (pos (g + h) -ℤ pos 5100)
    ≡ taps (pos e -ℤ pos 2550) (pos f -ℤ pos 2550) (pos g -ℤ pos 2550) (pos h -ℤ pos 2550) (pos i -ℤ pos 2550) (pos j -ℤ pos 2550)
unfolding taps
six_of e f g h i j = omega (arith, ints)

pub central_lane : (e f g h i j : ℕ) → e ≤ 13260 → f ≤ 13260 → g ≤ 13260 → h ≤ 13260 → i ≤ 13260 → j ≤ 13260 →
    min (((((((e + j) + 26520 - (f + i)) / 4 + (g + h) + 25370 - (f + i)) / 4) + (g + h)) - 13068) / 64) 255
    ≡ central (taps (pos e -ℤ pos 2550) (pos f -ℤ pos 2550) (pos g -ℤ pos 2550) (pos h -ℤ pos 2550) (pos i -ℤ pos 2550) (pos j -ℤ pos 2550))
central_lane e f g h i j p q r s t u = steps (e + j) (f + i) (g + h) (omega arith) (omega arith) (omega arith)
    ∙ ap central (six_of e f g h i j)

pub taps_lane : (e f g h i j n : ℕ) → n + 5 * (f + i) ≡ e + j + 20 * (g + h) + 2550 → pos n ≡ taps (pos e) (pos f) (pos g) (pos h) (pos i) (pos j) +ℤ pos 2550
unfolding taps
taps_lane e f g h i j n p = omega (arith, ints, p)

-- a 32nd of a number and one more, added
shr_and : (z : ℤ) (n : ℕ) → int_shr z 5 +ℤ pos n ≡ int_shr (z +ℤ pos (32 * n)) 5
shr_and (pos m) n = ap pos (let e : m / 32 + n ≡ (m + 32 * n) / 32 = omega arith in e)
shr_and (negsuc m) n =
    elim (cases_lt m (32 * n)) [
      | inl l ↦
          let sum : negsuc m +ℤ pos (32 * n) ≡ pos (32 * n - m - 1) = omega (arith, ints, l) in
          let part : negsuc (m / 32) +ℤ pos n ≡ pos ((32 * n - m - 1) / 32) = omega (arith, ints, l) in
          part ∙ sym (ap (λ z. int_shr z 5) sum)
      | inr g ↦
          let sum : negsuc m +ℤ pos (32 * n) ≡ negsuc (m - 32 * n) = omega (arith, ints, g) in
          let part : negsuc (m / 32) +ℤ pos n ≡ negsuc ((m - 32 * n) / 32) = omega (arith, ints, g) in
          part ∙ sym (ap (λ z. int_shr z 5) sum)
    ]

pub between_lane : (e f g h i j : ℕ) → clip1 (int_shr (pos (e + j + 16 + 20 * (g + h)) -ℤ pos (5 * (f + i))) 5 +ℤ pos 0) ≡
    half (taps (pos e) (pos f) (pos g) (pos h) (pos i) (pos j))
unfolding taps
between_lane e f g h i j =
    let sum : pos (e + j + 16 + 20 * (g + h)) -ℤ pos (5 * (f + i)) +ℤ pos (32 * 0) ≡ taps (pos e) (pos f) (pos g) (pos h) (pos i) (pos j) +ℤ pos 16 =
    omega (arith, ints) in
    ap clip1 (shr_and (pos (e + j + 16 + 20 * (g + h)) -ℤ pos (5 * (f + i))) 0 ∙ ap (λ z. int_shr z 5) sum)

pub sums_lane : (e f g h i j : ℕ) → clip1 (int_shr (pos (e + f + (i + j) + 16) -ℤ pos (6 * (f + g + (g + h) + (h + i)))) 5 +ℤ pos (g + h)) ≡
    half (taps (pos e) (pos f) (pos g) (pos h) (pos i) (pos j))
unfolding taps
sums_lane e f g h i j =
    let sum : pos (e + f + (i + j) + 16) -ℤ pos (6 * (f + g + (g + h) + (h + i))) +ℤ pos (32 * (g + h)) ≡
    taps (pos e) (pos f) (pos g) (pos h) (pos i) (pos j) +ℤ pos 16 = omega (arith, ints) in
    ap clip1 (shr_and (pos (e + f + (i + j) + 16) -ℤ pos (6 * (f + g + (g + h) + (h + i)))) (g + h) ∙ ap (λ z. int_shr z 5) sum)
