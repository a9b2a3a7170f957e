-- Vectors of n numbers of width w without signs, at lane k.
use Rattle.std.proofs.Common.{◌≡◌, ℕ, nat_eq, inl, inr, ◌+◌, ◌-◌, ◌*◌, ◌%◌, ◌/◌, ◌^◌, ◌<◌, ◌≤◌, Bool, false, not, cond, ◌++◌, ◌∷◌, [], List, map, length}
use Rattle.std.proofs.Common.{get_or, replicate, sym, ap, ◌∙◌, arith, min, max, ltb, T, Fits}
use Rattle.std.proofs.Math.Nat.{mod-eq_of_lt}
use Rattle.std.proofs.lemmas.Simd.{bit_mask_l, bitmask_splat, get_or-zip2, get_or-replicate, length-zip2, length-replicate, tops_compared, get_or-sel_l}
use Rattle.std.proofs.lemmas.Simd.{Each1-get_or, length-sel_l, pick_l_left, pick_l_whole}
use Rattle.std.proofs.lemmas.Nat.{mod-mul-add}
use Rattle.std.proofs.lemmas.Grind.{common_steps}
use Rattle.std.proofs.lemmas.Bool.{cases_lt, cases_Bool}
use Rattle.std.proofs.lemmas.Bool.Decides.{nat_tests}
use Rattle.std.proofs.lemmas.List.{length-map, length-append, get_or-map, get_or_append_left, get_or-append_right}
use Rattle.std.specs.List.{range_with_len}
use lib.Lanes.{zip2, sel_l, top, Each1, mask_l, pick_l, all_below}
use mir.Syntax.{Width}
use mir.Val.{bits, hbits}

-- what is known of a vector
abbrev pub IsVector : Width → ℕ → List ℕ → Type 0
IsVector w n a = (length a ≡ n) × Each1 (Fits w) a

pub lane_fits : (w : Width) (n : ℕ) (a : List ℕ) (k : ℕ) → IsVector w n a → k < n → get_or a k 0 < 2 ^ bits w
lane_fits w n a k e p = (Each1-get_or (Fits w) a k 0 (omega (arith, e.0)) e.1).fits

-- ---- an operator of two vectors, and of a vector and a number

pub each : (n : ℕ) (f : ℕ → ℕ → ℕ) (a b : List ℕ) (k : ℕ) → length a ≡ n → length b ≡ n → k < n →
    get_or (zip2 f a b) k 0 ≡ f (get_or a k 0) (get_or b k 0)
each n f a b k e g p = get_or-zip2 f a b k 0 0 0 (omega (arith, e)) (omega (arith, g))

pub with_splat : (n : ℕ) (f : ℕ → ℕ → ℕ) (a : List ℕ) (b k : ℕ) → length a ≡ n → k < n →
    get_or (zip2 f a (replicate n b)) k 0 ≡ f (get_or a k 0) b
with_splat n f a b k e p = each n f a (replicate n b) k e (length-replicate n b) p ∙ ap (f (get_or a k 0)) (get_or-replicate n k b 0 p)

pub from_splat : (n : ℕ) (f : ℕ → ℕ → ℕ) (a : ℕ) (b : List ℕ) (k : ℕ) → length b ≡ n → k < n →
    get_or (zip2 f (replicate n a) b) k 0 ≡ f a (get_or b k 0)
from_splat n f a b k e p = each n f (replicate n a) b k (length-replicate n a) e p ∙ ap (λ z. f z (get_or b k 0)) (get_or-replicate n k a 0 p)

-- a shift after a number was added
pub shifted : (w : Width) (n : ℕ) (a : List ℕ) (more s q k : ℕ) → length a ≡ n → k < n → q ≡ 2 ^ s →
    get_or (zip2 (λ x y. x / 2 ^ y) (zip2 (λ x y. (x + y) % 2 ^ bits w) a (replicate n more)) (replicate n s)) k 0 ≡ (get_or a k 0 + more) % 2 ^ bits w / q
shifted w n a more s q k e p h =
    let long = length-zip2 (λ x y. (x + y) % 2 ^ bits w) a (replicate n more) (e ∙ sym (length-replicate n more)) ∙ e in
    with_splat n (λ x y. x / 2 ^ y) _ s k long p ∙ ap (λ z. z / 2 ^ s) (with_splat n (λ x y. (x + y) % 2 ^ bits w) a more k e p)
    ∙ ap (λ z. (get_or a k 0 + more) % 2 ^ bits w / z) (sym h)

-- ---- a choice by a comparison

abbrev pub chosen : Width → List ℕ → List ℕ → List ℕ → List ℕ → List ℕ
chosen w a b c d = sel_l (map (top (hbits w)) (zip2 (λ x y. cond (ltb x y) (2 ^ bits w - 1) 0) a b)) c d

pub length_chosen : (w : Width) (n : ℕ) (a b c d : List ℕ) → length a ≡ n → length b ≡ n → length c ≡ n → length d ≡ n →
    length (chosen w a b c d) ≡ n
length_chosen w n a b c d e f g h =
    let m = map (top (hbits w)) (zip2 (λ x y. cond (ltb x y) (2 ^ bits w - 1) 0) a b) in
    let one : length m ≡ n = length-map _ _ ∙ length-zip2 _ a b (e ∙ sym f) ∙ e in
    length-sel_l m c d (one ∙ sym g) (one ∙ sym h) ∙ one

pub chosen_lane : (w : Width) (n : ℕ) (a b c d : List ℕ) (k : ℕ) → length a ≡ n → length b ≡ n → length c ≡ n → length d ≡ n → k < n →
    get_or (chosen w a b c d) k 0 ≡ cond (ltb (get_or a k 0) (get_or b k 0)) (get_or c k 0) (get_or d k 0)
chosen_lane w n a b c d k e f g h p =
    let long = length-zip2 ltb a b (e ∙ sym f) ∙ e in
    ap (λ m. get_or (sel_l m c d) k 0) (tops_compared w ltb a b)
    ∙ get_or-sel_l (zip2 ltb a b) c d k 0 (omega (arith, long)) (omega (arith, g)) (omega (arith, h))
    ∙ ap (λ t. cond t (get_or c k 0) (get_or d k 0)) (get_or-zip2 ltb a b k 0 0 false (omega (arith, e)) (omega (arith, f)))

lesser : (x y : ℕ) → cond (ltb x y) x y ≡ min x y
lesser x y = grind arith

greater : (x y : ℕ) → cond (ltb x y) y x ≡ max x y
greater x y = grind arith

pub least_lane : (w : Width) (n : ℕ) (a b : List ℕ) (k : ℕ) → length a ≡ n → length b ≡ n → k < n →
    get_or (chosen w a b a b) k 0 ≡ min (get_or a k 0) (get_or b k 0)
least_lane w n a b k e f p = chosen_lane w n a b a b k e f e f p ∙ lesser _ _

pub least_with_splat : (w : Width) (n : ℕ) (a : List ℕ) (b k : ℕ) → length a ≡ n → k < n →
    get_or (chosen w a (replicate n b) a (replicate n b)) k 0 ≡ min (get_or a k 0) b
least_with_splat w n a b k e p = least_lane w n a (replicate n b) k e (length-replicate n b) p ∙ ap (min (get_or a k 0)) (get_or-replicate n k b 0 p)

pub greatest_lane : (w : Width) (n : ℕ) (a b : List ℕ) (k : ℕ) → length a ≡ n → length b ≡ n → k < n →
    get_or (chosen w a b b a) k 0 ≡ max (get_or a k 0) (get_or b k 0)
greatest_lane w n a b k e f p = chosen_lane w n a b b a k e f f e p ∙ greater _ _

-- ---- a difference that stops at 0, and a sum that stops at the greatest number

left_over : (m x y : ℕ) → x < m → y < m → (max x y + (m - y)) % m ≡ x - y
left_over m x y p q = elim (cases_lt x y) [
  | inl l ↦
      let sum : max x y + (m - y) ≡ 1 * m + 0 = omega (arith, l, q) in
      let none : 0 ≡ x - y = omega (arith, l) in
      ap (λ z. z % m) sum ∙ mod-mul-add 1 m 0 (omega (arith, p)) ∙ none
  | inr g ↦
      let sum : max x y + (m - y) ≡ 1 * m + (x - y) = omega (arith, g, q) in
      ap (λ z. z % m) sum ∙ mod-mul-add 1 m (x - y) (omega (arith, p))
]

pub above_lane : (w : Width) (n : ℕ) (a b : List ℕ) (k : ℕ) → IsVector w n a → IsVector w n b → k < n →
    get_or (zip2 (λ x y. (x + (2 ^ bits w - y)) % 2 ^ bits w) (chosen w a b b a) b) k 0 ≡ get_or a k 0 - get_or b k 0
above_lane w n a b k e f p =
    each n (λ x y. (x + (2 ^ bits w - y)) % 2 ^ bits w) _ b k (length_chosen w n a b b a e.0 f.0 f.0 e.0) f.0 p
    ∙ ap (λ z. (z + (2 ^ bits w - get_or b k 0)) % 2 ^ bits w) (greatest_lane w n a b k e.0 f.0 p)
    ∙ left_over (2 ^ bits w) _ _ (lane_fits w n a k e p) (lane_fits w n b k f p)

full : (m x y : ℕ) → x < m → (x + min y (m - 1 - x)) % m ≡ min (x + y) (m - 1)
full m x y p =
    let small : x + min y (m - 1 - x) < m = omega (arith, p) in
    let sum : x + min y (m - 1 - x) ≡ min (x + y) (m - 1) = omega (arith, p) in
    mod-eq_of_lt small ∙ sum

pub topped_lane : (w : Width) (n : ℕ) (a b : List ℕ) (k : ℕ) → IsVector w n a → length b ≡ n → k < n →
    get_or (zip2 (λ x y. (x + y) % 2 ^ bits w) a (chosen w b (map (λ x. 2 ^ bits w - 1 - x) a) b (map (λ x. 2 ^ bits w - 1 - x) a))) k 0
    ≡ min (get_or a k 0 + get_or b k 0) (2 ^ bits w - 1)
topped_lane w n a b k e f p =
    let c = map (λ x. 2 ^ bits w - 1 - x) a in
    let long : length c ≡ n = length-map _ _ ∙ e.0 in
    let rest : get_or c k 0 ≡ 2 ^ bits w - 1 - get_or a k 0 = get_or-map (λ x. 2 ^ bits w - 1 - x) a k 0 0 (omega (arith, e.0)) in
    each n (λ x y. (x + y) % 2 ^ bits w) a _ k e.0 (length_chosen w n b c b c f long f long) p
    ∙ ap (λ z. (get_or a k 0 + z) % 2 ^ bits w) (least_lane w n b c k f long p ∙ ap (min (get_or b k 0)) rest)
    ∙ full (2 ^ bits w) _ _ (lane_fits w n a k e p)

-- ---- a mask of no bits

no_bit : (ms : List Bool) (k : ℕ) → mask_l ms ≡ 0 → get_or ms k false ≡ false
no_bit ms k e = elim (cases_Bool (get_or ms k false)) [
  | inl on ↦
      let bit : mask_l ms / 2 ^ k % 2 ≡ 1 = bit_mask_l ms k ∙ ap (λ b. cond b 1 0) on in
      let none : 0 / 2 ^ k % 2 ≡ 1 = rw e at bit in
      absurd (grind (arith, none))
  | inr off ↦ off
]

unequal : (x : ℕ) → not (nat_eq x 0) ≡ false → x ≡ 0
unequal x e = grind (arith, nat_tests)

pub zero_lane : (w : Width) (n : ℕ) (a : List ℕ) → length a ≡ n → n ≤ 64 →
    mask_l (map (top (hbits w)) (zip2 (λ x y. cond (not (nat_eq x y)) (2 ^ bits w - 1) 0) a (replicate n 0))) % 2 ^ 64 ≡ 0 →
    (k : ℕ) → k < n → get_or a k 0 ≡ 0
zero_lane w n a e s h k p =
    let ms = map (λ x. not (nat_eq x 0)) a in
    let none : mask_l ms ≡ 0 = sym (bitmask_splat w (λ x y. not (nat_eq x y)) a n 0 e s) ∙ h in
    unequal (get_or a k 0) (sym (get_or-map (λ x. not (nat_eq x 0)) a k 0 false (omega (arith, e))) ∙ no_bit ms k none)

-- ---- lanes in another order

pub picked : (a : List ℕ) (places : List ℕ) (k j : ℕ) → k < length places → get_or places k 0 ≡ j → get_or (pick_l 0 a places) k 0 ≡ get_or a j 0
picked a places k j p e = get_or-map (λ j. get_or a j 0) places k 0 0 p ∙ ap (λ j. get_or a j 0) e

-- two vectors side by side
both_whole : (m n : ℕ) (a b : List ℕ) → length a ≡ m → length b ≡ n → pick_l 0 (a ++ b) (range_with_len 0 (m + n)) ≡ a ++ b
both_whole m n a b e f = pick_l_whole 0 (a ++ b) (m + n) (omega (arith, length-append a b, e, f))

pub first_beside : (m n : ℕ) (a b : List ℕ) (k : ℕ) → length a ≡ m → length b ≡ n → k < m →
    get_or (pick_l 0 (a ++ b) (range_with_len 0 (m + n))) k 0 ≡ get_or a k 0
first_beside m n a b k e f p = ap (λ (l : List ℕ). get_or l k 0) (both_whole m n a b e f) ∙ get_or_append_left a b 0 k (omega (arith, e))

pub second_beside : (m n : ℕ) (a b : List ℕ) (k : ℕ) → length a ≡ m → length b ≡ n →
    get_or (pick_l 0 (a ++ b) (range_with_len 0 (m + n))) (m + k) 0 ≡ get_or b k 0
second_beside m n a b k e f =
    let place : m + k - m ≡ k = omega arith in
    ap (λ (l : List ℕ). get_or l (m + k) 0) (both_whole m n a b e f) ∙ get_or-append_right a b m (m + k) 0 e (omega arith) ∙ ap (λ j. get_or b j 0) place

-- eight lanes and eight others in turn
abbrev pub in_turn : List ℕ
in_turn = 0 ∷ 8 ∷ 1 ∷ 9 ∷ 2 ∷ 10 ∷ 3 ∷ 11 ∷ 4 ∷ 12 ∷ 5 ∷ 13 ∷ 6 ∷ 14 ∷ 7 ∷ 15 ∷ []

pub place_in_turn : (k : ℕ) → k < 16 → get_or in_turn k 0 ≡ k / 2 + 8 * (k % 2)
place_in_turn k p = grind (arith, common_steps)

pub first_in_turn : (a b : List ℕ) (k : ℕ) → length a ≡ 8 → k < 8 → get_or (pick_l 0 (a ++ b) in_turn) (2 * k) 0 ≡ get_or a k 0
first_in_turn a b k e p =
    let place : 2 * k / 2 + 8 * (2 * k % 2) ≡ k = omega arith in
    picked (a ++ b) in_turn (2 * k) k (omega (arith, p)) (place_in_turn (2 * k) (omega (arith, p)) ∙ place) ∙ get_or_append_left a b 0 k (omega (arith, e, p))

pub second_in_turn : (a b : List ℕ) (k : ℕ) → length a ≡ 8 → k < 8 → get_or (pick_l 0 (a ++ b) in_turn) (2 * k + 1) 0 ≡ get_or b k 0
second_in_turn a b k e p =
    let place : (2 * k + 1) / 2 + 8 * ((2 * k + 1) % 2) ≡ 8 + k = omega arith in
    let back : 8 + k - 8 ≡ k = omega arith in
    picked (a ++ b) in_turn (2 * k + 1) (8 + k) (omega (arith, p)) (place_in_turn (2 * k + 1) (omega (arith, p)) ∙ place)
    ∙ get_or-append_right a b 8 (8 + k) 0 e (omega arith) ∙ ap (λ j. get_or b j 0) back

-- a vector shuffled with itself
pub swizzled : (n : ℕ) (a : List ℕ) (places : List ℕ) (k j : ℕ) → length a ≡ n → T (all_below n places) → k < length places → get_or places k 0 ≡ j →
    get_or (pick_l 0 (a ++ a) places) k 0 ≡ get_or a j 0
swizzled n a places k j e inside p h = ap (λ (l : List ℕ). get_or l k 0) (pick_l_left 0 a a n places e inside) ∙ picked a places k j p h
