-- Numbers as bits.
use Rattle.std.proofs.Common.{◌≡◌, ℕ, zero, suc, ◌+◌, ◌-◌, ◌*◌, ◌/◌, ◌%◌, ◌^◌, ◌<◌, ◌≤◌, ◌==◌, true, false, [], ◌∷◌, ◌++◌, length, replicate, pos}
use Rattle.std.proofs.Common.{subst, refl, ap, sym, ◌∙◌, arith, append_assoc}
use Rattle.std.proofs.lemmas.Nat.{pow_pos, mod-pow-add, shr_le, shr_split, le-div, div_below, leading_top}
use Rattle.std.proofs.lemmas.List.{append-nil}
use Rattle.std.proofs.Math.Nat.{pow-suc, mod-eq_of_lt}
use Rattle.std.specs.Int.Count.{count_leading_zeros}
use Rattle.h264_base.specs.Word.{Word, number, digit, Unsigned, IsWord, IsGolomb}
use Rattle.h264_bits.proofs.Elements.{flag-is}
use Rattle.h264_write.specs.Written.{spelled}

pub length-spelled : (n v : ℕ) → length (spelled n v) ≡ n
unfolding spelled
length-spelled zero v = refl
length-spelled (suc n) v = ap suc (length-spelled n v)

last-one : (m : ℕ) → m % 2 ^ 0 ≡ 0
last-one m = omega arith

pub number-spelled : (n v : ℕ) → number (spelled n v) ≡ v % 2 ^ n
unfolding spelled
number-spelled zero v = sym (last-one v)
number-spelled (suc n) v =
    let l = length-spelled n v in
    let m = number-spelled n v in
    let s : v % 2 ^ (suc n) ≡ (v / 2 ^ n % 2) * 2 ^ n + v % 2 ^ n = (let e : suc n ≡ 1 + n = omega arith in rw e (mod-pow-add v 1 n)) in
    let d : digit (v / 2 ^ n % 2 == 1) ≡ v / 2 ^ n % 2 = flag-is (v / 2 ^ n % 2) (omega arith) in
    rw (l, m, d) (sym s)

pub number-whole : (n v : ℕ) → v < 2 ^ n → number (spelled n v) ≡ v
number-whole n v h = let m = number-spelled n v in m ∙ mod-eq_of_lt h

pub spelled-zero : (n : ℕ) → spelled n 0 ≡ replicate n false
unfolding spelled
spelled-zero zero = refl
spelled-zero (suc n) =
    let z : 0 / 2 ^ n ≡ 0 = (let h = shr_le 0 n in omega arith) in
    rw (z, spelled-zero n) refl

-- one more bit
pub spelled-more : (n i v : ℕ) (now old : Word) → i < n → now ++ spelled (n - i) v ≡ old →
    (now ++ (v / 2 ^ (n - 1 - i) % 2 == 1) ∷ []) ++ spelled (n - (i + 1)) v ≡ old
unfolding spelled
spelled-more n i v now old h e =
    let k : n - i ≡ suc (n - (i + 1)) = omega arith in
    let m : n - 1 - i ≡ n - (i + 1) = omega arith in
    let f = rw k at e in
    rw (m, append_assoc) f

pub spelled-over : (n i v : ℕ) (now old : Word) → n ≤ i → now ++ spelled (n - i) v ≡ old → now ≡ old
unfolding spelled
spelled-over n i v now old h e =
    let k : n - i ≡ 0 = omega arith in
    let f = rw k at e in
    sym (append-nil now) ∙ f

-- an Exp-Golomb word, as its zeros and the number after them
pub golomb-spelled : (k c value : ℕ) → k < 32 → 2 ^ k ≤ c → c < 2 ^ (suc k) → c ≡ value + 1 → IsGolomb (spelled k 0 ++ spelled (k + 1) c) value
unfolding spelled
golomb-spelled k c value few low high is =
    let p = pow_pos k in
    let q = pow-suc 2 k in
    let a = le-div 1 c (2 ^ k) p (omega arith) in
    let b = div_below c (2 ^ k) 2 p (omega arith) in
    let one : c / 2 ^ k ≡ 1 = omega arith in
    let s = shr_split c k in
    let n = number-spelled k c in
    let l = length-spelled k c in
    let more : k + 1 ≡ suc k = omega arith in
    let first : (c / 2 ^ k % 2 == 1) ≡ true = rw one refl in
    (spelled k c, rw l few, rw (l, spelled-zero k, more, first) refl, rw (l, n) (let t = rw one at s in omega arith))

-- the word of ue(v) has as many zeros as its number has bits after the first
pub golomb-leading : (value zeros : ℕ) → zeros ≡ 31 - count_leading_zeros 32 (value + 1) → value + 1 < 2 ^ 32 →
    IsWord Unsigned (spelled zeros 0 ++ spelled (zeros + 1) (value + 1)) (pos value)
golomb-leading value zeros is h =
    let t = leading_top 32 (value + 1) (omega arith) h in
    let l = t.1 in
    let e : zeros ≡ t.0 = omega arith in
    let P : ℕ → Type 0 = λ k. 2 ^ k ≤ value + 1 in
    let Q : ℕ → Type 0 = λ k. value + 1 < 2 ^ (suc k) in
    (value, golomb-spelled zeros (value + 1) value (omega arith) (subst P (sym e) t.2) (subst Q (sym e) t.3) refl, refl)

pub two-words : (old mid new u w : Word) → mid ≡ old ++ u → new ≡ mid ++ w → new ≡ old ++ (u ++ w)
two-words old mid new u w e f = f ∙ ap (λ (m : Word). m ++ w) e ∙ append_assoc old u w
