use Rattle.std.proofs.Common.{◌≡◌, ℕ, zero, suc, ◌+◌, ◌*◌, ◌-◌, ◌/◌, ◌^◌, ◌<◌, ◌≤◌, true, false, refl, arith, inl, inr}
use Rattle.std.proofs.lemmas.Bool.{cases_lt}
use Rattle.std.proofs.lemmas.Nat.{leading_length, div-mul-add}
use Rattle.std.proofs.Math.Nat.{pow-succ', pow-le-pow_right, div-eq_of_lt}
use lib.Count.{count_leading_zeros}
use Rattle.h264_base.specs.Table.{row}
use Rattle.h264_tables.specs.Front.{begins, front_of, found_of}
use Rattle.h264_tables.specs.LevelPrefix.{level_prefix, prefix_rows}
use Rattle.h264_tables.proofs.level_prefix.level_prefix_entry.Goals as goal

not-yet : (k z y : ℕ) → k < z → z < 16 → y < 2 ^ (16 - z) → begins 16 (row (suc k) 1 k) y ≡ false
unfolding begins
not-yet k z y before inside high =
    let below : 2 ^ (16 - z) ≤ 2 ^ (16 - suc k) = pow-le-pow_right (omega arith) (omega arith) in
    let none : y / 2 ^ (16 - suc k) ≡ 0 = div-eq_of_lt (omega arith) in
    rw none refl

here : (z y : ℕ) → z < 16 → y < 2 ^ (16 - z) → 2 ^ (16 - suc z) ≤ y → begins 16 (row (suc z) 1 z) y ≡ true
unfolding begins
here z y inside high low =
    let p = 2 ^ (16 - suc z) in
    let twice : 2 ^ (16 - z) ≡ 2 * p = (let s : 16 - z ≡ suc (16 - suc z) = omega arith in rw s (pow-succ' 2 (16 - suc z))) in
    let one : (1 * p + (y - p)) / p ≡ 1 = div-mul-add 1 p (y - p) (omega arith) in
    let whole : 1 * p + (y - p) ≡ y = omega arith in
    let first : y / 2 ^ (16 - suc z) ≡ 1 = rw whole at one in
    rw first refl

-- a 1 after z zeros is the word of z
one-after : (n k z y : ℕ) → k ≤ z → z < k + n → k + n ≤ 16 → y < 2 ^ (16 - z) → 2 ^ (16 - suc z) ≤ y → found_of (front_of 16 (prefix_rows n k) y) ≡ (suc z, z)
unfolding front_of prefix_rows
one-after zero k z y from to all high low = absurd (omega arith)
one-after (suc n) k z y from to all high low = elim (cases_lt k z) [
  | inl before ↦ rw (not-yet k z y before (omega arith) high) (one-after n (suc k) z y (omega arith) (omega arith) (omega arith) high low)
  | inr from_here ↦
      let same : k ≡ z = omega arith in
      rw (same, here z y (omega arith) high low) refl
]

pub returns-then-bits-eq0 : goal.returns-then-bits-eq0
unfolding front_of begins level_prefix prefix_rows
returns-then-bits-eq0 c = rw c.if-bits-eq0.true refl

pub returns : goal.returns
unfolding level_prefix
returns c =
    let y = c.args.bits in
    let z = count_leading_zeros 16 y in
    let l = leading_length 16 y c.ranges.bits.fits in
    let some = c.if-bits-eq0.false in
    let sum = l.1 in
    let inside : z < 16 = elim (cases_lt z 16) [
      | inl less ↦ less
      | inr all ↦ absurd (let none : l.0 ≡ 0 = omega arith in let below : y < 2 ^ 0 = (rw none at l.2) in omega arith)
    ] in
    let high : y < 2 ^ (16 - z) = (let e : 16 - z ≡ l.0 = omega arith in rw e l.2) in
    let low : 2 ^ (16 - suc z) ≤ y = (let twice = pow-succ' 2 (16 - suc z) in let e : l.0 ≡ suc (16 - suc z) = omega arith in
    let most : 2 ^ suc (16 - suc z) ≤ 2 * y + 1 = (rw e at l.3) in omega arith) in
    let e : z + 1 ≡ suc z = omega arith in
    rw (e, one-after 16 0 z y (omega arith) (omega arith) (omega arith) high low) refl
