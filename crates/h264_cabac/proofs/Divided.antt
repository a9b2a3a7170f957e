-- Several bins by bypass at once: a division by the range.
use Rattle.std.proofs.Common.{◌≡◌, ℕ, zero, suc, ◌+◌, ◌*◌, ◌-◌, ◌/◌, ◌%◌, ◌^◌, ◌<◌, ◌≤◌, List, length, Option, Some, None, refl, sym, ap, ◌∙◌, arith, inl, inr}
use Rattle.std.proofs.lemmas.Nat.{div-mul-add, mod-mul-add}
use Rattle.std.proofs.lemmas.Bool.{cases_lt, lt-ltb, le-ltb}
use Rattle.std.proofs.Math.Nat.{pow-succ', add-mul-div_right, add-mul-mod_self_right}
use Rattle.h264_base.specs.Word.{digit}
use Rattle.h264_bits.specs.Peek.{peek_at, bit_or_zero}
use Rattle.h264_bits.proofs.Peeks.{bit-inside, bit-outside, bit-below}
use Rattle.h264_cabac.specs.Engine.{EngineState, bypass, bypass_number}

-- the offset with n more bits
abbrev pub longer_offset : ℕ → EngineState → ℕ
longer_offset n e = e.offset * 2 ^ n + peek_at n e.bytes e.at

abbrev pub divided : ℕ → EngineState → EngineState
divided n e = record { bytes = e.bytes; at = e.at + n; range = e.range; offset = longer_offset n e % e.range }

answers : (bytes : List ℕ) (v w a b r o p : ℕ) → v ≡ w → a ≡ b → o ≡ p →
    ◌≡◌ {A = Option (ℕ × EngineState)} (Some (v, record { bytes = bytes; at = a; range = r; offset = o }))
    (Some (w, record { bytes = bytes; at = b; range = r; offset = p }))
answers bytes v w a b r o p e f g = rw (e, f, g) refl

-- the range is taken q times from the offset with one more bit, and what is left is longer by n bits
pub record IsStep (acc q o range p k v : ℕ) : Type 0 where
  pub quotient : (2 * acc + q) * p + (o * p + k) / range ≡ acc * (2 * p) + v / range
  pub rest : (o * p + k) % range ≡ v % range

step : (acc q o range p k v : ℕ) → 0 < range → v ≡ (o * p + k) + q * p * range → IsStep acc q o range p k v
step acc q o range p k v some e =
    let d : ((o * p + k) + q * p * range) / range ≡ (o * p + k) / range + q * p = add-mul-div_right (o * p + k) (q * p) some in
    let m : ((o * p + k) + q * p * range) % range ≡ (o * p + k) % range = add-mul-mod_self_right (o * p + k) (q * p) range in
    let f : (2 * acc + q) * p ≡ acc * (2 * p) + q * p = grind arith in
    record { quotient = rw (e, d) (omega arith); rest = rw (e, m) refl }

longer : (o d p k w : ℕ) → w ≡ 2 * o + d → o * (2 * p) + (d * p + k) ≡ w * p + k
longer o d p k w e = rw e (grind arith)

taken : (w range p k : ℕ) → range ≤ w → w * p + k ≡ ((w - range) * p + k) + 1 * p * range
taken w range p k h = let e : w ≡ (w - range) + range = omega arith in
    ap (λ x. x * p + k) e ∙ (let g : (w - range + range) * p + k ≡ ((w - range) * p + k) + 1 * p * range = grind arith in g)

pub bypass_number-inside : (n acc : ℕ) (e : EngineState) → e.offset < e.range → e.at + n ≤ 8 * length e.bytes →
    bypass_number n acc e ≡ Some (acc * 2 ^ n + longer_offset n e / e.range, divided n e)
unfolding bypass_number bypass peek_at
bypass_number-inside zero acc e below inside =
    let d : (0 * e.range + e.offset) / e.range ≡ 0 = div-mul-add 0 e.range e.offset below in
    let m : (0 * e.range + e.offset) % e.range ≡ e.offset = mod-mul-add 0 e.range e.offset below in
    let s : e.offset * 2 ^ 0 + 0 ≡ 0 * e.range + e.offset = omega arith in
    answers e.bytes _ _ _ _ e.range _ _ (rw (s, d) (omega arith)) (omega arith) (rw (s, m) refl)
bypass_number-inside (suc n) acc e below inside =
    let b = bit-inside e.bytes e.at (omega arith) in
    let small = bit-below e.bytes e.at in
    let bit = b.2 in
    let w : ℕ = 2 * e.offset + digit b.0 in
    let k : ℕ = peek_at n e.bytes (e.at + 1) in
    let power = pow-succ' 2 n in
    let long : longer_offset (suc n) e ≡ w * 2 ^ n + k =
    ap (λ p. e.offset * p + (bit_or_zero e.bytes e.at * 2 ^ n + k)) power ∙ longer e.offset (bit_or_zero e.bytes e.at) (2 ^ n) k w (omega arith) in
    elim (cases_lt w e.range) [
      | inl less ↦
          let next : EngineState = record { bytes = e.bytes; at = e.at + 1; range = e.range; offset = w } in
          let s = step acc 0 w e.range (2 ^ n) k (longer_offset (suc n) e) (omega arith) (let z : 0 * 2 ^ n * e.range ≡ 0 = grind arith in omega arith) in
          rw (b.1, lt-ltb _ _ less, bypass_number-inside n (2 * acc + 0) next less (omega arith))
          (answers e.bytes _ _ _ _ e.range _ _ (s.quotient ∙ ap (λ p. acc * p + longer_offset (suc n) e / e.range) (sym power)) (omega arith) s.rest)
      | inr more ↦
          let next : EngineState = record { bytes = e.bytes; at = e.at + 1; range = e.range; offset = w - e.range } in
          let s = step acc 1 (w - e.range) e.range (2 ^ n) k (longer_offset (suc n) e) (omega arith) (long ∙ taken w e.range (2 ^ n) k more) in
          rw (b.1, le-ltb _ _ more, bypass_number-inside n (2 * acc + 1) next (omega arith) (omega arith))
          (answers e.bytes _ _ _ _ e.range _ _ (s.quotient ∙ ap (λ p. acc * p + longer_offset (suc n) e / e.range) (sym power)) (omega arith) s.rest)
    ]

pub bypass_number-outside : (n acc : ℕ) (e : EngineState) → e.at ≤ 8 * length e.bytes → 8 * length e.bytes < e.at + n → bypass_number n acc e ≡ None
unfolding bypass_number bypass
bypass_number-outside zero acc e from outside = absurd (omega arith)
bypass_number-outside (suc n) acc e from outside = elim (cases_lt e.at (8 * length e.bytes)) [
  | inr past ↦ rw (bit-outside e.bytes e.at past) refl
  | inl inside ↦
      let b = bit-inside e.bytes e.at inside in
      let w : ℕ = 2 * e.offset + digit b.0 in
      elim (cases_lt w e.range) [
        | inl less ↦
            let next : EngineState = record { bytes = e.bytes; at = e.at + 1; range = e.range; offset = w } in
            rw (b.1, lt-ltb _ _ less, bypass_number-outside n (2 * acc + 0) next (omega arith) (omega arith)) refl
        | inr more ↦
            let next : EngineState = record { bytes = e.bytes; at = e.at + 1; range = e.range; offset = w - e.range } in
            rw (b.1, le-ltb _ _ more, bypass_number-outside n (2 * acc + 1) next (omega arith) (omega arith)) refl
      ]
]
