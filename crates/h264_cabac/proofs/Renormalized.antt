-- Renormalization by one count.
use Rattle.std.proofs.Common.{◌≡◌, ℕ, zero, suc, ◌+◌, ◌*◌, ◌^◌, ◌<◌, ◌≤◌, List, length, Some, None, refl, sym, ap, ◌∙◌, arith, inl, inr}
use Rattle.std.proofs.lemmas.Nat.{pow_pos}
use Rattle.std.proofs.lemmas.Bool.{cases_lt, lt-ltb, le-ltb}
use Rattle.std.proofs.Math.Nat.{pow-succ', mul-le-mul_right}
use Rattle.h264_base.specs.Word.{digit}
use Rattle.h264_bits.specs.Peek.{peek_at}
use Rattle.h264_bits.proofs.Peeks.{bit-inside, bit-outside}
use Rattle.h264_cabac.specs.Engine.{EngineState, doubled_below_256}

-- the engine after n doublings
abbrev pub after_doublings : ℕ → EngineState → EngineState
after_doublings n e = record { bytes = e.bytes; at = e.at + n; range = e.range * 2 ^ n; offset = e.offset * 2 ^ n + peek_at n e.bytes e.at }

engines : (bytes : List ℕ) (a b r s o p : ℕ) → a ≡ b → r ≡ s → o ≡ p →
    ◌≡◌ {A = EngineState} (record { bytes = bytes; at = a; range = r; offset = o }) (record { bytes = bytes; at = b; range = s; offset = p })
engines bytes a b r s o p e f g = rw (e, f, g) refl

doubled-range : (r p : ℕ) → 2 * r * p ≡ r * (2 * p)
doubled-range r p = grind arith

doubled-offset : (o d p k : ℕ) → (2 * o + d) * p + k ≡ o * (2 * p) + (d * p + k)
doubled-offset o d p k = grind arith

-- a range that is doubled once more is below 256
below-256 : (r p : ℕ) → 0 < p → r * (2 * p) < 512 → r < 256
below-256 r p some h = elim (cases_lt r 256) [
  | inl below ↦ below
  | inr past ↦ absurd (let m = mul-le-mul_right (2 * p) past in omega arith)
]

pub renormalized-inside : (n k : ℕ) (e : EngineState) → k ≤ n → 256 ≤ e.range * 2 ^ k → e.range * 2 ^ k < 512 → e.at + k ≤ 8 * length e.bytes →
    doubled_below_256 n e ≡ Some (after_doublings k e)
unfolding doubled_below_256 peek_at
renormalized-inside zero zero e few low high inside = ap Some (engines e.bytes _ _ _ _ _ _ (omega arith) (omega arith) (omega arith))
renormalized-inside zero (suc k) e few low high inside = absurd (omega arith)
renormalized-inside (suc n) zero e few low high inside =
    rw (le-ltb e.range 256 (omega arith)) (ap Some (engines e.bytes _ _ _ _ _ _ (omega arith) (omega arith) (omega arith)))
renormalized-inside (suc n) (suc k) e few low high inside =
    let power = pow-succ' 2 k in
    let high' : e.range * (2 * 2 ^ k) < 512 = (rw power at high) in
    let low' : 256 ≤ e.range * (2 * 2 ^ k) = (rw power at low) in
    let b = bit-inside e.bytes e.at (omega arith) in
    let next : EngineState = record { bytes = e.bytes; at = e.at + 1; range = 2 * e.range; offset = 2 * e.offset + digit b.0 } in
    let r = doubled-range e.range (2 ^ k) in
    let more = renormalized-inside n k next (omega arith) (omega arith) (omega arith) (omega arith) in
    let o = doubled-offset e.offset (digit b.0) (2 ^ k) (peek_at k e.bytes (e.at + 1)) in
    rw (lt-ltb e.range 256 (below-256 e.range (2 ^ k) (pow_pos k) high'), b.1, more)
    (ap Some (engines e.bytes _ _ _ _ _ _ (omega arith) (r ∙ sym (ap (λ p. e.range * p) power))
    (o ∙ rw (power, b.2) refl)))

pub renormalized-outside : (n k : ℕ) (e : EngineState) → k ≤ n → e.range * 2 ^ k < 512 → 256 ≤ e.range * 2 ^ k → 8 * length e.bytes < e.at + k →
    e.at ≤ 8 * length e.bytes → doubled_below_256 n e ≡ None
unfolding doubled_below_256
renormalized-outside n zero e few high low outside from = absurd (omega arith)
renormalized-outside zero (suc k) e few high low outside from = absurd (omega arith)
renormalized-outside (suc n) (suc k) e few high low outside from =
    let power = pow-succ' 2 k in
    let high' : e.range * (2 * 2 ^ k) < 512 = (rw power at high) in
    let low' : 256 ≤ e.range * (2 * 2 ^ k) = (rw power at low) in
    let small = lt-ltb e.range 256 (below-256 e.range (2 ^ k) (pow_pos k) high') in
    let r = doubled-range e.range (2 ^ k) in
    elim (cases_lt e.at (8 * length e.bytes)) [
      | inl below ↦
          let b = bit-inside e.bytes e.at below in
          let next : EngineState = record { bytes = e.bytes; at = e.at + 1; range = 2 * e.range; offset = 2 * e.offset + digit b.0 } in
          rw (small, b.1, renormalized-outside n k next (omega arith) (omega arith) (omega arith) (omega arith) (omega arith)) refl
      | inr past ↦ rw (small, bit-outside e.bytes e.at past) refl
    ]
