-- Bits of an RBSP that stand in the stream without a dropped byte between them. A working form.
use Rattle.std.specs.Prelude.{◌≡◌, ℕ, ◌+◌, ◌*◌, ◌<◌, ◌≤◌, ◌^◌, length}
use Rattle.h264_base.specs.Body.{Body, place}
use Rattle.h264_bits.specs.declared.stretch.Stretch.{Stretch}

-- each of the bits from this one to the last stands this far after its place in the RBSP
pub record IsStretch (body : Body) (from : ℕ) (s : Stretch) : Type 0 where
  pub some : from ≤ s.last
  pub inside : s.last ≤ 8 * length body.bytes
  pub steady : (i : ℕ) → from ≤ i → i ≤ s.last → (place body i ≡ i + s.shift) × (i + s.shift < 2 ^ 64)

-- so many bits from bit i on are there, and each stands in the stream right after the one before it
pub record AreTogether (body : Body) (i n : ℕ) : Type 0 where
  pub inside : i + n ≤ 8 * length body.bytes
  pub steady : (k : ℕ) → k ≤ n → place body (i + k) ≡ place body i + k
  pub fits : place body i + n < 2 ^ 64
