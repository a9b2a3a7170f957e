-- Weighted sample prediction in explicit mode, from one reference picture (8.4.2.3.2). To be read beside the standard.
use Rattle.std.specs.Prelude.{◌≡◌, ℕ, zero, suc, ◌+◌, ◌^◌, ◌<◌, ◌≤◌, List, slice_index, ℤ, pos, negsuc, ◌+ℤ◌, ◌*ℤ◌, ◌≤ℤ◌, unsigned_abs}
use Rattle.std.specs.Int.{int_shr}
use Rattle.h264_base.specs.declared.weight.Weight.{Weight}
use Rattle.h264_plane.specs.Clip.{clip1}

-- shifted right by logWD bits, rounded where there are any
abbrev pub scaled : ℕ → ℤ → ℤ
scaled zero z = z
scaled (suc d) z = int_shr (z +ℤ pos (2 ^ d)) (suc d)

-- the weighted sample of a predicted one p
unfoldable pub weighted : Weight → ℕ → ℕ
weighted w p = clip1 (scaled w.log2_weight_denom (pos p *ℤ w.weight) +ℤ w.offset)

-- the weight of 1 with no offset, which leaves each sample as it is
pub record IsPlain (w : Weight) : Type 0 where
  pub weight : w.weight ≡ pos (2 ^ w.log2_weight_denom)
  pub offset : w.offset ≡ pos 0

-- the ranges of 7.4.3.2, with the inferred weight of 2 ^ 7
pub record IsInRange (w : Weight) : Type 0 where
  pub log2_weight_denom : w.log2_weight_denom ≤ 7
  pub weight : unsigned_abs w.weight ≤ 128
  pub offset_low : negsuc 127 ≤ℤ w.offset
  pub offset_high : w.offset ≤ℤ pos 127

-- count samples from a place on are weighted, and each other one is kept
pub record AreWeighted (count start : ℕ) (w : Weight) (old new : List ℕ) : Type 0 where
  pub here : (k : ℕ) → k < count → slice_index new (start + k) ≡ weighted w (slice_index old (start + k))
  pub before : (k : ℕ) → k < start → slice_index new k ≡ slice_index old k
  pub after : (k : ℕ) → start + count ≤ k → slice_index new k ≡ slice_index old k
