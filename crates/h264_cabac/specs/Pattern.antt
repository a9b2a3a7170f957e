-- coded_block_pattern (9.3.2.6, 9.3.3.1.1.4). To be read beside the standard.
use Rattle.std.specs.Prelude.{ℕ, ◌+◌, ◌*◌, Bool, not}
use Rattle.h264_base.specs.Word.{digit}
use Rattle.h264_cabac.specs.declared.pattern.Uncoded.{Uncoded}
use Rattle.h264_cabac.specs.Bins.{Bins, Value, ◌>>=◌, regular}
use Rattle.h264_cabac.specs.Elements.{chroma_pattern}

-- The ctxIdx of a bin of the luma part, by condTermFlagA and condTermFlagB: whether the block to the left, and the one above, has no coefficients.
abbrev pub pattern_index : Bool → Bool → ℕ
pattern_index left above = 73 + digit left + 2 * digit above

-- the luma part: a bin for each 8x8 block
abbrev pub luma_part : Uncoded → Bins ℕ
luma_part beside = do
  a ← regular (pattern_index beside.left_upper beside.above_left)
  b ← regular (pattern_index (not a) beside.above_right)
  c ← regular (pattern_index beside.left_lower (not a))
  d ← regular (pattern_index (not c) (not b))
  Value (digit a + 2 * digit b + 4 * digit c + 8 * digit d)

-- the chroma part
abbrev pub chroma_part : ℕ → ℕ → Bins ℕ
chroma_part first second = chroma_pattern (77 + first) (81 + second)
