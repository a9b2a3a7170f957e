-- What the deblocking filter takes from two neighbouring 4x4 blocks, whatever their slices: bS (8.7.2.1). To be read beside the standard.
use Rattle.std.specs.Prelude.{ℕ, ◌==◌, nat_lt, nat_le, not, Bool, false, ◌||◌, Option, Some, None, ◌-ℤ◌, unsigned_abs, if◌then◌else◌}
use Rattle.std.specs.Option.{option_and_then}
use Rattle.std.proofs.Common.{get_or}
use Rattle.h264_plane.specs.Blocks.{number_of}
use Rattle.h264_near.specs.Coded.{CodedMacroblock, is_intra, motion_in}
use Rattle.h264_near.specs.declared.motion.Motion.{Motion}
use Rattle.h264_near.specs.declared.motion.Vector.{Vector}

-- a 4x4 luma block as the filter sees it
pub record Side : Type 0 where
  -- its macroblock is intra
  pub intra : Bool
  -- it has coefficients
  pub coded : Bool
  -- what it is predicted from; nothing in an intra macroblock
  pub motion : Option Motion

-- what the filter takes of a block
unfoldable pub side_part : ℕ → ℕ → CodedMacroblock → Option Side
side_part x y m = Some (record {
  intra = is_intra m.prediction;
  coded = nat_lt 0 (get_or m.totals (number_of x y) 0);
  motion = option_and_then (λ p. p) (motion_in m.prediction (number_of x y));
})

-- vectors that differ by a whole sample or more
abbrev pub far : Vector → Vector → Bool
far a b = nat_le 4 (unsigned_abs (a.x -ℤ b.x)) || nat_le 4 (unsigned_abs (a.y -ℤ b.y))

-- another picture, or such vectors; blocks without a reference are intra and are judged before
abbrev pub moves_apart : Option Motion → Option Motion → Bool
moves_apart (Some a) (Some b) = not (a.picture == b.picture) || far a.vector b.vector
moves_apart (Some a) None = false
moves_apart None b = false

-- bS of two blocks; outer says that they lie in two macroblocks
unfoldable pub strength_of : Bool → Side → Side → ℕ
strength_of outer p q =
    if p.intra || q.intra then (if outer then 4 else 3) else
    if p.coded || q.coded then 2 else
    if moves_apart p.motion q.motion then 1 else
    0

abbrev pub strength_between : Bool → Option Side → Option Side → Option ℕ
strength_between outer (Some p) (Some q) = Some (strength_of outer p q)
strength_between outer (Some p) None = None
strength_between outer None q = None
