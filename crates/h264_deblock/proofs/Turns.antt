-- Two numbers in turn; four numbers, each for its quarter of 16 places.
use Rattle.std.proofs.Common.{◌≡◌, ℕ, ◌%◌, ◌<◌, true, false, List, slice_index, [], ◌∷◌, refl}
use lib.Lanes.{pick_l}
use Rattle.h264_plane.proofs.Below.{below_16}
use Rattle.h264_deblock.specs.Rows.{in_turn}
use Rattle.h264_deblock.specs.Limits.{quarter}

pub at_first : (a b u : ℕ) → u % 2 ≡ 0 → a ≡ in_turn a b u
at_first a b u e = rw e refl

pub at_second : (a b u : ℕ) → u % 2 ≡ 1 → b ≡ in_turn a b u
at_second a b u e = rw e refl

-- ---- quarters

pub by_fours : (a : List ℕ) (n : ℕ) → n < 16 →
    slice_index (pick_l 0 a (0 ∷ 0 ∷ 0 ∷ 0 ∷ 1 ∷ 1 ∷ 1 ∷ 1 ∷ 2 ∷ 2 ∷ 2 ∷ 2 ∷ 3 ∷ 3 ∷ 3 ∷ 3 ∷ [])) n ≡ slice_index a (quarter false n)
by_fours a = below_16 _ refl refl refl refl refl refl refl refl refl refl refl refl refl refl refl refl

pub by_pairs : (a : List ℕ) (n : ℕ) → n < 16 →
    slice_index (pick_l 0 a (0 ∷ 0 ∷ 1 ∷ 1 ∷ 2 ∷ 2 ∷ 3 ∷ 3 ∷ 0 ∷ 0 ∷ 1 ∷ 1 ∷ 2 ∷ 2 ∷ 3 ∷ 3 ∷ [])) n ≡ slice_index a (quarter true n)
by_pairs a = below_16 _ refl refl refl refl refl refl refl refl refl refl refl refl refl refl refl refl
