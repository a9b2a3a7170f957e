-- The parts of a macroblock by its partition: which places each has, and their motion.
use Rattle.std.proofs.Common.{◌≡◌, ◌⊎◌, inl, inr, ℕ, ◌+◌, ◌*◌, ◌/◌, ◌%◌, ◌<◌, ◌≤◌, List, get_or, Option, None, refl, sym, ap, ◌∙◌, arith}
use Rattle.h264_near.specs.declared.motion.Motion as derived
use Rattle.h264_near.specs.declared.partition.SubPartition.{SubPartition}
use Rattle.h264_near.specs.declared.partition.SubPartition.TheVariants as sub
use Rattle.h264_near.specs.declared.partition.Partition.{Partition}
use Rattle.h264_near.specs.declared.partition.Partition.TheVariants.{P16x16, P16x8, P8x16, P8x8}
use Rattle.h264_plane.specs.Blocks.{number_of}
use Rattle.h264_near.specs.Partition.{first_in_sub, first_of}
use Rattle.h264_plane.specs.declared.frame.Frame.{Frame}
use Rattle.h264_recon.specs.Pool.{HasRoom, HaveRoom}
use Rattle.h264_recon.specs.Predicted.{placed_motion, parted_motions}
use Rattle.h264_recon.specs.declared.macroblock.Motion.{Motion}
use Rattle.h264_recon.proofs.Parts.{IsNext, Moves}
use Rattle.h264_recon.proofs.Placed.{parted-place}
use Rattle.h264_recon.proofs.Pool.{motion_room}

-- ---- which places come next

pub rows_next : (k : ℕ) → IsNext (λ a b. b) (2 * k) 2 0 (2 * k) 4 2
rows_next k = record { earlier = go }
  where
    go : (a b : ℕ) → a < 4 → b < 4 → b < 2 * k + 2 → (a < 0) ⊎ ((0 + 4 ≤ a) ⊎ ((b < 2 * k) ⊎ (2 * k + 2 ≤ b))) → b < 2 * k
    go a b p q less (inl o) = absurd (omega arith)
    go a b p q less (inr (inl o)) = absurd (omega arith)
    go a b p q less (inr (inr (inl o))) = o
    go a b p q less (inr (inr (inr o))) = absurd (omega arith)

pub columns_next : (k : ℕ) → IsNext (λ a b. a) (2 * k) 2 (2 * k) 0 2 4
columns_next k = record { earlier = go }
  where
    go : (a b : ℕ) → a < 4 → b < 4 → a < 2 * k + 2 → (a < 2 * k) ⊎ ((2 * k + 2 ≤ a) ⊎ ((b < 0) ⊎ (0 + 4 ≤ b))) → a < 2 * k
    go a b p q less (inl o) = o
    go a b p q less (inr (inl o)) = absurd (omega arith)
    go a b p q less (inr (inr (inl o))) = absurd (omega arith)
    go a b p q less (inr (inr (inr o))) = absurd (omega arith)

pub quarter_next : (q : ℕ) → q < 4 → IsNext number_of (4 * q) 4 (2 * (q % 2)) (2 * (q / 2)) 2 2
unfolding number_of
quarter_next q few = record { earlier = go }
  where
    go : (a b : ℕ) → a < 4 → b < 4 → number_of a b < 4 * q + 4 → (a < 2 * (q % 2)) ⊎ ((2 * (q % 2) + 2 ≤ a) ⊎ ((b < 2 * (q / 2)) ⊎ (2 * (q / 2) + 2 ≤ b))) →
        number_of a b < 4 * q
    go a b p r less (inl o) = omega arith
    go a b p r less (inr (inl o)) = omega arith
    go a b p r less (inr (inr (inl o))) = omega arith
    go a b p r less (inr (inr (inr o))) = omega arith

pub block_next : (q k : ℕ) → q < 4 → k < 4 → IsNext number_of (4 * q + k) 1 (2 * (q % 2) + k % 2) (2 * (q / 2) + k / 2) 1 1
unfolding number_of
block_next q k few small = record { earlier = go }
  where
    go : (a b : ℕ) → a < 4 → b < 4 → number_of a b < 4 * q + k + 1 →
        (a < 2 * (q % 2) + k % 2) ⊎ ((2 * (q % 2) + k % 2 + 1 ≤ a) ⊎ ((b < 2 * (q / 2) + k / 2) ⊎ (2 * (q / 2) + k / 2 + 1 ≤ b))) → number_of a b < 4 * q + k
    go a b p r less (inl o) = omega arith
    go a b p r less (inr (inl o)) = omega arith
    go a b p r less (inr (inr (inl o))) = omega arith
    go a b p r less (inr (inr (inr o))) = omega arith

-- ---- their motion

moves_of : (partition : Partition) (places : List ℕ) (motions : List (Option derived.Motion)) (m : Motion) (n a0 b0 wa hb : ℕ) → m ≡
    placed_motion places (get_or motions n None) →
    ((a b : ℕ) → a < 4 → b < 4 → a0 ≤ a → a < a0 + wa → b0 ≤ b → b < b0 + hb → first_of partition (number_of ((4 * b + a) % 4) ((4 * b + a) / 4)) ≡ n) →
    Moves (parted_motions partition places motions) m a0 b0 wa hb
moves_of partition places motions m n a0 b0 wa hb is first = record {
  each = λ a b p q e f g h. is ∙ ap (λ z. placed_motion places (get_or motions z None)) (sym (first a b p q e f g h)) ∙
      sym (parted-place partition places motions (4 * b + a) (omega arith));
}

pub rows_move : (places : List ℕ) (motions : List (Option derived.Motion)) (m : Motion) (k : ℕ) → m ≡ placed_motion places (get_or motions (8 * k) None) →
    Moves (parted_motions P16x8 places motions) m 0 (2 * k) 4 2
unfolding number_of
rows_move places motions m k is = moves_of P16x8 places motions m (8 * k) 0 (2 * k) 4 2 is (λ a b p q e f g h. omega arith)

pub columns_move : (places : List ℕ) (motions : List (Option derived.Motion)) (m : Motion) (k : ℕ) → k < 2 →
    m ≡ placed_motion places (get_or motions (4 * k) None) → Moves (parted_motions P8x16 places motions) m (2 * k) 0 2 4
unfolding number_of
columns_move places motions m k small is = moves_of P8x16 places motions m (4 * k) (2 * k) 0 2 4 is (λ a b p q e f g h. omega arith)

-- the first block of the partition of a block, by quarter and place in it
in_quarter : (types : List SubPartition) (t : SubPartition) (n q k : ℕ) → n / 4 ≡ q → n % 4 ≡ k → get_or types q sub.P8x8 ≡ t →
    first_of (P8x8 types) n ≡ 4 * q + first_in_sub t k
in_quarter types t n q k e f is = rw (e, f, is) (omega arith)

pub quarter_moves : (types : List SubPartition) (places : List ℕ) (motions : List (Option derived.Motion)) (m : Motion) (q : ℕ) → q < 4 →
    get_or types q sub.P8x8 ≡ sub.P8x8 → m ≡ placed_motion places (get_or motions (4 * q) None) →
    Moves (parted_motions (P8x8 types) places motions) m (2 * (q % 2)) (2 * (q / 2)) 2 2
unfolding number_of
quarter_moves types places motions m q few one is = moves_of (P8x8 types) places motions m (4 * q) (2 * (q % 2)) (2 * (q / 2)) 2 2 is
    (λ a b p r e f g h. in_quarter types sub.P8x8 (number_of ((4 * b + a) % 4) ((4 * b + a) / 4)) q _ (omega arith) refl one ∙ omega arith)

pub block_moves : (types : List SubPartition) (places : List ℕ) (motions : List (Option derived.Motion)) (m : Motion) (t : SubPartition) (q k i : ℕ) → q < 4 →
    k < 4 → get_or types q sub.P8x8 ≡ t → i ≡ first_in_sub t k →
    m ≡ placed_motion places (get_or motions (4 * q + i) None) →
    Moves (parted_motions (P8x8 types) places motions) m (2 * (q % 2) + k % 2) (2 * (q / 2) + k / 2) 1 1
unfolding number_of
block_moves types places motions m t q k i few small is first moves =
    moves_of (P8x8 types) places motions m (4 * q + i) (2 * (q % 2) + k % 2) (2 * (q / 2) + k / 2) 1 1 moves
    (λ a b p r e f g h. in_quarter types t (number_of ((4 * b + a) % 4) ((4 * b + a) / 4)) q k (omega arith) (omega arith) is ∙ ap (λ z. 4 * q + z) (sym first))

-- a picture that a place has moves from has room
pub moves_room : (frames : List Frame) (c r : ℕ) (motion : List Motion) (m : Motion) (a b wa hb : ℕ) → HaveRoom frames c r motion → a < 4 → b < 4 → 0 < wa →
    0 < hb → Moves motion m a b wa hb → HasRoom frames c r m.picture
moves_room frames c r motion m a b wa hb room p q i j moves =
    motion_room frames c r motion (4 * b + a) m m.picture room (omega arith) (moves.each a b p q (omega arith) (omega arith) (omega arith) (omega arith)) refl

-- where all places move as one, so much room is enough
pub one_room : (frames : List Frame) (c r : ℕ) (places : List ℕ) (motions : List (Option derived.Motion)) →
    HasRoom frames c r (placed_motion places (get_or motions 0 None)).picture → HaveRoom frames c r (parted_motions P16x16 places motions)
one_room frames c r places motions room n h = rw (parted-place P16x16 places motions n h) room
