-- Inner edges within the partitions of a macroblock.
use Rattle.std.proofs.Common.{◌≡◌, ◌≢◌, ℕ, ◌-◌, ◌*◌, ◌/◌, ◌<◌, ◌==◌, Bool, true, false, not, List, get_or, Option, None, refl, sym, ap, ◌∙◌, arith}
use Rattle.std.proofs.lemmas.Bool.{eq-eqb, false≢true}
use Rattle.h264_near.specs.declared.motion.Motion.{Motion}
use Rattle.h264_near.specs.declared.partition.SubPartition.{SubPartition}
use Rattle.h264_near.specs.declared.partition.SubPartition.TheVariants as sub
use Rattle.h264_near.specs.declared.partition.Partition.{Partition}
use Rattle.h264_near.specs.declared.partition.Partition.TheVariants.{P16x16, P16x8, P8x16, P8x8}
use Rattle.h264_plane.specs.Blocks.{number_of}
use Rattle.h264_near.specs.Partition.{first_of, MovesByPartition}
use Rattle.h264_deblock.specs.Steps.{number_at, AreJoined}
use Rattle.h264_deblock.proofs.CodedEdges.{few-at}

-- ---- edges

pub not_equal : (a b : ℕ) → a ≡ b → not (a == b) ≡ true → ⊥
not_equal a b e t = false≢true (sym (ap not (eq-eqb a b e)) ∙ t)

-- both blocks lie in one partition
joined : (p : Partition) (v : Bool) (line : ℕ) (motions : List (Option Motion)) → 0 < line → line < 4 →
    ((k : ℕ) → k < 4 → first_of p (number_at v (line - 1) k) ≡ first_of p (number_at v line k)) → MovesByPartition p motions → AreJoined v line motions
joined p v line motions some few same moves = record {
  each = λ k h. moves.each (number_at v (line - 1) k) (few-at v (line - 1) k (omega arith) h) ∙ ap (λ z. get_or motions z None) (same k h) ∙
      sym (moves.each (number_at v line k) (few-at v line k few h));
}

pub joined16x16 : (v : Bool) (line : ℕ) (motions : List (Option Motion)) → 0 < line → line < 4 → MovesByPartition P16x16 motions → AreJoined v line motions
joined16x16 v line motions some few moves = joined P16x16 v line motions some few (λ k h. refl) moves

pub joined16x8-columns : (line : ℕ) (motions : List (Option Motion)) → 0 < line → line < 4 → MovesByPartition P16x8 motions → AreJoined true line motions
unfolding number_of
joined16x8-columns line motions some few moves = joined P16x8 true line motions some few (λ k h. omega arith) moves

pub joined16x8-rows : (line : ℕ) (motions : List (Option Motion)) → 0 < line → line < 4 → line ≢ 2 → MovesByPartition P16x8 motions →
    AreJoined false line motions
unfolding number_of
joined16x8-rows line motions some few other moves = joined P16x8 false line motions some few (λ k h. omega arith) moves

pub joined8x16-rows : (line : ℕ) (motions : List (Option Motion)) → 0 < line → line < 4 → MovesByPartition P8x16 motions → AreJoined false line motions
unfolding number_of
joined8x16-rows line motions some few moves = joined P8x16 false line motions some few (λ k h. omega arith) moves

pub joined8x16-columns : (line : ℕ) (motions : List (Option Motion)) → 0 < line → line < 4 → line ≢ 2 → MovesByPartition P8x16 motions →
    AreJoined true line motions
unfolding number_of
joined8x16-columns line motions some few other moves = joined P8x16 true line motions some few (λ k h. omega arith) moves

-- sub-macroblocks of one partition each
whole-first : (types : List SubPartition) (n : ℕ) → n < 16 → ((q : ℕ) → q < 4 → get_or types q sub.P8x8 ≡ sub.P8x8) → first_of (P8x8 types) n ≡ n / 4 * 4
whole-first types n h whole = rw (whole (n / 4) (omega arith)) (omega arith)

pub joined8x8 : (types : List SubPartition) (v : Bool) (line : ℕ) (motions : List (Option Motion)) → 0 < line → line < 4 → line ≢ 2 →
    ((q : ℕ) → q < 4 → get_or types q sub.P8x8 ≡ sub.P8x8) → MovesByPartition (P8x8 types) motions → AreJoined v line motions
unfolding number_of
joined8x8 types v line motions some few other whole moves = joined (P8x8 types) v line motions some few
    (λ k h. whole-first types (number_at v (line - 1) k) (few-at v (line - 1) k (omega arith) h) whole ∙ same v k h ∙
    sym (whole-first types (number_at v line k) (few-at v line k few h) whole)) moves
  where
    same : (v : Bool) (k : ℕ) → k < 4 → number_at v (line - 1) k / 4 * 4 ≡ number_at v line k / 4 * 4
    same true k h = omega arith
    same false k h = omega arith
