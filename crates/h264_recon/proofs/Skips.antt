-- What constructs a skipped macroblock is what the coded macroblock gives to its construction.
use Rattle.std.proofs.Common.{◌≡◌, ℕ, ◌/◌, ◌%◌, Bool, true, List, length, replicate, Option, Some, None, ℤ, refl, ap, sym, ◌∙◌, arith, subst}
use Rattle.std.proofs.lemmas.List.{get_or-replicate}
use Rattle.h264_base.specs.declared.weight.Weights.{Weights}
use Rattle.h264_near.specs.Partition.{MovesByPartition}
use Rattle.h264_near.specs.declared.partition.Partition.TheVariants.{P16x16}
use Rattle.h264_near.specs.declared.motion.Motion.{Motion}
use Rattle.h264_near.specs.declared.skipped.Skipped.{Skipped}
use Rattle.h264_near.specs.Coded as coded
use Rattle.h264_plane.specs.Blocks.{number_of}
use Rattle.h264_near.specs.Coded.{CodedMacroblock}
use Rattle.h264_near.specs.Skips.{IsSkipped}
use Rattle.h264_near.proofs.Skips.{contexts_of, skipped-contexts}
use Rattle.h264_vectors.specs.declared.slice.SliceContext.{SliceContext}
use Rattle.h264_mbsyntax.specs.Possible.{IsPossible}
use Rattle.h264_recon.specs.Given.{available, no_sides, used_by, given, slice_settings}
use Rattle.h264_recon.specs.Levels.{levels_of}
use Rattle.h264_recon.specs.Placed.{ArePlaced, PointsInto}
use Rattle.h264_recon.specs.Predicted.{placed_motion, placed_at, placed_motions}
use Rattle.h264_recon.specs.Inter.{no_motion}
use Rattle.h264_recon.specs.Skips.{skipped, prediction_by}
use Rattle.h264_recon.proofs.FromPrediction.{from-inter}
use Rattle.h264_recon.proofs.FromRead.{given-is}
use Rattle.h264_recon.proofs.Placed.{points-at, motions-are}
use Rattle.h264_recon.proofs.Tables.{table-ext, table-replicate}
use Rattle.h264_recon.proofs.Weighted.{weights-given, whole-is}

-- its motion points into one of the places
pub skip-points : (s : Skipped) (places : List ℕ) → PointsInto places (prediction_by s places)
skip-points s places n h = rw (get_or-replicate 16 n (placed_motion places (Some s.motion)) no_motion h) (points-at places (Some s.motion))

one-placed : (places : List ℕ) (m : Motion) → replicate 16 (placed_motion places (Some m)) ≡ placed_motions places (replicate 16 (Some m))
unfolding placed_motions number_of
one-placed places m =
    table-replicate 16 (placed_motion places (Some m)) ∙ table-ext 16 (λ k. placed_motion places (Some m)) (placed_at places (replicate 16 (Some m)))
    (λ k i. ap (placed_motion places) (sym (get_or-replicate 16 (number_of (k % 4) (k / 4)) (Some m) None (omega arith))))

alike-all : (m : Option Motion) → MovesByPartition P16x16 (replicate 16 m)
alike-all m = record { each = λ n h. get_or-replicate 16 n m None h }

no-sides : (p : coded.Prediction) (motions : List (Option Motion)) (w : ℕ) (xs : List CodedMacroblock) (slice : ℕ) (constrained : Bool) → p ≡
    coded.Inter motions → no_sides ≡ used_by p (available w xs slice constrained)
unfolding used_by
no-sides p motions w xs slice constrained e = rw e refl

pub skip-given : (slice : SliceContext) (places : List ℕ) (place : ℕ → ℕ) (w : ℕ) (xs : List CodedMacroblock) (weights : List (Option Weights))
    (constrained : Bool) (offset : ℤ) (s : Skipped) (m : CodedMacroblock) → IsSkipped s m → length slice.references ≡ 16 →
    ArePlaced slice places place → IsPossible w slice xs m.prediction →
    skipped s places weights (levels_of offset m) ≡ given w xs place (slice_settings weights constrained offset) m
skip-given slice places place w xs weights constrained offset s m i l a t =
    let c = contexts_of s in
    let known = skipped-contexts s m i in
    given-is w xs place weights constrained offset m no_sides (prediction_by s places) _
    (no-sides m.prediction c.motions w xs m.slice constrained i.prediction)
    (from-inter place m.prediction _ _ i.prediction
    (motions-are slice places place c m _ l a known i.prediction (subst (IsPossible w slice xs) i.prediction t) (one-placed places s.motion)))
    (whole-is weights true c.motions (λ t. alike-all (Some s.motion)) ∙ weights-given c m weights known)
