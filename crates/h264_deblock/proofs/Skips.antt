-- A skipped macroblock: no inner edge has a bS but 0, and those to others are told by one motion.
use Rattle.std.proofs.Common.{◌≡◌, ℕ, zero, suc, ◌<◌, ◌||◌, Bool, true, false, nat_lt, [], ◌∷◌, length, get_or, replicate, Some, None, refl, arith}
use Rattle.std.proofs.lemmas.List.{get_or-replicate}
use Rattle.h264_near.specs.Coded.{CodedMacroblock, are_blank}
use Rattle.h264_near.specs.Skips.{IsSkipped}
use Rattle.h264_near.specs.declared.context.Edge.{Edge}
use Rattle.h264_near.specs.declared.motion.Motion.{Motion}
use Rattle.h264_near.specs.declared.skipped.Skipped.{Skipped}
use Rattle.h264_near.proofs.Skips.{contexts_of, skipped-contexts}
use Rattle.h264_deblock.specs.CodedEdges.{strength_at, strengths}
use Rattle.h264_deblock.specs.Steps.{LiesAlong, number_at, inter_strength, inner_lines, still_line, are_like, IsEven}
use Rattle.h264_deblock.specs.declared.edge_parameters.BoundaryStrength.{BoundaryStrength}
use Rattle.h264_deblock.specs.declared.edge_parameters.BoundaryStrength.TheVariants.{Zero}
use Rattle.h264_deblock.proofs.CodedEdges.{four, few-at, outer-by, even-lines, blank, same-all, alike-self}

like-all : (m : Motion) (n : ℕ) → are_like (Some m) (replicate n (Some m)) ≡ true
like-all m zero = refl
like-all m (suc n) = rw (alike-self (Some m)) (like-all m n)

-- ---- inside

even-skip : (s : Skipped) → IsEven (contexts_of s)
even-skip s = record { blank = refl; one = record { each = λ n h. get_or-replicate 16 n (Some s.motion) None h } }

pub skip-lines : (v : Bool) (s : Skipped) (m : CodedMacroblock) → IsSkipped s m → still_line ∷ still_line ∷ still_line ∷ [] ≡ inner_lines v m
skip-lines v s m i = even-lines v (contexts_of s) m (skipped-contexts s m i) refl refl (even-skip s)

-- ---- to the macroblock beside

or-false : (a : Bool) → (a || false) ≡ a
or-false true = refl
or-false false = refl

module _ (v : Bool) (e : Edge) (s : Skipped) (p q : CodedMacroblock) (beside : LiesAlong v e p) (i : IsSkipped s q) (inter : e.intra ≡ false) where
  pub beside-skip : (k : ℕ) (bs : BoundaryStrength) → k < 4 → bs ≡ inter_strength (nat_lt 0 (get_or e.totals k 0)) (get_or e.motions k None) (Some s.motion) →
      bs ≡ strength_at v 0 p q k
  beside-skip k bs h is =
      let n = number_at v 0 k in
      let few : n < 16 = few-at v 0 k (omega arith) h in
      outer-by v k e (contexts_of s) p q bs h beside (skipped-contexts s q i) inter refl
      (rw (get_or-replicate {A = ℕ} 16 n 0 0 few, get_or-replicate 16 n (Some s.motion) None few, or-false (nat_lt 0 (get_or e.totals k 0))) is)

  module _ (t : length e.totals ≡ 4) (none : are_blank e.totals ≡ true) (like : are_like (Some s.motion) e.motions ≡ true) where
    still-at : (k : ℕ) → k < 4 → Zero ≡ strength_at v 0 p q k
    still-at k h =
        let moves = same-all e.motions (replicate 16 (Some s.motion)) (Some s.motion) k 0 like (like-all s.motion 16) in
        beside-skip k Zero h (rw (blank e.totals k none (omega arith), moves) refl)

    pub still-border : still_line ≡ strengths v 0 p q
    still-border = four v 0 p q Zero Zero Zero Zero (still-at 0 (omega arith)) (still-at 1 (omega arith)) (still-at 2 (omega arith)) (still-at 3 (omega arith))
