-- Runs of skipped macroblocks that stand still, as slice data go.
use Rattle.std.proofs.Common.{◌≡◌, ℕ, zero, suc, ◌+◌, ◌-◌, ◌≤◌, Bool, true, List, [], ◌∷◌, ◌++◌, replicate, Some, refl, ap, sym, ◌∙◌, arith}
use Rattle.std.proofs.Common.{append_assoc}
use Rattle.std.proofs.lemmas.List.{append-nil, replicate-append-replicate}
use Rattle.h264_base.specs.Body.{Body}
use Rattle.h264_base.specs.Call.{Call}
use Rattle.h264_base.specs.Grammar.{Grammar, ◌>>=◌, check}
use Rattle.h264_base.specs.Meets.{Reader}
use Rattle.h264_base.specs.Run.{run}
use Rattle.h264_base.proofs.Steps.{Leads, after}
use Rattle.h264_near.specs.Coded.{CodedMacroblock}
use Rattle.h264_near.specs.Motions.{neighbour}
use Rattle.h264_near.specs.declared.motion.Motion.{Motion}
use Rattle.h264_vectors.specs.Derived.{vector_fits}
use Rattle.h264_vectors.specs.Vectors.{skip_vector, zero_vector, keeps_still, none_derived}
use Rattle.h264_vectors.specs.declared.slice.SliceContext.{SliceContext}
use Rattle.h264_mbsyntax.specs.declared.slice.Standing.TheVariants.{Skipping}
use Rattle.h264_mbsyntax.specs.Macroblock.{coded, predicted_qp}
use Rattle.h264_mbsyntax.specs.Residual.{no_coefficients}
use Rattle.h264_mbsyntax.specs.Slice.{skipped_of, skip, next, macroblocks}
use Rattle.h264_mbsyntax.specs.Still.{with_still, StandStill}
use Rattle.h264_mbsyntax.proofs.Quantiser.{predicted-next}

-- beside a block that stands still a skipped macroblock does
pub still-beside : (width : ℕ) (picture : List CodedMacroblock) (slice : ℕ) (m : Motion) → neighbour width picture slice none_derived 0 1 ≡ Some (Some m) →
    keeps_still (Some (Some m)) ≡ true → skip_vector width picture slice ≡ zero_vector
unfolding skip_vector
still-beside width picture slice m n s = rw (n, s) refl

still-slice : (slice : SliceContext) (picture : List CodedMacroblock) → (skipped_of slice picture zero_vector).slice ≡ slice.number
unfolding skipped_of coded
still-slice slice picture = refl

still-qp : (slice : SliceContext) (picture : List CodedMacroblock) → (skipped_of slice picture zero_vector).qp ≡ predicted_qp slice picture
unfolding skipped_of coded no_coefficients
still-qp slice picture = refl

-- one more at the end
pub with-next : (slice : SliceContext) (picture : List CodedMacroblock) (n : ℕ) →
    with_still slice picture n ++ skipped_of slice picture zero_vector ∷ [] ≡ with_still slice picture (n + 1)
with-next slice picture n =
    let own = skipped_of slice picture zero_vector in
    append_assoc picture (replicate n own) (own ∷ []) ∙ ap (λ (ms : List CodedMacroblock). picture ++ ms) (replicate-append-replicate n 1 own)

-- QP_Y,PRED stays
pub still-predicted : (slice : SliceContext) (picture : List CodedMacroblock) (n : ℕ) →
    predicted_qp slice (with_still slice picture n) ≡ predicted_qp slice picture
still-predicted slice picture zero = ap (predicted_qp slice) (append-nil picture)
still-predicted slice picture (suc n) =
    let own = skipped_of slice picture zero_vector in
    let one : suc n ≡ n + 1 = omega arith in
    ap (λ k. predicted_qp slice (with_still slice picture k)) one ∙ ap (predicted_qp slice) (sym (with-next slice picture n)) ∙
    sym (predicted-next slice (with_still slice picture n) own (still-slice slice picture)) ∙ still-qp slice picture

-- and each of them is the same
same-still : (slice : SliceContext) (picture : List CodedMacroblock) (n : ℕ) →
    skipped_of slice (with_still slice picture n) zero_vector ≡ skipped_of slice picture zero_vector
unfolding skipped_of
same-still slice picture n = rw (still-predicted slice picture n) refl

module _ (fits : CodedMacroblock → Bool) (width : ℕ) (slice : SliceContext) (bit : ℕ) (body : Body) (i : ℕ) where
  -- one of a run
  one-still : (picture : List CodedMacroblock) (left more : ℕ) → skip_vector width picture slice.number ≡ zero_vector →
      vector_fits slice.vector_limit zero_vector ≡ true →
      run (macroblocks fits width slice (suc left) (Skipping bit (suc more)) picture) body i ≡
      run (macroblocks fits width slice left (Skipping bit more) (picture ++ skipped_of slice picture zero_vector ∷ [])) body i
  unfolding macroblocks next skip run ◌>>=◌ check
  one-still picture left more v f = rw (v, f) refl

  -- so many of a run
  some-still : (picture : List CodedMacroblock) (count left more : ℕ) → StandStill width slice picture count →
      run (macroblocks fits width slice (count + left) (Skipping bit (count + more)) picture) body i ≡
      run (macroblocks fits width slice left (Skipping bit more) (with_still slice picture count)) body i
  some-still picture zero left more s =
      let a : 0 + left ≡ left = omega arith in
      let b : 0 + more ≡ more = omega arith in
      ap (λ k. run (macroblocks fits width slice k (Skipping bit (0 + more)) picture) body i) a ∙
      ap (λ k. run (macroblocks fits width slice left (Skipping bit k) picture) body i) b ∙
      ap (λ p. run (macroblocks fits width slice left (Skipping bit more) p) body i) (sym (append-nil picture))
  some-still picture (suc n) left more s =
      let a : suc n + left ≡ n + suc left = omega arith in
      let b : suc n + more ≡ n + suc more = omega arith in
      let one : n + 1 ≡ suc n = omega arith in
      let fewer : StandStill width slice picture n = record { vectors = λ k h. s.vectors k (omega arith); fits = λ k h. s.fits k (omega arith) } in
      ap (λ k. run (macroblocks fits width slice k (Skipping bit (suc n + more)) picture) body i) a ∙
      ap (λ k. run (macroblocks fits width slice (n + suc left) (Skipping bit k) picture) body i) b ∙
      some-still picture n (suc left) (suc more) fewer ∙
      one-still (with_still slice picture n) left more (s.vectors n (omega arith)) (s.fits n (omega arith)) ∙
      ap (λ m. run (macroblocks fits width slice left (Skipping bit more) (with_still slice picture n ++ m ∷ [])) body i) (same-still slice picture n) ∙
      ap (λ p. run (macroblocks fits width slice left (Skipping bit more) p) body i) (with-next slice picture n ∙ ap (with_still slice picture) one)

-- slice data go on after so many of a run
pub still-on : {S : Type 0} {took : S → List Call → Type 0} {failures : S → ℕ} {g : Grammar (List CodedMacroblock)} {old bits : Reader} {s s' : S}
    (fits : CodedMacroblock → Bool) (width : ℕ) (slice : SliceContext) (bit left more count : ℕ) (picture : List CodedMacroblock) →
    StandStill width slice picture count → count ≤ left → count ≤ more →
    Leads took failures g (macroblocks fits width slice left (Skipping bit more) picture) old bits s s' →
    Leads took failures g (macroblocks fits width slice (left - count) (Skipping bit (more - count)) (with_still slice picture count)) old bits s s'
still-on {g = g} {old = old} {bits = bits} fits width slice bit left more count picture still a b l =
    let c : left ≡ count + (left - count) = omega arith in
    let d : more ≡ count + (more - count) = omega arith in
    record {
      before = l.before;
      goes = l.goes ∙ ap (after l.before)
          (ap (λ k. run (macroblocks fits width slice k (Skipping bit more) picture) old.body bits.at) c ∙
          ap (λ k. run (macroblocks fits width slice (count + (left - count)) (Skipping bit k) picture) old.body bits.at) d ∙
          some-still fits width slice bit old.body bits.at picture count (left - count) (more - count) still);
      tells = l.tells;
      quiet = l.quiet;
      same = l.same;
    }
