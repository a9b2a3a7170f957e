-- QP_Y,PRED after a macroblock, and macroblocks by the type of their slice and by runs.
use Rattle.std.proofs.Common.{◌≡◌, ◌≢◌, ℕ, zero, suc, ◌-◌, Bool, true, nat_lt, List, [], ◌∷◌, ◌++◌, length, Some, Result, refl, ap, arith, lt-ltb}
use Rattle.std.proofs.Common.{eq-eqb, length-append}
use Rattle.std.specs.List.{slice_get}
use Rattle.h264_base.specs.declared.mode.SliceType.{SliceType}
use Rattle.h264_base.specs.declared.stop.Stop.{Stop}
use Rattle.h264_base.specs.Call.{Call, span}
use Rattle.h264_base.specs.Meets.{Reader, Meets}
use Rattle.h264_near.specs.Coded.{CodedMacroblock}
use Rattle.h264_near.proofs.Places.{seam}
use Rattle.h264_vectors.specs.declared.slice.SliceContext.{SliceContext}
use Rattle.h264_mbsyntax.specs.declared.slice.Standing.TheVariants.{Skipping}
use Rattle.h264_mbsyntax.specs.Macroblock.{predicted_qp}
use Rattle.h264_mbsyntax.specs.Slice.{Step, by_slice_type, after_run, skip, next}

pub predicted-next : (slice : SliceContext) (picture : List CodedMacroblock) (m : CodedMacroblock) → m.slice ≡ slice.number →
    m.qp ≡ predicted_qp slice (picture ++ m ∷ [])
unfolding predicted_qp
predicted-next slice picture m e =
    let l = length-append picture (m ∷ []) in
    let some : nat_lt 0 (length (picture ++ m ∷ [])) ≡ true = lt-ltb 0 (length (picture ++ m ∷ [])) (omega arith) in
    let last : slice_get (picture ++ m ∷ []) (length (picture ++ m ∷ []) - 1) ≡ Some m = seam picture m [] _ (omega arith) in
    rw (some, last, eq-eqb m.slice slice.number e) refl

pub next-typed : {X S : Type 0} {took : S → List Call → Type 0} {failures : S → ℕ} {R : X → Step → Type 0} {old new : Reader} {s s' : S} {r : Result X Stop}
    (t want : SliceType) (fits : CodedMacroblock → Bool) (width : ℕ) (slice : SliceContext) (left : ℕ) (picture : List CodedMacroblock) → t ≡ want →
    Meets (span took failures s s') R (by_slice_type want fits width slice left picture) old new r →
    Meets (span took failures s s') R (by_slice_type t fits width slice left picture) old new r
next-typed t want fits width slice left picture e m = rw e m

-- a run that has some macroblocks left
pub after-some : (fits : CodedMacroblock → Bool) (width : ℕ) (slice : SliceContext) (left : ℕ) (picture : List CodedMacroblock) (bit n : ℕ) → n ≢ 0 →
    after_run fits width slice left picture (Skipping bit n) ≡ skip width slice picture bit (n - 1)
unfolding after_run
after-some fits width slice left picture bit zero h = absurd (h refl)
after-some fits width slice left picture bit (suc n) h = let e : n ≡ suc n - 1 = omega arith in ap (λ k. skip width slice picture bit k) e

pub next-some : (fits : CodedMacroblock → Bool) (width : ℕ) (slice : SliceContext) (left : ℕ) (picture : List CodedMacroblock) (bit n : ℕ) → n ≢ 0 →
    next fits width slice left picture (Skipping bit n) ≡ skip width slice picture bit (n - 1)
unfolding next
next-some fits width slice left picture bit zero h = absurd (h refl)
next-some fits width slice left picture bit (suc n) h = let e : n ≡ suc n - 1 = omega arith in ap (λ k. skip width slice picture bit k) e
