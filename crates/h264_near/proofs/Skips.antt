-- What neighbours need of a skipped macroblock.
use Rattle.std.proofs.Common.{◌≡◌, ℕ, suc, ◌+◌, ◌*◌, ◌/◌, ◌%◌, ◌<◌, ◌==◌, List, [], ◌∷◌, ◌++◌, length, replicate, Option, Some, None, true, false}
use Rattle.std.proofs.Common.{refl, sym, ap, subst, ◌∙◌, arith, lit<, append_assoc, length-append, nat_lt, Bool}
use Rattle.std.proofs.lemmas.Bool.Decides.{nat_tests}
use Rattle.std.proofs.lemmas.List.{get_or-replicate, length-replicate, replicate-append-replicate}
use Rattle.h264_intra.specs.declared.luma4.Intra4x4PredMode.TheVariants.{Dc, Vertical}
use Rattle.h264_near.specs.declared.context.Contexts.{Contexts}
use Rattle.h264_near.specs.declared.skipped.Skipped.{Skipped}
use Rattle.h264_near.specs.Coded.{CodedMacroblock}
use Rattle.h264_near.specs.Beside.{edge_of}
use Rattle.h264_near.specs.Keeps.{AreContexts, Lower, Right}
use Rattle.h264_near.specs.Along.{edge_motion}
use Rattle.h264_near.specs.Motions.{neighbour}
use Rattle.h264_near.specs.declared.motion.Motion.{Motion}
use Rattle.h264_near.specs.declared.near.Near.{Near}
use Rattle.h264_near.specs.Keeps.{Keeps}
use Rattle.h264_near.proofs.Edges.{lower-edge, right-edge}
use Rattle.h264_near.proofs.Lookups.{motion-left}
use Rattle.h264_near.proofs.Places.{parts, remainder}
use Rattle.h264_near.specs.Skips.{IsSkipped}

-- all that is known of it
abbrev pub contexts_of : Skipped → Contexts
contexts_of s = record {
  slice = s.slice;
  intra = false;
  qp = s.qp;
  totals = replicate 16 0;
  chroma_totals = replicate 8 0;
  modes = replicate 16 Dc;
  motions = replicate 16 (Some s.motion);
}

pub skipped-contexts : (s : Skipped) (m : CodedMacroblock) → IsSkipped s m → AreContexts (contexts_of s) m
skipped-contexts s m i = record {
  slice = i.slice;
  intra = rw i.prediction refl;
  qp = rw i.prediction i.qp;
  totals = i.totals;
  chroma_totals = i.chroma_totals;
  modes = λ n h. rw (i.prediction, get_or-replicate 16 n Dc Vertical h) refl;
  motions = λ n h. rw (i.prediction, get_or-replicate 16 n (Some s.motion) None h) refl;
}

pub skipped-lower : (s : Skipped) (m : CodedMacroblock) → IsSkipped s m → Lower (edge_of s) m
skipped-lower s m i = lower-edge (contexts_of s) m (skipped-contexts s m i) refl refl (edge_of s) refl refl refl refl refl refl refl

pub skipped-right : (s : Skipped) (m : CodedMacroblock) → IsSkipped s m → Right (edge_of s) m
skipped-right s m i = right-edge (contexts_of s) m (skipped-contexts s m i) refl refl (edge_of s) refl refl refl refl refl refl refl

-- ---- some of them, one after another in a row

-- to the left of the next macroblock stands the one that is skipped
pub stands-left : (width : ℕ) (picture : List CodedMacroblock) (near : Near) (s : Skipped) (motions : List (Option Motion)) → 0 < width →
    Keeps width picture near → near.skipped ≡ Some s → neighbour width picture s.slice motions 0 1 ≡ Some (Some s.motion)
stands-left width picture near s motions some k i =
    let same : (s.slice == s.slice) ≡ true = grind (arith, nat_tests) in
    let own : edge_motion s.slice 0 (Some (edge_of s)) ≡ Some (Some s.motion) = rw same refl in
    sym (motion-left width picture s.slice some near motions 0 0 1 k refl refl (lit< tt)) ∙ ap (edge_motion s.slice 0) (near.beside s i) ∙ own

pub one-more : {A : Type 0} (xs : List A) (n : ℕ) (x : A) → (xs ++ replicate n x) ++ x ∷ [] ≡ xs ++ replicate (n + 1) x
one-more {A} xs n x = append_assoc xs (replicate n x) (x ∷ []) ∙ ap (λ (ys : List A). xs ++ ys) (replicate-append-replicate n 1 x)

-- the column after them
pub column-after : (width : ℕ) (picture : List CodedMacroblock) (n : ℕ) (m : CodedMacroblock) → length picture % width + n < width →
    length (picture ++ replicate n m) % width ≡ length picture % width + n
column-after width picture n m h =
    let p = parts (length picture) width in
    let l : length (picture ++ replicate n m) ≡ length picture + n =
    length-append picture (replicate n m) ∙ ap (λ k. length picture + k) (length-replicate n m) in
    remainder _ width (length picture / width) (length picture % width + n) h (omega arith)

-- what holds below a number and of it holds below the next one
pub below-next : (P : ℕ → Type 0) (n : ℕ) → ((k : ℕ) → k < n → P k) → P n → (k : ℕ) → k < n + 1 → P k
below-next P n before last k h = by (nat_lt k n) refl
  where
    by : (t : Bool) → nat_lt k n ≡ t → P k
    by true e = let l : k < n = grind (arith, nat_tests) in before k l
    by false e = let same : n ≡ k = grind (arith, nat_tests) in subst P same last
