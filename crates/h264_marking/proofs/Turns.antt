-- Operations in turn.
use Rattle.std.proofs.Common.{◌≡◌, ℕ, ◌+◌, ◌<◌, ◌≤◌, Bool, true, false, Some, None, Ok, Err, List, drop, take, map, ◌++◌, set, length, get_or, refl, ap, sym}
use Rattle.std.proofs.Common.{◌∙◌, add-one, drop-cons, arith}
use Rattle.std.proofs.lemmas.List.{drop_all, get_or_default}
use Rattle.std.proofs.lemmas.List.Edits.{map_over_more}
use Rattle.std.specs.Bool.{then_some}
use Rattle.h264_header.specs.declared.header.MarkingOperation.{MarkingOperation}
use Rattle.h264_marking.specs.declared.frame.Numbering.{Numbering}
use Rattle.h264_marking.specs.Operations.{Marks, operated, all_operated}

-- one that is met
pub all_operated-met : (c : Numbering) (os : List MarkingOperation) (i : ℕ) (d : MarkingOperation) (marks left : Marks) (r : Bool) → i < length os →
    r ≡ true → then_some r left ≡ operated c (get_or os i d).operation marks → all_operated c (drop i os) marks ≡ all_operated c (drop (i + 1) os) left
unfolding all_operated
all_operated-met c os i d marks left r h t is =
    rw (drop-cons os i d) (let met : operated c (get_or os i d).operation marks ≡ Some left = sym is ∙ rw t refl in rw (met, add-one) refl)

-- one that is not
pub all_operated-refused : (c : Numbering) (os : List MarkingOperation) (i : ℕ) (d : MarkingOperation) (marks left : Marks) (r : Bool) → i < length os →
    r ≡ false → then_some r left ≡ operated c (get_or os i d).operation marks → all_operated c (drop i os) marks ≡ Err (get_or os i d).bit
unfolding all_operated
all_operated-refused c os i d marks left r h t is =
    rw (drop-cons os i d) (let refused : operated c (get_or os i d).operation marks ≡ None = sym is ∙ rw t refl in rw refused refl)

pub all_operated-end : (c : Numbering) (os : List MarkingOperation) (i : ℕ) (marks : Marks) → length os ≤ i → all_operated c (drop i os) marks ≡ Ok marks
unfolding all_operated
all_operated-end c os i marks h = ap (λ (xs : List MarkingOperation). all_operated c xs marks) (drop_all i os h)

-- one more frame of a list that is changed in place
pub map-step : {X : Type 0} (f : X → X) (xs ys : List X) (i : ℕ) (d r : X) → i < length xs → length ys ≡ length xs → ys ≡ map f (take i xs) ++ drop i xs →
    r ≡ f (get_or ys i d) → set ys i r ≡ map f (take (i + 1) xs) ++ drop (i + 1) xs
map-step f xs ys i d r h l so_far is = ap (set ys i) is ∙ map_over_more f xs ys i (get_or ys i d) h so_far (get_or_default ys i d (get_or ys i d) (omega arith))
