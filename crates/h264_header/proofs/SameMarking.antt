-- Operations and markings that the code finds equal are one.
use Rattle.std.proofs.Common.{◌≡◌, ℕ, ◌==◌, Bool, false, List, refl, ap}
use Rattle.std.proofs.lemmas.Bool.Decides.{Decides-and, Decides-like, Decides-eqb}
use Rattle.std.proofs.lemmas.Bool.{eqb-false}
use Rattle.std.specs.Bool.{Decides}
use Rattle.std.specs.Cmp.{booleans_Decides}
use Rattle.std.specs.Cmp.Lexicographic.{pointwise_decides}
use Rattle.arrayvec.specs.ArrayVec.{ArrayVec}
use Rattle.h264_header.specs.declared.header.Operation.{Operation}
use Rattle.h264_header.specs.declared.header.Operation.TheVariants as operation
use Rattle.h264_header.specs.declared.header.MarkingOperation.{MarkingOperation}
use Rattle.h264_header.specs.declared.header.Marking.{Marking}
use Rattle.h264_header.specs.declared.header.Marking.TheVariants as marking
use Rattle.h264_header.specs.Marking.{number_of}
use Rattle.h264_header.specs.contracts.header.OperationPartialEq.TheImpl as eq_operation
use Rattle.h264_header.specs.contracts.header.MarkingOperationPartialEq.TheImpl as eq_marking_operation
use Rattle.h264_header.specs.contracts.header.MarkingPartialEq.TheImpl as eq_marking

-- what is numbered otherwise is not the same
apart : {A : Type 0} (number : A → ℕ) (found : Bool) (a b : A) → (number a == number b) ≡ false → found ≡ false → Decides found (a ≡ b)
apart number found a b n f = (λ h. absurd (cc), λ e. absurd (eqb-false (number a) (number b) n (ap number e)))

-- the kinds of marking, numbered
abbrev mode_of : Marking → ℕ
mode_of (marking.Idr a i) = 0
mode_of marking.SlidingWindow = 1
mode_of (marking.Adaptive v) = 2

same-unmark_short_term : (a b : ℕ) → a ≡ b → operation.UnmarkShortTerm a ≡ operation.UnmarkShortTerm b
same-unmark_short_term a b e = ap operation.UnmarkShortTerm e

unmark_short_term-same : (a b : ℕ) → operation.UnmarkShortTerm a ≡ operation.UnmarkShortTerm b → a ≡ b
unmark_short_term-same a b e = cc

same-unmark_long_term : (a b : ℕ) → a ≡ b → operation.UnmarkLongTerm a ≡ operation.UnmarkLongTerm b
same-unmark_long_term a b e = ap operation.UnmarkLongTerm e

unmark_long_term-same : (a b : ℕ) → operation.UnmarkLongTerm a ≡ operation.UnmarkLongTerm b → a ≡ b
unmark_long_term-same a b e = cc

same-make_long_term : (a b : ℕ) (i j : ℕ) → a ≡ b → i ≡ j → operation.MakeLongTerm a i ≡ operation.MakeLongTerm b j
same-make_long_term a b i j e f = cc

make_long_term-same : (a b : ℕ) (i j : ℕ) → operation.MakeLongTerm a i ≡ operation.MakeLongTerm b j → (a ≡ b) × (i ≡ j)
make_long_term-same a b i j e = (cc, cc)

same-limit_long_term : (a b : ℕ) → a ≡ b → operation.LimitLongTerm a ≡ operation.LimitLongTerm b
same-limit_long_term a b e = ap operation.LimitLongTerm e

limit_long_term-same : (a b : ℕ) → operation.LimitLongTerm a ≡ operation.LimitLongTerm b → a ≡ b
limit_long_term-same a b e = cc

same-make_current_long_term : (a b : ℕ) → a ≡ b → operation.MakeCurrentLongTerm a ≡ operation.MakeCurrentLongTerm b
same-make_current_long_term a b e = ap operation.MakeCurrentLongTerm e

make_current_long_term-same : (a b : ℕ) → operation.MakeCurrentLongTerm a ≡ operation.MakeCurrentLongTerm b → a ≡ b
make_current_long_term-same a b e = cc

pub decides-operation : (a b : Operation) → Decides (eq_operation.ghosts.eq a b) (a ≡ b)
decides-operation (operation.UnmarkShortTerm a) (operation.UnmarkShortTerm b) =
    Decides-like _ (same-unmark_short_term a b) (unmark_short_term-same a b) (Decides-eqb a b)
decides-operation (operation.UnmarkShortTerm a) (operation.UnmarkLongTerm b) = apart number_of _ _ _ refl refl
decides-operation (operation.UnmarkShortTerm a) (operation.MakeLongTerm b j) = apart number_of _ _ _ refl refl
decides-operation (operation.UnmarkShortTerm a) (operation.LimitLongTerm b) = apart number_of _ _ _ refl refl
decides-operation (operation.UnmarkShortTerm a) operation.UnmarkAll = apart number_of _ _ _ refl refl
decides-operation (operation.UnmarkShortTerm a) (operation.MakeCurrentLongTerm b) = apart number_of _ _ _ refl refl
decides-operation (operation.UnmarkLongTerm a) (operation.UnmarkShortTerm b) = apart number_of _ _ _ refl refl
decides-operation (operation.UnmarkLongTerm a) (operation.UnmarkLongTerm b) =
    Decides-like _ (same-unmark_long_term a b) (unmark_long_term-same a b) (Decides-eqb a b)
decides-operation (operation.UnmarkLongTerm a) (operation.MakeLongTerm b j) = apart number_of _ _ _ refl refl
decides-operation (operation.UnmarkLongTerm a) (operation.LimitLongTerm b) = apart number_of _ _ _ refl refl
decides-operation (operation.UnmarkLongTerm a) operation.UnmarkAll = apart number_of _ _ _ refl refl
decides-operation (operation.UnmarkLongTerm a) (operation.MakeCurrentLongTerm b) = apart number_of _ _ _ refl refl
decides-operation (operation.MakeLongTerm a i) (operation.UnmarkShortTerm b) = apart number_of _ _ _ refl refl
decides-operation (operation.MakeLongTerm a i) (operation.UnmarkLongTerm b) = apart number_of _ _ _ refl refl
decides-operation (operation.MakeLongTerm a i) (operation.MakeLongTerm b j) =
    Decides-like _ (λ h. same-make_long_term a b i j h.0 h.1) (make_long_term-same a b i j) (Decides-and _ _ (Decides-eqb a b) (Decides-eqb i j))
decides-operation (operation.MakeLongTerm a i) (operation.LimitLongTerm b) = apart number_of _ _ _ refl refl
decides-operation (operation.MakeLongTerm a i) operation.UnmarkAll = apart number_of _ _ _ refl refl
decides-operation (operation.MakeLongTerm a i) (operation.MakeCurrentLongTerm b) = apart number_of _ _ _ refl refl
decides-operation (operation.LimitLongTerm a) (operation.UnmarkShortTerm b) = apart number_of _ _ _ refl refl
decides-operation (operation.LimitLongTerm a) (operation.UnmarkLongTerm b) = apart number_of _ _ _ refl refl
decides-operation (operation.LimitLongTerm a) (operation.MakeLongTerm b j) = apart number_of _ _ _ refl refl
decides-operation (operation.LimitLongTerm a) (operation.LimitLongTerm b) =
    Decides-like _ (same-limit_long_term a b) (limit_long_term-same a b) (Decides-eqb a b)
decides-operation (operation.LimitLongTerm a) operation.UnmarkAll = apart number_of _ _ _ refl refl
decides-operation (operation.LimitLongTerm a) (operation.MakeCurrentLongTerm b) = apart number_of _ _ _ refl refl
decides-operation operation.UnmarkAll (operation.UnmarkShortTerm b) = apart number_of _ _ _ refl refl
decides-operation operation.UnmarkAll (operation.UnmarkLongTerm b) = apart number_of _ _ _ refl refl
decides-operation operation.UnmarkAll (operation.MakeLongTerm b j) = apart number_of _ _ _ refl refl
decides-operation operation.UnmarkAll (operation.LimitLongTerm b) = apart number_of _ _ _ refl refl
decides-operation operation.UnmarkAll operation.UnmarkAll = (λ _. refl, λ _. refl)
decides-operation operation.UnmarkAll (operation.MakeCurrentLongTerm b) = apart number_of _ _ _ refl refl
decides-operation (operation.MakeCurrentLongTerm a) (operation.UnmarkShortTerm b) = apart number_of _ _ _ refl refl
decides-operation (operation.MakeCurrentLongTerm a) (operation.UnmarkLongTerm b) = apart number_of _ _ _ refl refl
decides-operation (operation.MakeCurrentLongTerm a) (operation.MakeLongTerm b j) = apart number_of _ _ _ refl refl
decides-operation (operation.MakeCurrentLongTerm a) (operation.LimitLongTerm b) = apart number_of _ _ _ refl refl
decides-operation (operation.MakeCurrentLongTerm a) operation.UnmarkAll = apart number_of _ _ _ refl refl
decides-operation (operation.MakeCurrentLongTerm a) (operation.MakeCurrentLongTerm b) =
    Decides-like _ (same-make_current_long_term a b) (make_current_long_term-same a b) (Decides-eqb a b)

same-marking_operation : (a b : ℕ) (o p : Operation) → a ≡ b → o ≡ p →
    (let m : MarkingOperation = record { bit = a; operation = o } in m) ≡ record { bit = b; operation = p }
same-marking_operation a b o p e f = cc

decides-marking_operation : (a b : MarkingOperation) → Decides (eq_marking_operation.ghosts.eq a b) (a ≡ b)
decides-marking_operation a b = Decides-like _ (λ h. same-marking_operation a.bit b.bit a.operation b.operation h.0 h.1)
    (λ e. (ap (λ (m : MarkingOperation). m.bit) e, ap (λ (m : MarkingOperation). m.operation) e))
    (Decides-and _ _ (Decides-eqb a.bit b.bit) (decides-operation a.operation b.operation))

same-idr : (a b : Bool) (i j : Bool) → a ≡ b → i ≡ j → marking.Idr a i ≡ marking.Idr b j
same-idr a b i j e f = cc

idr-same : (a b : Bool) (i j : Bool) → marking.Idr a i ≡ marking.Idr b j → (a ≡ b) × (i ≡ j)
idr-same a b i j e = (cc, cc)

same-adaptive : (v w : ArrayVec MarkingOperation) → v.items ≡ w.items → marking.Adaptive v ≡ marking.Adaptive w
same-adaptive v w e = ap (λ (xs : List MarkingOperation). marking.Adaptive (record { items = xs })) e

adaptive-same : (v w : ArrayVec MarkingOperation) → marking.Adaptive v ≡ marking.Adaptive w → v.items ≡ w.items
adaptive-same v w e = cc

pub decides-marking : (a b : Marking) → Decides (eq_marking.ghosts.eq a b) (a ≡ b)
decides-marking (marking.Idr a i) (marking.Idr b j) =
    Decides-like _ (λ h. same-idr a b i j h.0 h.1) (idr-same a b i j) (Decides-and _ _ (booleans_Decides a b) (booleans_Decides i j))
decides-marking (marking.Idr a i) marking.SlidingWindow = apart mode_of _ _ _ refl refl
decides-marking (marking.Idr a i) (marking.Adaptive w) = apart mode_of _ _ _ refl refl
decides-marking marking.SlidingWindow (marking.Idr b j) = apart mode_of _ _ _ refl refl
decides-marking marking.SlidingWindow marking.SlidingWindow = (λ _. refl, λ _. refl)
decides-marking marking.SlidingWindow (marking.Adaptive w) = apart mode_of _ _ _ refl refl
decides-marking (marking.Adaptive v) (marking.Idr b j) = apart mode_of _ _ _ refl refl
decides-marking (marking.Adaptive v) marking.SlidingWindow = apart mode_of _ _ _ refl refl
decides-marking (marking.Adaptive v) (marking.Adaptive w) =
    Decides-like _ (same-adaptive v w) (adaptive-same v w) (pointwise_decides decides-marking_operation v.items w.items)
