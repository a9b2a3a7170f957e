-- How many a filter leaves.
use Rattle.std.proofs.Common.{◌≡◌, ◌<◌, ◌≤◌, Bool, true, false, not, Some, List, [], ◌∷◌, length, ℤ, refl, cond, arith}
use Rattle.std.specs.Prelude.{◌||◌, ◌&&◌}
use Rattle.std.specs.List.{filter, list_any}
use Rattle.std.proofs.lemmas.List.Filters.{length-filter_both}
use Rattle.h264_marking.specs.declared.frame.ReferenceFrame.{ReferenceFrame}
use Rattle.h264_marking.specs.declared.frame.Numbering.{Numbering}
use Rattle.h264_marking.specs.Frames.{has_pic_num, without_pic_num}
use Rattle.h264_marking.specs.Window.{least_pic_num}
use Rattle.h264_marking.proofs.Least.{least_pic_num-held}

module _ {X : Type 0} (p : X → Bool) where
  kept-step : (b : Bool) (x : X) (ys : List X) (more : Bool) → (b || more) ≡ true → (more ≡ true → 0 < length ys) → 0 < length (cond b (x ∷ ys) ys)
  kept-step true x ys more h k = omega arith
  kept-step false x ys more h k = k h

  some-kept : (xs : List X) → list_any p xs ≡ true → 0 < length (filter p xs)
  some-kept [] h = cc
  some-kept (x ∷ xs) h = kept-step (p x) x (filter p xs) (list_any p xs) h (some-kept xs)

  -- one that passes goes
  pub fewer : (xs : List X) → list_any p xs ≡ true → length (filter (λ x. not (p x)) xs) < length xs
  fewer xs h = let some = some-kept xs h in let all = length-filter_both p (λ x. not (p x)) (λ _. refl) xs in omega arith

-- no more than there were
pub no-more : {X : Type 0} (p : X → Bool) (xs : List X) → length (filter p xs) ≤ length xs
no-more p xs = let all = length-filter_both p (λ x. not (p x)) (λ _. refl) xs in omega arith

-- the window leaves fewer
pub slid-fewer : (c : Numbering) (least : ℤ) (xs : List ReferenceFrame) → least_pic_num c xs ≡ Some least → length (without_pic_num c least xs) < length xs
slid-fewer c least xs h = fewer (has_pic_num c least) xs (least_pic_num-held c least xs h)

-- a test of those that are left
any_turn : (b t more : Bool) (some : Bool) → more ≡ some → (let r : Bool = cond b (t || more) more in r) ≡ ((t && b) || some)
any_turn true true more some e = refl
any_turn true false more some e = e
any_turn false true more some e = e
any_turn false false more some e = e

pub any_kept : {X : Type 0} (p q : X → Bool) (xs : List X) → list_any p (filter q xs) ≡ list_any (λ x. p x && q x) xs
any_kept p q [] = refl
any_kept p q (x ∷ xs) = elim (q x) as (λ b. list_any p (cond b (x ∷ filter q xs) (filter q xs)) ≡ ((p x && b) || list_any (λ x. p x && q x) xs)) [
  | true ↦ any_turn true (p x) _ _ (any_kept p q xs)
  | false ↦ any_turn false (p x) _ _ (any_kept p q xs)
]
